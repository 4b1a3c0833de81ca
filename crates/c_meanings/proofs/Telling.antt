-- Parts that tell one behind another, and in scopes of their own.
use Rattle.std.proofs.Common.{◌≡◌, ℕ, ◌+◌, ◌<◌, ◌≤◌, List, [], ◌∷◌, ◌++◌, map, length, drop, get_or, refl, sym, ap, ◌∙◌, append_assoc, Result, Ok, Err}
use Rattle.std.specs.Prelude.{IfOk, OnOk}
use Rattle.std.proofs.lemmas.List.{drop_all, append-nil}
use Rattle.dpi_ports.specs.declared.no_memory.NoMemory.{NoMemory}
use Rattle.c_names.specs.Names.{Names, no_names}
use Rattle.c_walk.specs.Sight.{Sight, Walks, scopes, inside, after}
use Rattle.c_meanings.specs.Places.{Facts}
use Rattle.c_meanings.specs.Sight.{Tells, Says, behind, stays, brings, both, nothing, in_turn, scoped, IsBehind, Adds, IsKept, Keeps}
use Rattle.c_meanings.proofs.Adding.{rest_of, on_ok, both_added}

-- ---- two parts

pub is_behind_both : (t u : Tells) {s : Sight} {names' names'' : List Names} {list list' list'' : Facts} → IsBehind t s list names' list' → ((v : Sight) → names' ≡ scopes v → IsBehind u v list' names'' list'') → IsBehind (both t u) s list names'' list''
is_behind_both t u {s} {names'} {names''} {list} {list'} {list''} a b =
    let c = b (behind t s) a.scopes_are in
    record { scopes_are = c.scopes_are; list_is = both_added list list' list'' (t s).facts (u (behind t s)).facts a.list_is c.list_is }

pub behind_both : (t u : Tells) {s : Sight} {names' : List Names} (names'' : List Names) {list list' : Facts} (list'' : Facts) (r : Result (Unit {0}) NoMemory) → IsBehind t s list names' list' → Adds u names' list' r names'' list'' → OnOk r (IsBehind (both t u) s list names'' list'')
behind_both t u names'' list'' (Ok x) a b = is_behind_both t u a b
behind_both t u names'' list'' (Err e) a b = tt

-- a part that leaves no name in sight
pub is_stays : (b : Says) {names names' : List Names} {list list' : Facts} → IsKept (b names) names list names' list' → (s : Sight) → names ≡ scopes s → IsBehind (stays b) s list names' list'
is_stays b {names} {names'} {list} {list'} k s h = record { scopes_are = k.scopes_are ∙ h; list_is = k.list_is ∙ ap (λ n. list ++ b n) h }

pub stays_kept : (b : Says) (names names' : List Names) (list list' : Facts) (r : Result (Unit {0}) NoMemory) → Keeps b names list r names' list' → Adds (stays b) names list r names' list'
stays_kept b names names' list list' r k s h = on_ok r (λ l. is_stays b l s h) k

-- a part that changes no scope
pub is_said : (b : Says) {names : List Names} (list : Facts) {list' : Facts} → list' ≡ list ++ b names → (s : Sight) → names ≡ scopes s → IsBehind (stays b) s list names list'
is_said b {names} list {list'} n s h = record { scopes_are = h; list_is = n ∙ ap (λ m. list ++ b m) h }

pub adds_said : (b : Says) (names : List Names) (list list' : Facts) (r : Result (Unit {0}) NoMemory) → OnOk r (list' ≡ list ++ b names) → Adds (stays b) names list r names list'
adds_said b names list list' r n s h = on_ok r (λ m. is_said b list m s h) n

pub keeps_said : (b : Says) (names : List Names) (list list' : Facts) (r : Result (Unit {0}) NoMemory) → OnOk r (list' ≡ list ++ b names) → Keeps b names list r names list'
keeps_said b names list list' r n = on_ok r (λ m. record { scopes_are = refl; list_is = m }) n

-- a part that tells nothing
pub is_brought : (w : Walks) (s : Sight) (list : Facts) (names' : List Names) → names' ≡ scopes (after w s) → IsBehind (brings w) s list names' list
is_brought w s list names' h = record { scopes_are = h; list_is = sym (append-nil list) }

-- ---- parts that leave the scopes as they are

pub keeps_same : (b c : Says) (names names' : List Names) (list list' : Facts) (r : Result (Unit {0}) NoMemory) → ((n : List Names) → b n ≡ c n) → Keeps b names list r names' list' → Keeps c names list r names' list'
keeps_same b c names names' list list' r e k = on_ok r (λ l. record { scopes_are = l.scopes_are; list_is = l.list_is ∙ ap (λ fs. list ++ fs) (e names) }) k

pub kept_both : (b c : Says) {names names' names'' : List Names} {list list' list'' : Facts} → IsKept (b names) names list names' list' → IsKept (c names') names' list' names'' list'' → IsKept (b names ++ c names) names list names'' list''
kept_both b c {names} {names'} {names''} {list} {list'} {list''} k l = record {
  scopes_are = l.scopes_are ∙ k.scopes_are;
  list_is = both_added list list' list'' (b names) (c names) k.list_is (l.list_is ∙ ap (λ n. list' ++ c n) k.scopes_are);
}

pub keeps_both : (b c : Says) {names names' : List Names} (names'' : List Names) {list list' : Facts} (list'' : Facts) (r : Result (Unit {0}) NoMemory) → IsKept (b names) names list names' list' → Keeps c names' list' r names'' list'' → Keeps (λ n. b n ++ c n) names list r names'' list''
keeps_both b c names'' list'' (Ok u) k l = kept_both b c k l
keeps_both b c names'' list'' (Err e) k l = tt

-- what is said by the scopes as they are
pub kept_said : (fs : Facts) (names : List Names) (list list' : Facts) → list' ≡ list ++ fs → IsKept fs names list names list'
kept_said fs names list list' h = record { scopes_are = refl; list_is = h }

-- a part in a scope of its own
pub scoped_kept : (t : Tells) (scope : Names) {names names1 names2 names3 : List Names} {list list' : Facts} → scope ≡ no_names → names1 ≡ names ++ scope ∷ [] → ((v : Sight) → names1 ≡ scopes v → IsBehind t v list names2 list') → ((outer : List Names) (inner : Names) → names2 ≡ outer ++ inner ∷ [] → names3 ≡ outer) → IsKept (scoped t names) names list names3 list'
scoped_kept t scope {names} {names1} {names2} {names3} none enters tells leaves =
    let b = tells (inside names) (enters ∙ ap (λ n. names ++ n ∷ []) none) in
    record { scopes_are = leaves names (t (inside names)).inner b.scopes_are; list_is = b.list_is }

-- ---- loops

-- The scopes and the list so far in a loop over all parts, which begins with `s` in sight: the parts left over come to the same.
pub record IsFollowing (all left : Tells) (s : Sight) (start : Facts) (names : List Names) (list : Facts) : Type 0 where
  pub inner : Names
  pub scopes_are : names ≡ scopes (record { outer = s.outer; inner = inner })
  pub inner_same : (all s).inner ≡ (left (record { outer = s.outer; inner = inner })).inner
  pub list_same : start ++ (all s).facts ≡ list ++ (left (record { outer = s.outer; inner = inner })).facts

pub following_first : (t : Tells) (s : Sight) (list : Facts) {names : List Names} → names ≡ scopes s → IsFollowing t t s list names list
following_first t s list h = record { inner = s.inner; scopes_are = h; inner_same = refl; list_same = refl }

-- one part more
pub following_more : {all left : Tells} (t more : Tells) {s : Sight} {start list list' : Facts} {names names' : List Names} → left ≡ both t more → ((v : Sight) → names ≡ scopes v → IsBehind t v list names' list') → IsFollowing all left s start names list → IsFollowing all more s start names' list'
following_more {all} {left} t more {s} {start} {list} {list'} {names} {names'} split step loop =
    let v : Sight = record { outer = s.outer; inner = loop.inner } in
    let c = step v loop.scopes_are in
    record {
      inner = (t v).inner;
      scopes_are = c.scopes_are;
      inner_same = loop.inner_same ∙ ap (λ w. (w v).inner) split;
      list_same = loop.list_same ∙ ap (λ w. list ++ (w v).facts) split ∙ sym (append_assoc list (t v).facts (more (behind t v)).facts) ∙ ap (λ l. l ++ (more (behind t v)).facts) (sym c.list_is);
    }

-- none is left
pub following_last : {all left : Tells} {s : Sight} {start list : Facts} {names : List Names} → left ≡ nothing → IsFollowing all left s start names list → IsBehind all s start names list
following_last {all} {left} {s} {start} {list} {names} none loop =
    let v : Sight = record { outer = s.outer; inner = loop.inner } in
    record {
      scopes_are = loop.scopes_are ∙ ap (λ n. s.outer ++ n ∷ []) (sym (loop.inner_same ∙ ap (λ w. (w v).inner) none));
      list_is = sym (loop.list_same ∙ ap (λ w. list ++ (w v).facts) none ∙ append-nil list);
    }

pub turn_next : {X : Type 0} (of : X → Tells) (xs : List X) (i : ℕ) (x : X) → i < length xs → x ≡ get_or xs i x → in_turn (map of (drop i xs)) ≡ both (of x) (in_turn (map of (drop (i + 1) xs)))
turn_next of xs i x h e = ap (λ ys. in_turn (map of ys)) (rest_of xs i x h e)

pub turn_last : {X : Type 0} (of : X → Tells) (xs : List X) (i : ℕ) → length xs ≤ i → in_turn (map of (drop i xs)) ≡ nothing
turn_last of xs i h = ap (λ ys. in_turn (map of ys)) (drop_all i xs h)

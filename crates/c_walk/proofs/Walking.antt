-- Parts walked one behind another, and in scopes of their own.
use Rattle.std.proofs.Common.{◌≡◌, ℕ, suc, ◌+◌, ◌<◌, ◌≤◌, List, [], ◌∷◌, ◌++◌, map, length, drop, get_or, refl, sym, ap, ◌∙◌, add-one, Option, Result, Ok, Err}
use Rattle.std.specs.Prelude.{IfOk}
use Rattle.std.proofs.Math.Seq.{drop-cons}
use Rattle.std.proofs.lemmas.List.{drop_all}
use Rattle.dpi_ports.specs.declared.no_memory.NoMemory.{NoMemory}
use Rattle.dpi_rules.specs.declared.violation.Violation.{Violation}
use Rattle.dpi_rules.specs.Least.{noted}
use Rattle.dpi_rules.proofs.Firsts.{noted-append}
use Rattle.dpi_rules.proofs.Noting.{noted_both}
use Rattle.c_names.specs.Names.{Names, no_names}
use Rattle.c_walk.specs.Sight.{Sight, Walks, Breaks, scopes, inside, after, stays, both, nothing, in_turn, scoped, IsBehind, Behind, Follows, IsKept, Keeps}

pub rest_of : {X : Type 0} (xs : List X) (i : ℕ) (x : X) → i < length xs → x ≡ get_or xs i x → drop i xs ≡ x ∷ drop (i + 1) xs
rest_of xs i x h e = rw add-one (drop-cons xs i x h ∙ ap (λ y. y ∷ drop (suc i) xs) (sym e))

-- ---- two parts

pub is_behind_both : (v w : Walks) {s : Sight} {names' names'' : List Names} {found found' found'' : Option Violation} → IsBehind v s found names' found' → ((t : Sight) → names' ≡ scopes t → IsBehind w t found' names'' found'') → IsBehind (both v w) s found names'' found''
is_behind_both v w {s} {names'} {names''} {found} {found'} {found''} a b =
    let c = b (after v s) a.scopes_are in
    record { scopes_are = c.scopes_are; found_are = noted_both found (v s).found (w (after v s)).found a.found_are c.found_are }

pub behind_both : (v w : Walks) {s : Sight} {names' : List Names} (names'' : List Names) {found found' : Option Violation} (found'' : Option Violation) (r : Result (Unit {0}) NoMemory) → IsBehind v s found names' found' → Follows w names' found' r names'' found'' → Behind (both v w) s found r names'' found''
behind_both v w names'' found'' (Ok u) a b = is_behind_both v w a b
behind_both v w names'' found'' (Err e) a b = tt

-- a part that leaves no name in sight
pub is_stays : (b : Breaks) {names names' : List Names} {found found' : Option Violation} → IsKept (b names) names found names' found' → (s : Sight) → names ≡ scopes s → IsBehind (stays b) s found names' found'
is_stays b {names} {names'} {found} {found'} k s h = record { scopes_are = k.scopes_are ∙ h; found_are = k.found_are ∙ ap (λ n. noted found (b n)) h }

pub stays_kept : (b : Breaks) (names names' : List Names) (found found' : Option Violation) (r : Result (Unit {0}) NoMemory) → Keeps b names found r names' found' → Follows (stays b) names found r names' found'
stays_kept b names names' found found' (Ok u) k s h = is_stays b k s h
stays_kept b names names' found found' (Err e) k s h = tt

pub keeps_same : (b c : Breaks) (names names' : List Names) (found found' : Option Violation) (r : Result (Unit {0}) NoMemory) → ((n : List Names) → b n ≡ c n) → Keeps b names found r names' found' → Keeps c names found r names' found'
keeps_same b c names names' found found' (Ok u) e k = record { scopes_are = k.scopes_are; found_are = k.found_are ∙ ap (noted found) (e names) }
keeps_same b c names names' found found' (Err x) e k = tt

pub stays_noted : (b : Breaks) {names : List Names} (found : Option Violation) {found' : Option Violation} → found' ≡ noted found (b names) → (s : Sight) → names ≡ scopes s → IsBehind (stays b) s found names found'
stays_noted b {names} found {found'} n s h = record { scopes_are = h; found_are = n ∙ ap (λ m. noted found (b m)) h }

pub kept_both : (b c : Breaks) {names names' names'' : List Names} {found found' found'' : Option Violation} → IsKept (b names) names found names' found' → IsKept (c names') names' found' names'' found'' → IsKept (b names ++ c names) names found names'' found''
kept_both b c {names} {names'} {names''} {found} {found'} {found''} k l = record {
  scopes_are = l.scopes_are ∙ k.scopes_are;
  found_are = noted_both found (b names) (c names) k.found_are (l.found_are ∙ ap (λ n. noted found' (c n)) k.scopes_are);
}

pub keeps_both : (b c : Breaks) {names names' : List Names} (names'' : List Names) {found found' : Option Violation} (found'' : Option Violation) (r : Result (Unit {0}) NoMemory) → IsKept (b names) names found names' found' → Keeps c names' found' r names'' found'' → Keeps (λ n. b n ++ c n) names found r names'' found''
keeps_both b c names'' found'' (Ok u) k l = kept_both b c k l
keeps_both b c names'' found'' (Err e) k l = tt

-- a part in a scope of its own
pub scoped_kept : (w : Walks) (scope : Names) {names names1 names2 names3 : List Names} {found found' : Option Violation} → scope ≡ no_names → names1 ≡ names ++ scope ∷ [] → ((t : Sight) → names1 ≡ scopes t → IsBehind w t found names2 found') → ((outer : List Names) (inner : Names) → names2 ≡ outer ++ inner ∷ [] → names3 ≡ outer) → IsKept (scoped w names) names found names3 found'
scoped_kept w scope {names} {names1} {names2} {names3} none enters walks leaves =
    let b = walks (inside names) (enters ∙ ap (λ n. names ++ n ∷ []) none) in
    record { scopes_are = leaves names (w (inside names)).inner b.scopes_are; found_are = b.found_are }

-- ---- loops

-- The scopes and what is kept so far in a loop over all parts, which begins with `s` in sight: the parts left over come to the same.
pub record IsFollowing (all left : Walks) (s : Sight) (start : Option Violation) (names : List Names) (found : Option Violation) : Type 0 where
  pub inner : Names
  pub scopes_are : names ≡ scopes (record { outer = s.outer; inner = inner })
  pub inner_same : (all s).inner ≡ (left (record { outer = s.outer; inner = inner })).inner
  pub found_same : noted start (all s).found ≡ noted found (left (record { outer = s.outer; inner = inner })).found

pub following_first : (w : Walks) (s : Sight) (found : Option Violation) {names : List Names} → names ≡ scopes s → IsFollowing w w s found names found
following_first w s found h = record { inner = s.inner; scopes_are = h; inner_same = refl; found_same = refl }

-- one part more
pub following_more : {all left : Walks} (v more : Walks) {s : Sight} {start found found' : Option Violation} {names names' : List Names} → left ≡ both v more → ((t : Sight) → names ≡ scopes t → IsBehind v t found names' found') → IsFollowing all left s start names found → IsFollowing all more s start names' found'
following_more {all} {left} v more {s} {start} {found} {found'} {names} {names'} split step loop =
    let t : Sight = record { outer = s.outer; inner = loop.inner } in
    let c = step t loop.scopes_are in
    record {
      inner = (v t).inner;
      scopes_are = c.scopes_are;
      inner_same = loop.inner_same ∙ ap (λ w. (w t).inner) split;
      found_same = loop.found_same ∙ ap (λ w. noted found (w t).found) split ∙ noted-append found (v t).found (more (after v t)).found ∙ ap (λ o. noted o (more (after v t)).found) (sym c.found_are);
    }

-- none is left
pub following_last : {all left : Walks} {s : Sight} {start found : Option Violation} {names : List Names} → left ≡ nothing → IsFollowing all left s start names found → IsBehind all s start names found
following_last {all} {left} {s} {start} {found} {names} none loop =
    let t : Sight = record { outer = s.outer; inner = loop.inner } in
    record {
      scopes_are = loop.scopes_are ∙ ap (λ n. s.outer ++ n ∷ []) (sym (loop.inner_same ∙ ap (λ w. (w t).inner) none));
      found_are = sym (loop.found_same ∙ ap (λ w. noted found (w t).found) none);
    }

pub turn_next : {X : Type 0} (of : X → Walks) (xs : List X) (i : ℕ) (x : X) → i < length xs → x ≡ get_or xs i x → in_turn (map of (drop i xs)) ≡ both (of x) (in_turn (map of (drop (i + 1) xs)))
turn_next of xs i x h e = ap (λ ys. in_turn (map of ys)) (rest_of xs i x h e)

pub turn_last : {X : Type 0} (of : X → Walks) (xs : List X) (i : ℕ) → length xs ≤ i → in_turn (map of (drop i xs)) ≡ nothing
turn_last of xs i h = ap (λ ys. in_turn (map of ys)) (drop_all i xs h)

-- ---- a whole

pub whole_noted : (w : Walks) (s : Sight) (names' : List Names) (found found' : Option Violation) (vs : List Violation) (r : Result (Unit {0}) NoMemory) → (w s).found ≡ vs → Behind w s found r names' found' → IfOk r (λ _. found' ≡ noted found vs)
whole_noted w s names' found found' vs (Ok u) e b = b.found_are ∙ ap (noted found) e
whole_noted w s names' found found' vs (Err x) e b = tt

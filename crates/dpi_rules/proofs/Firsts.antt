-- What is kept of a list is its least.
use Rattle.std.proofs.Common.{◌≡◌, ◌<◌, List, [], ◌∷◌, ◌++◌, refl, sym, ap, ◌∙◌, subst, arith, Bool, true, false, Option, Some, None, ◌⊎◌, inl, inr, if◌then◌else◌}
use Rattle.std.specs.Prelude.{All, Contains}
use Rattle.std.proofs.lemmas.List.Elements.{All-nil, All-cons, All-contains, Contains-append_right}
use Rattle.dpi_rules.specs.declared.violation.Violation.{Violation}
use Rattle.dpi_rules.specs.Order.{before, lesser, joined}
use Rattle.dpi_rules.specs.Least.{noted, least, IsLeast, IsLeastOf, LeastIsLeast, JoinedIsLeast}
use Rattle.dpi_rules.proofs.Ordered.{before_self, before_back, before_neither, not_before_on, lesser_joined}

-- what is kept of a list behind a violation that was found before it
record Kept (start : Violation) (vs : List Violation) : Type 0 where
  kept : Violation
  is : noted (Some start) vs ≡ Some kept
  below : before start kept ≡ false
  first : All (λ w. before w kept ≡ false) vs
  among : (kept ≡ start) ⊎ Contains vs kept

contains_here : (v : Violation) (vs : List Violation) → Contains (v ∷ vs) v
contains_here v vs = (0, omega arith, refl)

later : (v x : Violation) (vs : List Violation) → Contains vs x → Contains (v ∷ vs) x
later v x vs h = Contains-append_right (v ∷ []) vs x h

-- it is the first of the list, or among the others
here_or_later : (v x : Violation) (vs : List Violation) → (x ≡ v) ⊎ Contains vs x → Contains (v ∷ vs) x
here_or_later v x vs (inl e) = subst (Contains (v ∷ vs)) (sym e) (contains_here v vs)
here_or_later v x vs (inr h) = later v x vs h

or_later : (start v x : Violation) (vs : List Violation) → (x ≡ start) ⊎ Contains vs x → (x ≡ start) ⊎ Contains (v ∷ vs) x
or_later start v x vs (inl e) = inl e
or_later start v x vs (inr h) = inr (later v x vs h)

kept_more : (start v : Violation) (vs : List Violation) (b : Bool) → before v start ≡ b → Kept v vs → Kept start vs → Kept start (v ∷ vs)
kept_more start v vs true h x y = record {
  kept = x.kept;
  is = ap (λ b. noted (if b then Some v else Some start) vs) h ∙ x.is;
  below = not_before_on x.kept v start x.below (before_back v start h);
  first = All-cons (λ w. before w x.kept ≡ false) v vs x.below x.first;
  among = inr (here_or_later v x.kept vs x.among);
}
kept_more start v vs false h x y = record {
  kept = y.kept;
  is = ap (λ b. noted (if b then Some v else Some start) vs) h ∙ y.is;
  below = y.below;
  first = All-cons (λ w. before w y.kept ≡ false) v vs (not_before_on y.kept start v y.below h) y.first;
  among = or_later start v y.kept vs y.among;
}

kept_of : (start : Violation) (vs : List Violation) → Kept start vs
kept_of start [] = record { kept = start; is = refl; below = before_self start; first = All-nil (λ w. before w start ≡ false); among = inl refl }
kept_of start (v ∷ vs) = kept_more start v vs (before v start) refl (kept_of v vs) (kept_of start vs)

least_is : (vs : List Violation) → IsLeastOf vs (least vs)
least_is [] = refl
least_is (v ∷ vs) =
    let k = kept_of v vs in
    let is_least : IsLeast (v ∷ vs) k.kept = record {
      among = here_or_later v k.kept vs k.among;
      first = All-cons (λ w. before w k.kept ≡ false) v vs k.below k.first;
    } in
    subst (IsLeastOf (v ∷ vs)) (sym k.is) is_least

not_in_none : (v : Violation) (vs : List Violation) → vs ≡ [] → Contains vs v → ⊥
not_in_none v vs e h =
    let none : Contains [] v = subst (λ us. Contains us v) e h in
    let below : none.0 < 0 = none.1 in
    absurd (omega arith)

only : (vs : List Violation) (a b : Option Violation) → IsLeastOf vs a → IsLeastOf vs b → a ≡ b
only vs None None h k = refl
only vs None (Some w) h k = absurd (not_in_none w vs h k.among)
only vs (Some v) None h k = absurd (not_in_none v vs k h.among)
only vs (Some v) (Some w) h k =
    ap Some (before_neither v w (All-contains (λ u. before u w ≡ false) vs v k.first h.among) (All-contains (λ u. before u v ≡ false) vs w h.first k.among))

pub least_is_least : LeastIsLeast
least_is_least = record { least_is = least_is; only = λ vs found h. only vs found (least vs) h (least_is vs) }

pub noted-joined : (a b : Option Violation) (vs : List Violation) → noted (joined a b) vs ≡ joined a (noted b vs)
noted-joined a b [] = refl
noted-joined a b (v ∷ vs) = ap (λ x. noted x vs) (lesser_joined a b v) ∙ noted-joined a (lesser b v) vs

pub noted-append : (start : Option Violation) (vs ws : List Violation) → noted start (vs ++ ws) ≡ noted (noted start vs) ws
noted-append start [] ws = refl
noted-append start (v ∷ vs) ws = noted-append (lesser start v) vs ws

-- a list that is noted behind what was found so far comes to its least, joined with that
pub noted_is_joined : (start : Option Violation) (vs : List Violation) → noted start vs ≡ joined start (least vs)
noted_is_joined start vs = noted-joined start None vs

pub joined_is_least : JoinedIsLeast
joined_is_least vs ws = noted-append None vs ws ∙ noted_is_joined (least vs) ws

-- Lists that a loop goes over.
use Rattle.std.proofs.Common.{◌≡◌, ℕ, suc, ◌+◌, ◌<◌, List, [], ◌∷◌, ◌++◌, length, drop, get_or, sym, ap, ◌∙◌, add-one, append_assoc, Option}
use Rattle.std.proofs.Math.Seq.{drop-cons}
use Rattle.dpi_rules.specs.declared.violation.Violation.{Violation}
use Rattle.dpi_rules.specs.Least.{noted}
use Rattle.dpi_rules.proofs.Firsts.{noted-append}

-- the item at a place, and what is left behind it
pub rest_of : {X : Type 0} (xs : List X) (i : ℕ) (x : X) → i < length xs → x ≡ get_or xs i x → drop i xs ≡ x ∷ drop (i + 1) xs
rest_of xs i x h e = rw add-one (drop-cons xs i x h ∙ ap (λ y. y ∷ drop (suc i) xs) (sym e))

-- one more item is made
pub made_more : {X : Type 0} (made next : List X) (x y : X) (left all : List X) → next ≡ made ++ x ∷ [] → x ≡ y → made ++ y ∷ left ≡ all → next ++ left ≡ all
made_more made next x y left all e is h = ap (λ xs. xs ++ left) e ∙ append_assoc made (x ∷ []) left ∙ ap (λ z. made ++ z ∷ left) is ∙ h

-- what one item holds is noted
pub noted_more : (all found next : Option Violation) (vs ws : List Violation) → next ≡ noted found vs → all ≡ noted found (vs ++ ws) → all ≡ noted next ws
noted_more all found next vs ws n h = h ∙ noted-append found vs ws ∙ ap (λ o. noted o ws) (sym n)

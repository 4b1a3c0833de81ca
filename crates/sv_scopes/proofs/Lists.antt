-- Lists that grow by what each part adds.
use Rattle.std.proofs.Common.{◌≡◌, ℕ, suc, ◌+◌, ◌<◌, List, ◌∷◌, ◌++◌, length, drop, get_or, sym, ap, ◌∙◌, add-one, append_assoc}
use Rattle.std.specs.Prelude.{flat_map}
use Rattle.std.proofs.Math.Seq.{drop-cons}

pub rest_of : {X : Type 0} (xs : List X) (i : ℕ) (x : X) → i < length xs → x ≡ get_or xs i x → drop i xs ≡ x ∷ drop (i + 1) xs
rest_of xs i x h e = rw add-one (drop-cons xs i x h ∙ ap (λ y. y ∷ drop (suc i) xs) (sym e))

-- one part more: what is listed and what the parts left over add come to the same
pub adding_next : {X A : Type 0} (of : X → List A) (all listed next : List A) (xs : List X) (i : ℕ) (x : X) → i < length xs → x ≡ get_or xs i x → next ≡ listed ++ of x → listed ++ flat_map of (drop i xs) ≡ all → next ++ flat_map of (drop (i + 1) xs) ≡ all
adding_next of all listed next xs i x h e n loop =
    let left = flat_map of (drop (i + 1) xs) in
    ap (λ l. l ++ left) n
    ∙ append_assoc listed (of x) left
    ∙ ap (λ l. listed ++ flat_map of l) (sym (rest_of xs i x h e))
    ∙ loop

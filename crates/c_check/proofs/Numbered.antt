-- Files noted in turn, each with its number.
use Rattle.std.proofs.Common.{◌≡◌, ℕ, suc, ◌+◌, ◌<◌, ◌≤◌, List, ◌∷◌, length, drop, get_or, sym, ap, ◌∙◌, add-one, Option}
use Rattle.std.proofs.Math.Seq.{drop-cons}
use Rattle.std.proofs.lemmas.List.{drop_all}
use Rattle.dpi_rules.specs.declared.violation.Violation.{Violation}
use Rattle.dpi_rules.specs.Least.{noted}
use Rattle.dpi_rules.proofs.Firsts.{noted-append}
use Rattle.c_tree.specs.declared.file.CFile.{CFile}
use Rattle.c_check.specs.Check.{file_violations, files_from}

rest_of : {X : Type 0} (xs : List X) (i : ℕ) (x : X) → i < length xs → x ≡ get_or xs i x → drop i xs ≡ x ∷ drop (i + 1) xs
rest_of xs i x h e = rw add-one (drop-cons xs i x h ∙ ap (λ y. y ∷ drop (suc i) xs) (sym e))

-- one more file
pub files_next : (start found : Option Violation) (fs : List CFile) (i number : ℕ) (f : CFile) → i < length fs → f ≡ get_or fs i f → (next : Option Violation) → next ≡ noted found (file_violations number f) → start ≡ noted found (files_from number (drop i fs)) → start ≡ noted next (files_from (number + 1) (drop (i + 1) fs))
files_next start found fs i number f h e next n loop =
    loop
    ∙ ap (λ ys. noted found (files_from number ys)) (rest_of fs i f h e)
    ∙ noted-append found (file_violations number f) (files_from (number + 1) (drop (i + 1) fs))
    ∙ ap (λ o. noted o (files_from (number + 1) (drop (i + 1) fs))) (sym n)

-- none is left
pub files_last : (start found : Option Violation) (fs : List CFile) (i number : ℕ) → length fs ≤ i → start ≡ noted found (files_from number (drop i fs)) → found ≡ start
files_last start found fs i number h loop = sym (loop ∙ ap (λ ys. noted found (files_from number ys)) (drop_all i fs h))

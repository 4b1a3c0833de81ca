-- As many lists of facts as files.
use Rattle.std.proofs.Common.{◌≡◌, ℕ, suc, ◌+◌, ◌≤◌, List, [], ◌∷◌, length, map, refl, sym, ap, ◌∙◌, subst}
use Rattle.c_tree.specs.declared.file.CFile.{CFile}
use Rattle.c_facts.specs.declared.facts.CFact.{CFact}
use Rattle.c_check.specs.Facts.{facts_from, facts_in}

length_map : {A B : Type 0} (f : A → B) (xs : List A) → length (map f xs) ≡ length xs
length_map f [] = refl
length_map f (x ∷ xs) = ap suc (length_map f xs)

length_facts : (n : ℕ) (fs : List CFile) → length (facts_from n fs) ≡ length fs
length_facts n [] = refl
length_facts n (f ∷ fs) = ap suc (length_facts (n + 1) fs)

pub few_facts : {A : Type 0} (f : A → List CFact) (xs : List A) (fs : List CFile) → map f xs ≡ facts_in fs → length fs ≤ 1000 → length xs ≤ 1000
few_facts f xs fs e h =
    let P : ℕ → Type 0 = λ n. n ≤ 1000 in
    subst P (sym (sym (length_map f xs) ∙ ap length e ∙ length_facts 0 fs)) h

-- Lists that grow by what each part adds.
use Rattle.std.proofs.Common.{◌≡◌, ℕ, suc, ◌+◌, ◌<◌, List, ◌∷◌, ◌++◌, length, drop, get_or, sym, ap, ◌∙◌, add-one, append_assoc, Result, Ok, Err}
use Rattle.std.specs.Prelude.{flat_map, map, OnOk}
use Rattle.std.proofs.Math.Seq.{drop-cons}
use Rattle.std.proofs.lemmas.List.{length-append}
use Rattle.dpi_ports.specs.declared.no_memory.NoMemory.{NoMemory}
use Rattle.sv_design.specs.Counted.{counted}

pub rest_of : {X : Type 0} (xs : List X) (i : ℕ) (x : X) → i < length xs → x ≡ get_or xs i x → drop i xs ≡ x ∷ drop (i + 1) xs
rest_of xs i x h e = rw add-one (drop-cons xs i x h ∙ ap (λ y. y ∷ drop (suc i) xs) (sym e))

-- one list added, and then another
pub both_added : {A : Type 0} (old middle new ds es : List A) → middle ≡ old ++ ds → new ≡ middle ++ es → new ≡ old ++ (ds ++ es)
both_added old middle new ds es d e = e ∙ ap (λ l. l ++ es) d ∙ append_assoc old ds es

pub adds_both : {A : Type 0} (old middle new ds es : List A) (r : Result (Unit {0}) NoMemory) → middle ≡ old ++ ds → OnOk r (new ≡ middle ++ es) → OnOk r (new ≡ old ++ (ds ++ es))
adds_both old middle new ds es (Ok u) d e = both_added old middle new ds es d e
adds_both old middle new ds es (Err x) d e = tt

-- one part more, each looked at so: what is listed and what the parts left over add come to the same
pub adding_next : {X Y A : Type 0} (of : Y → List A) (look : X → Y) (all listed next : List A) (xs : List X) (i : ℕ) (x : X) → i < length xs → x ≡ get_or xs i x → next ≡ listed ++ of (look x) → listed ++ flat_map of (map look (drop i xs)) ≡ all → next ++ flat_map of (map look (drop (i + 1) xs)) ≡ all
adding_next of look all listed next xs i x h e n loop =
    let left = flat_map of (map look (drop (i + 1) xs)) in
    ap (λ l. l ++ left) n
    ∙ append_assoc listed (of (look x)) left
    ∙ ap (λ l. listed ++ flat_map of (map look l)) (sym (rest_of xs i x h e))
    ∙ loop

-- one part more, which is told how many entries stand before it
pub counted_next : {X A B : Type 0} (adds : X → List A) (holds : ℕ → X → List B) (all listed next : List B) (before after : List A) (n : ℕ) (ys zs : List X) (x : X) → ys ≡ x ∷ zs → n ≡ length before → after ≡ before ++ adds x → next ≡ listed ++ holds n x → listed ++ counted adds holds (length before) ys ≡ all → next ++ counted adds holds (length after) zs ≡ all
counted_next adds holds all listed next before after n ys zs x here is more made loop =
    ap (λ l. l ++ counted adds holds (length after) zs) made
    ∙ append_assoc listed (holds n x) (counted adds holds (length after) zs)
    ∙ ap (λ k. listed ++ (holds n x ++ counted adds holds k zs)) (ap length more ∙ length-append before (adds x))
    ∙ ap (λ k. listed ++ (holds k x ++ counted adds holds (length before + length (adds x)) zs)) is
    ∙ ap (λ l. listed ++ counted adds holds (length before) l) (sym here)
    ∙ loop

-- Lists that grow by what each part tells.
use Rattle.std.proofs.Common.{◌≡◌, ℕ, ◌+◌, ◌<◌, List, [], ◌++◌, length, drop, get_or, sym, ap, ◌∙◌, append_assoc, Result, Ok, Err}
use Rattle.std.specs.Prelude.{flat_map, OnOk}
use Rattle.std.proofs.lemmas.List.{append-nil}
use Rattle.dpi_ports.specs.declared.no_memory.NoMemory.{NoMemory}
use Rattle.c_judge.proofs.Lists.{rest_of}

-- one list added, and then another
pub both_added : {A : Type 0} (old middle new ds es : List A) → middle ≡ old ++ ds → new ≡ middle ++ es → new ≡ old ++ (ds ++ es)
both_added old middle new ds es d e = e ∙ ap (λ l. l ++ es) d ∙ append_assoc old ds es

pub adds_both : {A : Type 0} (old middle new ds es : List A) (r : Result (Unit {0}) NoMemory) → middle ≡ old ++ ds → OnOk r (new ≡ middle ++ es) → OnOk r (new ≡ old ++ (ds ++ es))
adds_both old middle new ds es (Ok u) d e = both_added old middle new ds es d e
adds_both old middle new ds es (Err x) d e = tt

-- one part more: what is listed and what the parts left over add come to the same
pub adding_next : {X A : Type 0} (of : X → List A) (all listed next : List A) (xs : List X) (i : ℕ) (x : X) → i < length xs → x ≡ get_or xs i x → next ≡ listed ++ of x → listed ++ flat_map of (drop i xs) ≡ all → next ++ flat_map of (drop (i + 1) xs) ≡ all
adding_next of all listed next xs i x h e n loop =
    let left = flat_map of (drop (i + 1) xs) in
    ap (λ l. l ++ left) n
    ∙ append_assoc listed (of x) left
    ∙ ap (λ l. listed ++ flat_map of l) (sym (rest_of xs i x h e))
    ∙ loop

-- nothing is added
pub adds_none : {A : Type 0} (old ds : List A) → ds ≡ [] → old ≡ old ++ ds
adds_none old ds e = sym (ap (λ l. old ++ l) e ∙ append-nil old)

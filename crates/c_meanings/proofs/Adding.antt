-- Lists that grow by what each part adds.
use Rattle.std.proofs.Common.{◌≡◌, ℕ, suc, ◌+◌, ◌<◌, ◌≤◌, List, ◌∷◌, ◌++◌, length, drop, get_or, refl, sym, ap, ◌∙◌, add-one, append_assoc, Result, Ok, Err}
use Rattle.std.specs.Prelude.{flat_map, OnOk}
use Rattle.std.proofs.Math.Seq.{drop-cons}
use Rattle.std.proofs.lemmas.List.{drop_all, append-nil}
use Rattle.dpi_ports.specs.declared.no_memory.NoMemory.{NoMemory}

pub rest_of : {X : Type 0} (xs : List X) (i : ℕ) (x : X) → i < length xs → x ≡ get_or xs i x → drop i xs ≡ x ∷ drop (i + 1) xs
rest_of xs i x h e = rw add-one (drop-cons xs i x h ∙ ap (λ y. y ∷ drop (suc i) xs) (sym e))

-- what follows where a call succeeds
pub on_ok : {P Q : Type 0} (r : Result (Unit {0}) NoMemory) → (P → Q) → OnOk r P → OnOk r Q
on_ok (Ok u) f h = f h
on_ok (Err e) f h = tt

-- one list added, and then another
pub both_added : {A : Type 0} (old middle new ds es : List A) → middle ≡ old ++ ds → new ≡ middle ++ es → new ≡ old ++ (ds ++ es)
both_added old middle new ds es d e = e ∙ ap (λ l. l ++ es) d ∙ append_assoc old ds es

pub adds_both : {A : Type 0} (old middle new ds es : List A) (r : Result (Unit {0}) NoMemory) → middle ≡ old ++ ds → OnOk r (new ≡ middle ++ es) → OnOk r (new ≡ old ++ (ds ++ es))
adds_both old middle new ds es (Ok u) d e = both_added old middle new ds es d e
adds_both old middle new ds es (Err x) d e = tt

-- what is listed, and what the parts left over add, come to the same as all
pub record IsAdding {X A : Type 0} (of : X → List A) (start : List A) (xs left : List X) (list : List A) : Type 0 where
  pub same : list ++ flat_map of left ≡ start ++ flat_map of xs

pub adding_first : {X A : Type 0} (of : X → List A) (start : List A) (xs : List X) → IsAdding of start xs (drop 0 xs) start
adding_first of start xs = record { same = refl }

-- one part more
pub adding_next : {X A : Type 0} (of : X → List A) (start : List A) (xs : List X) (i : ℕ) (x : X) → i < length xs → x ≡ get_or xs i x → (list next : List A) → next ≡ list ++ of x → IsAdding of start xs (drop i xs) list → IsAdding of start xs (drop (i + 1) xs) next
adding_next of start xs i x h e list next n loop =
    let left = flat_map of (drop (i + 1) xs) in record {
      same = ap (λ l. l ++ left) n
          ∙ append_assoc list (of x) left
          ∙ ap (λ l. list ++ flat_map of l) (sym (rest_of xs i x h e))
          ∙ loop.same;
    }

-- nothing is left
pub adding_last : {X A : Type 0} (of : X → List A) (start : List A) (xs : List X) (i : ℕ) → length xs ≤ i → (list : List A) → IsAdding of start xs (drop i xs) list → list ≡ start ++ flat_map of xs
adding_last of start xs i h list loop = sym (append-nil list) ∙ ap (λ l. list ++ flat_map of l) (sym (drop_all i xs h)) ∙ loop.same

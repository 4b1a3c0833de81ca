-- Modules in a list, and the first of each name.
use Rattle.std.proofs.Common.{◌≡◌, ℕ, suc, ◌+◌, ◌<◌, ◌≤◌, List, [], ◌∷◌, ◌++◌, map, length, take, drop, get_or, refl, sym, ap, ◌∙◌, add-one, add-zero, arith, true, false, cond, Option, Some, None, if◌then◌else◌}
use Rattle.std.specs.BTreeMap.{BTreeMap}
use Rattle.std.specs.Str.{bytes_eq}
use Rattle.std.proofs.Math.Seq.{drop-cons}
use Rattle.std.proofs.lemmas.List.{drop_all, take_more, take_all, length-map, length-take}
use denote.Ref.{Bor}
use Rattle.dpi_rules.specs.declared.violation.Violation.{Violation}
use Rattle.dpi_rules.specs.Least.{noted}
use Rattle.dpi_rules.proofs.Firsts.{noted-append}
use Rattle.sv_instances.specs.declared.modules.Placed.{Placed}
use Rattle.sv_instances.specs.Modules.{InFile, told, or_else, added, number_from, number_of, numbers_of, second, seconds_behind, IsNumbered, IsNumbering}

pub rest_of : {X : Type 0} (xs : List X) (i : ℕ) (x : X) → i < length xs → x ≡ get_or xs i x → drop i xs ≡ x ∷ drop (i + 1) xs
rest_of xs i x h e = rw add-one (drop-cons xs i x h ∙ ap (λ y. y ∷ drop (suc i) xs) (sym e))

pub map_last : {A B : Type 0} (f : A → B) (xs : List A) (x : A) → map f (xs ++ x ∷ []) ≡ map f xs ++ f x ∷ []
map_last f [] x = refl
map_last f (y ∷ xs) x = ap (λ ys. f y ∷ ys) (map_last f xs x)

before_more : (ms : List Placed) (i : ℕ) (x : Placed) → i < length ms → x ≡ get_or ms i x → map told (take (i + 1) ms) ≡ map told (take i ms) ++ told x ∷ []
before_more ms i x h e = ap (map told) (take_more ms i x h ∙ ap (λ y. take i ms ++ y ∷ []) (sym e)) ∙ map_last told (take i ms) x

-- the first of each name, with one module more
number_last : (n : ℕ) (ms : List InFile) (m : InFile) (name : List ℕ) → number_from n (ms ++ m ∷ []) name ≡ or_else (number_from n ms name) (if bytes_eq m.tree.name.bytes name then Some (n + length ms) else None)
number_last n [] m name = rw (add-zero n) refl
number_last n (p ∷ ps) m name =
    let rest = number_last (n + 1) ps m name in
    let count : (n + 1) + length ps ≡ n + suc (length ps) = omega arith in
    elim (bytes_eq p.tree.name.bytes name) as (λ b. cond b (Some n) (number_from (n + 1) (ps ++ m ∷ []) name) ≡ or_else (cond b (Some n) (number_from (n + 1) ps name)) (cond (bytes_eq m.tree.name.bytes name) (Some (n + suc (length ps))) None)) [
      | true ↦ refl
      | false ↦ rest ∙ ap (λ k. or_else (number_from (n + 1) ps name) (cond (bytes_eq m.tree.name.bytes name) (Some k) None)) count
    ]

-- one module more
pub numbering_next : {all : List InFile} {found0 found found' : Option Violation} {numbers : BTreeMap (Bor (List ℕ)) ℕ} (numbers' : BTreeMap (Bor (List ℕ)) ℕ) (ms : List Placed) (i : ℕ) (x : Placed) (number : ℕ) (earlier : Option ℕ) → i < length ms → x ≡ get_or ms i x → number ≡ i → earlier ≡ numbers_of numbers x.tree.now.name.bytes → ((q : List ℕ) → numbers_of numbers' q ≡ added (numbers_of numbers) x.tree.now.name.bytes number q) → found' ≡ noted found (second x.file x.tree.now.name earlier) → IsNumbering all (map told (take i ms)) (map told (drop i ms)) found0 numbers found → IsNumbering all (map told (take (i + 1) ms)) (map told (drop (i + 1) ms)) found0 numbers' found'
numbering_next {all} {found0} {found} {found'} {numbers} numbers' ms i x number earlier h e c r more f loop =
    let before = map told (take i ms) in
    let rest = map told (drop (i + 1) ms) in
    let grown = before_more ms i x h e in
    let counted : 0 + length before ≡ number = omega (arith, length-map (take i ms) told, length-take i ms) in
    let is_earlier = r ∙ loop.numbers_are x.tree.now.name.bytes in
    record {
      numbers_are = λ q.
          more q
          ∙ ap (λ o. or_else o (if bytes_eq x.tree.now.name.bytes q then Some number else None)) (loop.numbers_are q)
          ∙ ap (λ k. or_else (number_of before q) (if bytes_eq x.tree.now.name.bytes q then Some k else None)) (sym counted)
          ∙ sym (number_last 0 before (told x) q)
          ∙ ap (λ xs. number_of xs q) (sym grown);
      found_same =
          loop.found_same
          ∙ ap (λ xs. noted found (seconds_behind before (map told xs))) (rest_of ms i x h e)
          ∙ noted-append found (second x.file x.tree.now.name (number_of before x.tree.now.name.bytes)) (seconds_behind (before ++ told x ∷ []) rest)
          ∙ ap (λ o. noted (noted found (second x.file x.tree.now.name o)) (seconds_behind (before ++ told x ∷ []) rest)) (sym is_earlier)
          ∙ ap (λ o. noted o (seconds_behind (before ++ told x ∷ []) rest)) (sym f)
          ∙ ap (λ xs. noted found' (seconds_behind xs rest)) (sym grown);
    }

-- all modules
pub numbering_last : {found0 found : Option Violation} {numbers : BTreeMap (Bor (List ℕ)) ℕ} (ms : List Placed) (i : ℕ) → length ms ≤ i → IsNumbering (map told ms) (map told (take i ms)) (map told (drop i ms)) found0 numbers found → IsNumbered (map told ms) found0 numbers found
numbering_last {found0} {found} {numbers} ms i h loop = record {
  numbers_are = λ q. loop.numbers_are q ∙ ap (λ xs. number_of (map told xs) q) (take_all i ms h);
  found_are = sym (loop.found_same ∙ ap (λ xs. noted found (seconds_behind (map told (take i ms)) (map told xs))) (drop_all i ms h));
}

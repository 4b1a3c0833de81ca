-- Walks over a list that keep the first of each name.
use Rattle.std.proofs.Common.{◌≡◌, ℕ, suc, ◌+◌, ◌<◌, ◌≤◌, List, [], ◌∷◌, ◌++◌, length, take, drop, get_or, refl, sym, ap, ◌∙◌, add-one, true, false, cond, Option, Some, None, if◌then◌else◌}
use Rattle.std.specs.Str.{bytes_eq}
use Rattle.std.proofs.lemmas.List.{drop_all, take_more}
use Rattle.std.proofs.Math.Seq.{drop-cons}
use Rattle.dpi_rules.specs.declared.violation.Violation.{Violation}
use Rattle.dpi_rules.specs.Least.{noted}
use Rattle.dpi_rules.proofs.Firsts.{noted-append}
use Rattle.dpi_agree.specs.Firsts.{first_named, broken_behind, each_broken, or_else, added}

-- behind these the map tells the first of each name, and what those left over break comes to the same as all
pub record IsWalk {X : Type 0} (name_of : X → List ℕ) (breaks : Option X → X → List Violation) (start : Option Violation) (all before left : List X) (firsts : List ℕ → Option X) (found : Option Violation) : Type 0 where
  pub firsts_are : (q : List ℕ) → firsts q ≡ first_named name_of before q
  pub same : noted start (each_broken name_of breaks all) ≡ noted found (broken_behind name_of breaks before left)

rest_of : {X : Type 0} (xs : List X) (i : ℕ) (x : X) → i < length xs → x ≡ get_or xs i x → drop i xs ≡ x ∷ drop (i + 1) xs
rest_of xs i x h e = rw add-one (drop-cons xs i x h ∙ ap (λ y. y ∷ drop (suc i) xs) (sym e))

grown : {X : Type 0} (xs : List X) (i : ℕ) (x : X) → i < length xs → x ≡ get_or xs i x → take (i + 1) xs ≡ take i xs ++ x ∷ []
grown xs i x h e = take_more xs i x h ∙ ap (λ y. take i xs ++ y ∷ []) (sym e)

-- the first of each name, with one more
first_last : {X : Type 0} (name_of : X → List ℕ) (xs : List X) (x : X) (q : List ℕ) → first_named name_of (xs ++ x ∷ []) q ≡ or_else (first_named name_of xs q) (if bytes_eq (name_of x) q then Some x else None)
first_last name_of [] x q = refl
first_last {X} name_of (y ∷ ys) x q =
    elim (bytes_eq (name_of y) q) as (λ b. cond b (Some y) (first_named name_of (ys ++ x ∷ []) q) ≡ or_else (cond b (Some y) (first_named name_of ys q)) (cond (bytes_eq (name_of x) q) (Some x) None)) [
      | true ↦ refl
      | false ↦ first_last name_of ys x q
    ]

-- before the first one
pub walk_first : {X : Type 0} (name_of : X → List ℕ) (breaks : Option X → X → List Violation) (start : Option Violation) (xs : List X) (firsts : List ℕ → Option X) → ((q : List ℕ) → firsts q ≡ None) → IsWalk name_of breaks start xs (take 0 xs) (drop 0 xs) firsts start
walk_first name_of breaks start xs firsts h = record { firsts_are = h; same = refl }

-- one more
pub walk_next : {X : Type 0} (name_of : X → List ℕ) (breaks : Option X → X → List Violation) (start : Option Violation) (xs : List X) (i : ℕ) (x : X) (first : Option X) (firsts firsts' : List ℕ → Option X) (found found' : Option Violation) → i < length xs → x ≡ get_or xs i x → first ≡ firsts (name_of x) → ((q : List ℕ) → firsts' q ≡ added firsts (name_of x) x q) → found' ≡ noted found (breaks first x) → IsWalk name_of breaks start xs (take i xs) (drop i xs) firsts found → IsWalk name_of breaks start xs (take (i + 1) xs) (drop (i + 1) xs) firsts' found'
walk_next name_of breaks start xs i x first firsts firsts' found found' h e r more f walk =
    let before = take i xs in
    let left = drop (i + 1) xs in
    let longer = grown xs i x h e in
    record {
      firsts_are = λ q.
          more q
          ∙ ap (λ o. or_else o (if bytes_eq (name_of x) q then Some x else None)) (walk.firsts_are q)
          ∙ sym (first_last name_of before x q)
          ∙ ap (λ ys. first_named name_of ys q) (sym longer);
      same =
          walk.same
          ∙ ap (λ ys. noted found (broken_behind name_of breaks before ys)) (rest_of xs i x h e)
          ∙ noted-append found (breaks (first_named name_of before (name_of x)) x) (broken_behind name_of breaks (before ++ x ∷ []) left)
          ∙ ap (λ o. noted (noted found (breaks o x)) (broken_behind name_of breaks (before ++ x ∷ []) left)) (sym (r ∙ walk.firsts_are (name_of x)))
          ∙ ap (λ o. noted o (broken_behind name_of breaks (before ++ x ∷ []) left)) (sym f)
          ∙ ap (λ ys. noted found' (broken_behind name_of breaks ys left)) (sym longer);
    }

-- nothing is left
pub walk_last : {X : Type 0} (name_of : X → List ℕ) (breaks : Option X → X → List Violation) (start : Option Violation) (xs : List X) (i : ℕ) (firsts : List ℕ → Option X) (found : Option Violation) → length xs ≤ i → IsWalk name_of breaks start xs (take i xs) (drop i xs) firsts found → found ≡ noted start (each_broken name_of breaks xs)
walk_last name_of breaks start xs i firsts found h walk =
    sym (walk.same ∙ ap (λ ys. noted found (broken_behind name_of breaks (take i xs) ys)) (drop_all i xs h))

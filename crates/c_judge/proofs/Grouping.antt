-- Assignments from the last one on.
use Rattle.std.proofs.Common.{◌≡◌, ℕ, zero, List, [], ◌∷◌, ◌++◌, refl, sym, ap, ◌∙◌, Option, suc, ◌<◌, length, take, get_or, arith}
use Rattle.std.proofs.Math.Seq.{take-suc}
use Rattle.dpi_rules.specs.declared.violation.Violation.{Violation}
use Rattle.dpi_rules.specs.Least.{noted}
use Rattle.dpi_rules.proofs.Firsts.{noted-append}
use Rattle.c_typing.specs.declared.operand.Operand.{Operand}
use Rattle.c_typing.specs.Judged.{Judged}
use Rattle.c_judge.specs.declared.assignments.Side.{Side}
use Rattle.c_judge.specs.Judge.{clean, behind, one_assigned, grouped, last_value}
use Rattle.c_judge.proofs.Prefixed.{behind_both, behind_clean}

-- the part that stands last, by its number
pub last_at : (value : Option Operand) (ss : List Side) (n : ℕ) (d : Side) → length ss ≡ suc n → (get_or ss n d).value ≡ last_value value ss
last_at value [] n d h = absurd (omega (arith, h))
last_at value (s ∷ []) zero d h = refl
last_at value (s ∷ []) (suc n) d h = absurd (omega (arith, h))
last_at value (s ∷ t ∷ ss) zero d h = absurd (omega (arith, h))
last_at value (s ∷ t ∷ ss) (suc n) d h = last_at s.value (t ∷ ss) n d (omega (arith, h))

-- assignments of what stands last
abbrev pub onto : ℕ → Option Operand → List Side → Judged → Judged
onto file value [] j = j
onto file value (s ∷ ss) j = let right = onto file s.value ss j in behind right.found (one_assigned file value s right.value)

-- an assignment of what is judged so far
abbrev pub assigned_before : ℕ → Option Operand → Side → Judged → Judged
assigned_before file value s j = behind j.found (one_assigned file value s j.value)

pub grouped_is : (file : ℕ) (value : Option Operand) (ss : List Side) → grouped file value ss ≡ onto file value ss (clean (last_value value ss))
grouped_is file value [] = refl
grouped_is file value (s ∷ ss) = ap (assigned_before file value s) (grouped_is file s.value ss)

onto_last : (file : ℕ) (value : Option Operand) (ss : List Side) (s : Side) (j : Judged) → onto file value (ss ++ s ∷ []) j ≡ onto file value ss (assigned_before file (last_value value ss) s j)
onto_last file value [] s j = refl
onto_last file value (t ∷ ss) s j = ap (assigned_before file value t) (onto_last file t.value ss s j)

onto_behind : (file : ℕ) (value : Option Operand) (ss : List Side) (j : Judged) → onto file value ss j ≡ behind j.found (onto file value ss (clean j.value))
onto_behind file value [] j = behind_clean j
onto_behind file value (s ∷ ss) j =
    let inner = onto file s.value ss (clean j.value) in
    ap (assigned_before file value s) (onto_behind file s.value ss j) ∙ behind_both j.found inner.found (one_assigned file value s inner.value)

-- one turn of a loop from the last assignment on
pub one_side : (file : ℕ) (first : Option Operand) (ss : List Side) (n k : ℕ) (d : Side) (before value next : Option Operand) (found after : Option Violation) → n ≡ suc k → k < length ss
    → before ≡ last_value first (take k ss)
    → next ≡ (one_assigned file before (get_or ss k d) value).value
    → after ≡ noted found (one_assigned file before (get_or ss k d) value).found
    → ((onto file first (take n ss) (clean value)).value ≡ (onto file first (take k ss) (clean next)).value)
    × (noted found (onto file first (take n ss) (clean value)).found ≡ noted after (onto file first (take k ss) (clean next)).found)
one_side file first ss n k d before value next found after e h bs is noting =
    let last = one_assigned file before (get_or ss k d) value in
    let whole : onto file first (take n ss) (clean value) ≡ behind last.found (onto file first (take k ss) (clean last.value)) =
    ap (λ m. onto file first (take m ss) (clean value)) e
    ∙ ap (λ xs. onto file first xs (clean value)) (take-suc ss k d h)
    ∙ onto_last file first (take k ss) (get_or ss k d) (clean value)
    ∙ ap (λ b. onto file first (take k ss) (assigned_before file b (get_or ss k d) (clean value))) (sym bs)
    ∙ onto_behind file first (take k ss) (assigned_before file before (get_or ss k d) (clean value)) in (
      ap (λ (j : Judged). j.value) whole ∙ ap (λ o. (onto file first (take k ss) (clean o)).value) (sym is),
      ap (λ (j : Judged). noted found j.found) whole
          ∙ noted-append found last.found (onto file first (take k ss) (clean last.value)).found
          ∙ ap (λ o. noted o (onto file first (take k ss) (clean last.value)).found) (sym noting)
          ∙ ap (λ o. noted after (onto file first (take k ss) (clean o)).found) (sym is),
    )

-- Prefixes, the last of which applies first.
use Rattle.std.proofs.Common.{◌≡◌, ℕ, List, [], ◌∷◌, ◌++◌, refl, sym, ap, ◌∙◌, append_assoc, Option, suc, ◌<◌, length, take, get_or}
use Rattle.std.proofs.Math.Seq.{take-suc}
use Rattle.std.proofs.lemmas.List.{append-nil}
use Rattle.dpi_rules.specs.declared.violation.Violation.{Violation}
use Rattle.dpi_rules.specs.Least.{noted}
use Rattle.dpi_rules.proofs.Firsts.{noted-append}
use Rattle.sv_tree.specs.declared.expr.Prefix.{Prefix}
use Rattle.sv_typing.specs.declared.types.Operand.{Operand}
use Rattle.sv_typing.specs.Judged.{Judged, behind}
use Rattle.sv_typing.specs.Prefixes.{prefixed}
use Rattle.sv_judge.specs.declared.forms.Whole.{Whole}
use Rattle.sv_judge.specs.Judge.{so_far, seen_other, prefixes_judged, with_prefixes}

-- one prefix
abbrev pub prefix_judged : ℕ → Prefix → Judged → Judged
prefix_judged file p j = behind j.found (prefixed file p.token p.operator j.value)

-- nothing is found yet
abbrev pub fresh : Option Operand → Judged
fresh value = record { found = []; value = value }

pub prefixes_last : (file : ℕ) (ps : List Prefix) (p : Prefix) (j : Judged) → prefixes_judged file (ps ++ p ∷ []) j ≡ prefixes_judged file ps (prefix_judged file p j)
prefixes_last file [] p j = refl
prefixes_last file (q ∷ ps) p j = ap (prefix_judged file q) (prefixes_last file ps p j)

behind_both : (vs ws : List Violation) (j : Judged) → behind (vs ++ ws) j ≡ behind vs (behind ws j)
behind_both vs ws j = ap (λ us. record { found = us; value = j.value }) (append_assoc vs ws j.found)

pub prefixes_behind : (file : ℕ) (ps : List Prefix) (j : Judged) → prefixes_judged file ps j ≡ behind j.found (prefixes_judged file ps (fresh j.value))
prefixes_behind file [] j = ap (λ us. record { found = us; value = j.value }) (sym (append-nil j.found))
prefixes_behind file (q ∷ ps) j =
    let inner = prefixes_judged file ps (fresh j.value) in
    ap (prefix_judged file q) (prefixes_behind file ps j) ∙ behind_both j.found inner.found (prefixed file q.token q.operator inner.value)

-- the last prefix applies first, and the others to what it makes
last_first : (file : ℕ) (ps : List Prefix) (n k : ℕ) (d : Prefix) (value : Option Operand) → n ≡ suc k → k < length ps
    → prefixes_judged file (take n ps) (fresh value)
    ≡ (let p = get_or ps k d in behind (prefixed file p.token p.operator value).found (prefixes_judged file (take k ps) (fresh (prefixed file p.token p.operator value).value)))
last_first file ps n k d value e h =
    ap (λ m. prefixes_judged file (take m ps) (fresh value)) e
    ∙ ap (λ xs. prefixes_judged file xs (fresh value)) (take-suc ps k d h)
    ∙ prefixes_last file (take k ps) (get_or ps k d) (fresh value)
    ∙ prefixes_behind file (take k ps) (prefix_judged file (get_or ps k d) (fresh value))

-- one turn of a loop from the last prefix on
pub one_prefix : (file : ℕ) (ps : List Prefix) (n k : ℕ) (d : Prefix) (value next : Option Operand) (found after : Option Violation) → n ≡ suc k → k < length ps
    → next ≡ (prefixed file (get_or ps k d).token (get_or ps k d).operator value).value
    → after ≡ noted found (prefixed file (get_or ps k d).token (get_or ps k d).operator value).found
    → ((prefixes_judged file (take n ps) (fresh value)).value ≡ (prefixes_judged file (take k ps) (fresh next)).value)
    × (noted found (prefixes_judged file (take n ps) (fresh value)).found ≡ noted after (prefixes_judged file (take k ps) (fresh next)).found)
one_prefix file ps n k d value next found after e h is noting =
    let first = prefixed file (get_or ps k d).token (get_or ps k d).operator value in
    let whole = last_first file ps n k d value e h in (
      ap (λ j. j.value) whole ∙ ap (λ o. (prefixes_judged file (take k ps) (fresh o)).value) (sym is),
      ap (λ j. noted found j.found) whole
          ∙ noted-append found first.found (prefixes_judged file (take k ps) (fresh first.value)).found
          ∙ ap (λ o. noted o (prefixes_judged file (take k ps) (fresh first.value)).found) (sym noting)
          ∙ ap (λ o. noted after (prefixes_judged file (take k ps) (fresh o)).found) (sym is),
    )

-- with any prefixes
pub with_some : (file : ℕ) (ps : List Prefix) (w : Whole) → (ps ≡ [] → ⊥) → with_prefixes file ps (so_far w) ≡ seen_other (prefixes_judged file ps (fresh w.value))
with_some file [] w h = absurd (h refl)
with_some file (p ∷ ps) w h = refl

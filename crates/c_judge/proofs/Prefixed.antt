-- Prefixes, the last of which applies first.
use Rattle.std.proofs.Common.{◌≡◌, ℕ, List, [], ◌∷◌, ◌++◌, refl, sym, ap, ◌∙◌, append_assoc, Option, suc, ◌<◌, length, take, get_or}
use Rattle.std.proofs.Math.Seq.{take-suc}
use Rattle.std.proofs.lemmas.List.{append-nil}
use Rattle.dpi_rules.specs.declared.violation.Violation.{Violation}
use Rattle.dpi_rules.specs.Least.{noted}
use Rattle.dpi_rules.proofs.Firsts.{noted-append}
use Rattle.c_tree.specs.declared.expr.Prefix.{Prefix}
use Rattle.c_typing.specs.declared.operand.Operand.{Operand}
use Rattle.c_typing.specs.Judged.{Judged}
use Rattle.c_judge.specs.Calls.{Env}
use Rattle.c_judge.specs.Judge.{clean, behind, prefixed, prefixes_judged}

-- one prefix
abbrev pub prefix_judged : Env → Prefix → Judged → Judged
prefix_judged env p j = behind j.found (prefixed env p j.value)

pub prefixes_last : (env : Env) (ps : List Prefix) (p : Prefix) (j : Judged) → prefixes_judged env (ps ++ p ∷ []) j ≡ prefixes_judged env ps (prefix_judged env p j)
prefixes_last env [] p j = refl
prefixes_last env (q ∷ ps) p j = ap (prefix_judged env q) (prefixes_last env ps p j)

pub behind_both : (vs ws : List Violation) (j : Judged) → behind (vs ++ ws) j ≡ behind vs (behind ws j)
behind_both vs ws j = ap (λ us. let k : Judged = record { found = us; value = j.value } in k) (append_assoc vs ws j.found)

pub behind_clean : (j : Judged) → j ≡ behind j.found (clean j.value)
behind_clean j = ap (λ us. let k : Judged = record { found = us; value = j.value } in k) (sym (append-nil j.found))

pub prefixes_behind : (env : Env) (ps : List Prefix) (j : Judged) → prefixes_judged env ps j ≡ behind j.found (prefixes_judged env ps (clean j.value))
prefixes_behind env [] j = behind_clean j
prefixes_behind env (q ∷ ps) j =
    let inner = prefixes_judged env ps (clean j.value) in
    ap (prefix_judged env q) (prefixes_behind env ps j) ∙ behind_both j.found inner.found (prefixed env q inner.value)

-- the last prefix applies first, and the others to what it makes
last_first : (env : Env) (ps : List Prefix) (n k : ℕ) (d : Prefix) (value : Option Operand) → n ≡ suc k → k < length ps
    → prefixes_judged env (take n ps) (clean value)
    ≡ (let j = prefixed env (get_or ps k d) value in behind j.found (prefixes_judged env (take k ps) (clean j.value)))
last_first env ps n k d value e h =
    ap (λ m. prefixes_judged env (take m ps) (clean value)) e
    ∙ ap (λ xs. prefixes_judged env xs (clean value)) (take-suc ps k d h)
    ∙ prefixes_last env (take k ps) (get_or ps k d) (clean value)
    ∙ prefixes_behind env (take k ps) (prefix_judged env (get_or ps k d) (clean value))

-- one turn of a loop from the last prefix on
pub one_prefix : (env : Env) (ps : List Prefix) (n k : ℕ) (d : Prefix) (value next : Option Operand) (found after : Option Violation) → n ≡ suc k → k < length ps
    → next ≡ (prefixed env (get_or ps k d) value).value
    → after ≡ noted found (prefixed env (get_or ps k d) value).found
    → ((prefixes_judged env (take n ps) (clean value)).value ≡ (prefixes_judged env (take k ps) (clean next)).value)
    × (noted found (prefixes_judged env (take n ps) (clean value)).found ≡ noted after (prefixes_judged env (take k ps) (clean next)).found)
one_prefix env ps n k d value next found after e h is noting =
    let first = prefixed env (get_or ps k d) value in
    let whole = last_first env ps n k d value e h in (
      ap (λ (j : Judged). j.value) whole ∙ ap (λ o. (prefixes_judged env (take k ps) (clean o)).value) (sym is),
      ap (λ (j : Judged). noted found j.found) whole
          ∙ noted-append found first.found (prefixes_judged env (take k ps) (clean first.value)).found
          ∙ ap (λ o. noted o (prefixes_judged env (take k ps) (clean first.value)).found) (sym noting)
          ∙ ap (λ o. noted after (prefixes_judged env (take k ps) (clean o)).found) (sym is),
    )

use Rattle.std.proofs.Common.{ℕ, List, ap, false, ◌∙◌}
use Rattle.dpi_rules.proofs.Noting.{noted_both}
use Rattle.sv_signatures.specs.declared.formals.Formal.{Formal}
use Rattle.sv_signatures.specs.declared.results.Returns.{Returns}
use Rattle.sv_signatures.specs.declared.signatures.Signature.{Signature}
use Rattle.sv_signatures.specs.Formals.{formals_violations}
use Rattle.sv_signatures.specs.Signatures.{listed, returns as given, outcome_violations}
use Rattle.sv_signatures.proofs.signatures.function_signature.Goals as goal

abbrev signed : ℕ → Returns → List Formal → Signature
signed token result formals = record { token = token; is_task = false; result = result; formals = formals }

pub returns : goal.returns
returns c =
    let f = c.args.function.now in
    let token = f.name.token in
    let result = c.outcome_returns-result.ensures in (
      ap (λ r. signed token r c.in_ok-formals.formals) result.returns ∙ ap (λ fs. signed token (given f.outcome) fs) c.in_ok-formals.ensures.0,
      noted_both c.args.found.now (outcome_violations c.args.file token f.outcome) (formals_violations c.args.file (listed f.formals)) result.violations c.in_ok-formals.ensures.1,
    )

use Rattle.std.proofs.Common.{ℕ, List, Bool, ap, ◌∙◌}
use Rattle.dpi_rules.proofs.Noting.{noted_both}
use Rattle.sv_signatures.specs.declared.imports.ImportFormal.{ImportFormal}
use Rattle.sv_signatures.specs.declared.results.Returns.{Returns}
use Rattle.sv_signatures.specs.declared.signatures.ImportSignature.{ImportSignature}
use Rattle.sv_signatures.specs.Imports.{formals_violations}
use Rattle.sv_signatures.specs.Signatures.{listed, is_task, import_returns, import_outcome_violations}
use Rattle.sv_signatures.proofs.signatures.import_signature.Goals as goal

abbrev signed : ℕ → Bool → Returns → List ImportFormal → ImportSignature
signed token task result formals = record { token = token; is_task = task; result = result; formals = formals }

pub returns : goal.returns
returns c =
    let i = c.args.import.now in
    let token = i.name.token in
    let result = c.import_returns-result.ensures in (
      ap (λ t. signed token t c.import_returns-result.result c.in_ok-formals.formals) c.is_task.ensures
          ∙ ap (λ r. signed token (is_task i.kind) r c.in_ok-formals.formals) result.returns
          ∙ ap (λ fs. signed token (is_task i.kind) (import_returns i.kind) fs) c.in_ok-formals.ensures.0,
      noted_both c.args.found.now (import_outcome_violations c.args.file token i.kind) (formals_violations c.args.file (listed i.formals)) result.violations c.in_ok-formals.ensures.1,
    )

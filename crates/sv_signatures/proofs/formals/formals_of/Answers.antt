use Rattle.std.proofs.Common.{ap, ◌∙◌}
use Rattle.dpi_rules.specs.Least.{noted}
use Rattle.dpi_rules.proofs.Noting.{noted_both}
use Rattle.sv_signatures.specs.Before.{start, count_violations}
use Rattle.sv_signatures.specs.Formals.{name_too_many, violations_behind}
use Rattle.sv_signatures.proofs.formals.formals_of.Goals as goal

pub returns : goal.returns
returns c =
    let file = c.args.file in
    let fs = c.args.formals.now in
    let found = c.listed_formals.new.found in (
      c.in_ok-listed.ensures.0,
      noted_both c.args.found.now (violations_behind file start fs) (count_violations file (name_too_many fs)) c.in_ok-listed.ensures.1
          (c.note_count.ensures ∙ ap (λ n. noted found (count_violations file n)) c.name_too_many.ensures),
    )

use Rattle.std.proofs.Common.{◌++◌}
use Rattle.dpi_rules.proofs.Noting.{noted_both}
use Rattle.c_calls.specs.Refusals.{rules_of}
use Rattle.c_calls.specs.Expressions.{in_optional}
use Rattle.c_calls.specs.Statements.{in_start}
use Rattle.c_calls.proofs.statements.note_head.Goals as goal

pub returns : goal.returns
returns c =
    let file = c.args.file in
    let rules = rules_of c.args.refusals.now in
    let start = in_start file rules c.args.start.now in
    let condition = in_optional file rules c.args.condition.now in
    let change = in_optional file rules c.args.change.now in
    noted_both c.args.found.now (start ++ condition) change (noted_both c.args.found.now start condition c.note_start.ensures c.note_optional.ensures) c.note_optional-2.ensures

use Rattle.dpi_rules.proofs.Noting.{noted_both}
use Rattle.std.proofs.Common.{map}
use Rattle.sv_forms.specs.Calls.{all_of}
use Rattle.sv_forms.specs.Statements.{locals_violations, in_stmt, each_at}
use Rattle.sv_forms.proofs.items.note_body.Goals as goal

pub returns : goal.returns
returns c =
    let body = c.args.body.now in
    let locals = rw c.as_slice.ensures at c.note_locals.ensures in
    let stmts = rw c.as_slice-2.ensures at c.note_stmts.ensures in
    noted_both
    c.args.found.now
    (all_of (map (locals_violations c.args.file c.args.around) body.variables))
    (each_at c.args.around (map (in_stmt c.args.file) body.statements))
    locals
    stmts

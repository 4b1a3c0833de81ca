use Rattle.sv_names.specs.Declarations.{body_declares}
use Rattle.sv_names.proofs.DeclaredLists.{declares_both}
use Rattle.sv_names.proofs.subroutines.declare_inside.Goals as goal

pub returns : goal.returns
returns c =
    let formals = rw c.formals_in.ensures at c.in_ok-declare_formals.ensures in
    let body = rw (c.as_slice.ensures, c.as_slice-2.ensures) at c.declare_body.ensures in
    declares_both (body_declares c.args.body.now.variables c.args.body.now.statements) _ _ c.declare_body.result formals body

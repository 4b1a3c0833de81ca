use Rattle.sv_names.proofs.DeclaredLists.{declared_both}
use Rattle.sv_names.proofs.subroutines.function_scope.Goals as goal

pub returns : goal.returns
returns c =
    let first = rw c.new-scope.ensures at c.in_ok-declare_result.ensures in
    declared_both first c.in_ok-declare_inside.ensures

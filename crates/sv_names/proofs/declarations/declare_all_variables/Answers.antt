use Rattle.std.proofs.Common.{refl}
use Rattle.sv_names.specs.Declarations.{variables_declare}
use Rattle.sv_names.proofs.DeclaredLists.{declaring_next, declaring_last}
use Rattle.sv_names.proofs.declarations.declare_all_variables.Goals as goal

pub loop-variables-preserved : goal.loop-variables-preserved
loop-variables-preserved c =
    declaring_next variables_declare c.args.declarations.now c.loop-variables.variables-index c.variables-item.result c.loop-variables-test.true c.variables-item.is refl c.in_ok-declare_variables.ensures c.loop-variables.invariant

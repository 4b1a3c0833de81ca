use Rattle.std.proofs.Common.{refl}
use Rattle.sv_names.specs.Blocks.{stmt_blocks}
use Rattle.sv_names.proofs.DeclaredLists.{declaring_next, declaring_last}
use Rattle.sv_names.proofs.declarations.declare_statements.Goals as goal

pub loop-statement-preserved : goal.loop-statement-preserved
loop-statement-preserved c =
    declaring_next stmt_blocks c.args.statements.now c.loop-statement.statement-index c.statement-item.result c.loop-statement-test.true c.statement-item.is refl c.in_ok-declare_blocks.ensures c.loop-statement.invariant

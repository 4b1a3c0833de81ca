use Rattle.std.specs.Prelude.{flat_map}
use Rattle.sv_names.specs.Blocks.{stmt_blocks}
use Rattle.sv_names.proofs.DeclaredLists.{declares_both}
use Rattle.sv_names.proofs.declarations.declare_body.Goals as goal

pub returns : goal.returns
returns c = declares_both (flat_map stmt_blocks c.args.statements.now) _ _ c.declare_statements.result c.in_ok-declare_all_variables.ensures c.declare_statements.ensures

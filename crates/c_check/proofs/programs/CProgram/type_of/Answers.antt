use Rattle.std.proofs.Common.{ap, ◌∙◌}
use Rattle.c_tree.specs.declared.expr.CExpr.{out-CExpr}
use Rattle.c_check.specs.Facts.{types_in}
use Rattle.c_check.proofs.programs.CProgram.type_of.Goals as goal

pub returns : goal.returns
returns c =
    c.type_of.ensures ∙ ap (λ t. t c.args.file (out-CExpr c.args.e.now).token) (c.self.invariant.types_are ∙ ap types_in c.self.view_is)

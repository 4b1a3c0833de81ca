use Rattle.std.proofs.Common.{ap, ◌∙◌}
use Rattle.sv_tree.specs.declared.expr.Expr.{out-Expr}
use Rattle.sv_check.specs.Facts.{types_in}
use Rattle.sv_check.proofs.design.Design.type_of.Goals as goal

pub returns : goal.returns
returns c =
    c.type_of.ensures ∙ ap (λ t. t c.args.file (out-Expr c.args.e.now).token) (c.self.invariant.types_are ∙ ap types_in c.self.view_is)

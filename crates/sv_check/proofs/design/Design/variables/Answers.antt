use Rattle.std.proofs.Common.{length, ap, ◌∙◌}
use Rattle.sv_scopes.specs.Variables.{variables_in}
use Rattle.sv_check.proofs.design.Design.variables.Goals as goal

pub returns : goal.returns
returns c = c.len.ensures ∙ ap length (c.self.invariant.variables_are ∙ ap variables_in c.self.view_is)

use Rattle.std.proofs.Common.{◌<◌, length, List, sym, ap, ◌∙◌, subst}
use Rattle.std.specs.Prelude.{slice_get}
use Rattle.sv_scopes.specs.declared.variables.Variable.{Variable}
use Rattle.sv_scopes.specs.Variables.{variables_in}
use Rattle.sv_check.proofs.design.Design.variable.Goals as goal

pub get-requires : goal.get-requires
get-requires c =
    let P : List Variable → Type 0 = λ l. c.args.number < length l in
    subst P (sym (c.self.invariant.variables_are ∙ ap variables_in c.self.view_is)) c.requires

pub returns : goal.returns
returns c =
    ap (λ l. slice_get l c.args.number) (sym (c.self.invariant.variables_are ∙ ap variables_in c.self.view_is)) ∙ c.get.ensures

use Rattle.std.proofs.Common.{◌<◌, length, List, sym, ap, ◌∙◌, subst}
use Rattle.sv_scopes.specs.declared.scopes.Scope.{Scope}
use Rattle.sv_scopes.specs.Scopes.{scopes_in}
use Rattle.sv_check.proofs.design.Design.module.Goals as goal

pub get-requires : goal.get-requires
get-requires c =
    let P : List Scope → Type 0 = λ l. c.args.number < length l in
    subst P (sym (c.self.invariant.scopes_are ∙ ap scopes_in c.self.view_is)) c.requires

use Rattle.std.proofs.Common.{◌∙◌, sym, ap}
use Rattle.c_names.specs.Names.{names_of, or_else}
use Rattle.c_names.specs.Scopes.{scopes_of, find}
use Rattle.c_walk.proofs.Filling.{find_inside}
use Rattle.c_walk.proofs.parameters.entry_in.Goals as goal

pub returns-in-Some : goal.returns-in-Some
returns-in-Some c =
    sym (find_inside (scopes_of c.args.scopes.now) (names_of c.args.scope.now) c.args.name.now ∙ ap (λ e. or_else e (find (scopes_of c.args.scopes.now) c.args.name.now)) (sym c.get.ensures ∙ c.in-Some.is))

pub returns-in-None : goal.returns-in-None
returns-in-None c =
    c.find.ensures ∙ sym (find_inside (scopes_of c.args.scopes.now) (names_of c.args.scope.now) c.args.name.now ∙ ap (λ e. or_else e (find (scopes_of c.args.scopes.now) c.args.name.now)) (sym c.get.ensures ∙ c.in-None.is))

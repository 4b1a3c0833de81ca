use Rattle.std.proofs.Common.{[], ◌∷◌, ◌++◌, ap, ◌∙◌}
use Rattle.sv_names.specs.Names.{names_of}
use Rattle.sv_names.specs.Scopes.{scopes_of}
use Rattle.sv_meanings.proofs.Modules.{module_says}
use Rattle.sv_meanings.proofs.files.add_module.Goals as goal

pub returns : goal.returns
returns c =
    let names = names_of c.in_ok-module_scope.field-0 in
    let scopes = c.in_ok-enter.ensures ∙ ap (λ s. s ++ names ∷ []) c.new-scopes.ensures in
    module_says c.add_items.result c.args.number c.args.module.now names (scopes_of c.enter.new.self) (scopes_of c.add_items.new.scopes) c.as_slice.result.now c.as_slice-2.result.now c.as_slice-items.result.now
    c.args.list.now.items c.add_meant.new.list.items c.add_items.new.list.items
    c.in_ok-add_meant.ensures c.as_slice-items.ensures c.in_ok-module_scope.ensures.names_are scopes (c.as_slice.ensures ∙ c.in_ok-subroutines.ensures) (c.as_slice-2.ensures ∙ c.in_ok-imports.ensures) c.add_items.ensures

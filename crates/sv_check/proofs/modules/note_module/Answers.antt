use Rattle.std.proofs.Common.{[], ◌∷◌, ◌++◌, ap, ◌∙◌}
use Rattle.sv_names.specs.Names.{names_of}
use Rattle.sv_names.specs.Scopes.{scopes_of}
use Rattle.sv_instances.specs.Modules.{told}
use Rattle.sv_check.proofs.Seen.{module_noted}
use Rattle.sv_check.proofs.modules.note_module.Goals as goal

pub returns : goal.returns
returns c =
    let names = names_of c.in_ok-module_scope.field-0 in
    let scopes = c.in_ok-enter.ensures ∙ ap (λ s. s ++ names ∷ []) c.new-scopes.ensures in
    module_noted c.args.found.now c.module_scope.new.found c.note_items.new.found c.note_items.result (told c.args.placed) names (scopes_of c.enter.new.self) c.as_slice.result.now c.as_slice-2.result.now c.as_slice-items.result.now
    c.as_slice-items.ensures c.in_ok-module_scope.ensures scopes (c.as_slice.ensures ∙ c.in_ok-subroutines.ensures) (c.as_slice-2.ensures ∙ c.in_ok-imports.ensures) c.note_items.ensures

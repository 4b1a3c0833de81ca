use Rattle.std.proofs.Common.{◌≡◌, map, ap, ◌∙◌, subst}
use Rattle.std.specs.Prelude.{List, IfOk}
use Rattle.dpi_table.specs.Files.{in_file}
use Rattle.sv_instances.specs.Modules.{told, modules_in}
use Rattle.sv_scopes.specs.declared.names.Named.{Named}
use Rattle.sv_scopes.specs.Names.{numbers_in, module_names}
use Rattle.sv_scopes.specs.Variables.{variables_from}
use Rattle.sv_scopes.proofs.variables.variables_of.Goals as goal

pub returns : goal.returns
returns c =
    let ds = c.args.declarations.now in
    let modules = ap (map told) c.deref.ensures.value ∙ c.in_ok-modules.ensures in
    let P : List (List Named) → Type 0 = λ t. IfOk c.variables_by.result (λ list. list.items ≡ variables_from t 0 c.args.scopes.now) in
    let table : c.as_slice.result.now ≡ map (module_names ds (numbers_in ds)) (modules_in c.args.files.now) =
    c.as_slice.ensures
    ∙ c.in_ok-table.ensures
    ∙ ap (λ n. map (module_names ds n) (map told c.deref.result.now)) c.in_ok-numbers.ensures
    ∙ ap (map (module_names ds (numbers_in ds))) modules in
    subst P table c.variables_by.ensures

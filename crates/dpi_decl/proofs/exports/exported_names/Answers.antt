use Rattle.std.proofs.Common.{map, ap, ◌∙◌}
use Rattle.sv_instances.specs.Modules.{told}
use Rattle.dpi_decl.specs.Exports.{numbers_in, module_names}
use Rattle.dpi_decl.proofs.exports.exported_names.Goals as goal

pub returns : goal.returns
returns c =
    let xs = c.args.exports.now in
    c.in_ok-table.ensures
    ∙ ap (λ n. map (module_names n) (map told c.deref.result.now)) c.in_ok-numbers.ensures
    ∙ ap (map (module_names (numbers_in xs))) (ap (map told) c.deref.ensures.value ∙ c.in_ok-modules.ensures)

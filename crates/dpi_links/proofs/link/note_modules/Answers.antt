use Rattle.std.proofs.Common.{map}
use Rattle.dpi_rules.proofs.Noting.{noted_both}
use Rattle.sv_instances.specs.Modules as sv
use Rattle.dpi_links.specs.Functions.{bodies_of}
use Rattle.dpi_links.specs.Imports.{imports_in, imports_violations}
use Rattle.dpi_links.specs.Exports.{exports_in, exports_violations}
use Rattle.dpi_links.proofs.link.note_modules.Goals as goal

pub returns : goal.returns
returns c =
    let ms = map sv.told c.args.modules.now in
    let bodies = bodies_of c.args.bodies.now in
    noted_both c.args.found.now (imports_violations bodies (imports_in ms)) (exports_violations bodies (exports_in ms)) c.in_ok-note_module_imports.ensures c.in_ok-note_module_exports.ensures

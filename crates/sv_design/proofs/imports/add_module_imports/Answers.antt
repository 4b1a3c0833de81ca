use Rattle.std.proofs.Common.{◌++◌, map}
use Rattle.std.specs.Prelude.{flat_map}
use Rattle.sv_instances.specs.Modules.{told}
use Rattle.sv_design.specs.Imports.{module_imports}
use Rattle.sv_design.proofs.Adding.{adding_next}
use Rattle.sv_design.proofs.imports.add_module_imports.Goals as goal

pub loop-placed-preserved : goal.loop-placed-preserved
loop-placed-preserved c =
    let here = rw c.as_slice.ensures at c.in_ok-add_imports.ensures in
    adding_next module_imports told (c.args.list.now.items ++ flat_map module_imports (map told c.args.modules.now)) c.loop-placed.list.items c.add_imports.new.list.items c.args.modules.now c.loop-placed.placed-index c.placed-item.result c.loop-placed-test.true c.placed-item.is here c.loop-placed.invariant

use Rattle.std.proofs.Common.{◌++◌, map}
use Rattle.std.specs.Prelude.{flat_map}
use Rattle.sv_instances.specs.Modules.{told}
use Rattle.sv_design.specs.Places.{module_initials}
use Rattle.sv_design.proofs.Adding.{adding_next}
use Rattle.sv_design.proofs.places.add_module_initials.Goals as goal

pub loop-placed-preserved : goal.loop-placed-preserved
loop-placed-preserved c =
    let here = rw c.as_slice.ensures at c.in_ok-add_initials.ensures in
    adding_next module_initials told (c.args.list.now.items ++ flat_map module_initials (map told c.args.modules.now)) c.loop-placed.list.items c.add_initials.new.list.items c.args.modules.now c.loop-placed.placed-index c.placed-item.result c.loop-placed-test.true c.placed-item.is here c.loop-placed.invariant

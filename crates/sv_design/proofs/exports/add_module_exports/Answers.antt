use Rattle.std.proofs.Common.{◌+◌, ◌++◌, ap, drop, map}
use Rattle.sv_instances.specs.Modules.{told}
use Rattle.sv_design.specs.Exports.{exports_from}
use Rattle.sv_design.proofs.Adding.{rest_of}
use Rattle.sv_design.proofs.Exporting.{exports_next}
use Rattle.sv_design.proofs.exports.add_module_exports.Goals as goal

pub loop-placed-preserved : goal.loop-placed-preserved
loop-placed-preserved c =
    let ms = c.args.modules.now in
    let i = c.loop-placed.placed-index in
    let p = c.placed-item.result in
    let all = c.args.list.now.items ++ exports_from 0 (map told ms) in
    let made = rw c.as_slice-items.ensures at c.in_ok-add_exports.ensures in
    let behind = rw c.as_slice-items.ensures at c.in_ok-first.ensures in
    exports_next all c.loop-placed.list.items c.add_exports.new.list.items c.loop-placed.first c.in_ok-first.first (map told (drop i ms)) (map told (drop (i + 1) ms)) (told p) (ap (map told) (rest_of ms i p c.loop-placed-test.true c.placed-item.is)) made behind c.loop-placed.invariant

use Rattle.std.proofs.Common.{◌+◌, ◌++◌, ap, drop, length, map, refl}
use Rattle.sv_instances.specs.Modules.{told}
use Rattle.sv_design.specs.Items.{module_declarations}
use Rattle.sv_design.specs.Counted.{counted}
use Rattle.sv_design.specs.Subroutines.{module_subroutines}
use Rattle.sv_design.proofs.Adding.{rest_of, counted_next}
use Rattle.sv_design.proofs.subroutines.add_module_subroutines.Goals as goal

pub loop-placed-preserved : goal.loop-placed-preserved
loop-placed-preserved c =
    let ms = c.args.modules.now in
    let i = c.loop-placed.placed-index in
    let p = c.placed-item.result in
    let before = c.loop-placed.declared.items in
    let all = c.args.list.now.items ++ counted module_declarations module_subroutines (length c.args.declared.now.items) (map told ms) in
    let both = rw c.as_slice.ensures at c.in_ok-add_subroutines.ensures in
    counted_next module_declarations module_subroutines all c.loop-placed.list.items c.add_subroutines.new.list.items before c.add_subroutines.new.declared.items (length before) (map told (drop i ms)) (map told (drop (i + 1) ms)) (told p) (ap (map told) (rest_of ms i p c.loop-placed-test.true c.placed-item.is)) refl both.0 both.1 c.loop-placed.invariant

use Rattle.std.proofs.Common.{rules}
use Rattle.sv_instances.specs.Tops.{is_among}
use Rattle.sv_instances.proofs.Marked.{marking_next, marking_last}
use Rattle.sv_instances.proofs.tops.mark_table.Goals as goal

pub loop-row-preserved : goal.loop-row-preserved
loop-row-preserved c =
    let row = rw c.as_slice.ensures at c.mark_row.ensures in
    marking_next is_among c.args.children.now c.loop-row.row-index c.row-item.result c.loop-row-test.true c.row-item.is (search rules) row c.loop-row.invariant

pub returns : goal.returns
returns c = marking_last is_among c.args.children.now c.loop-row.row-index c.loop-row-test.false c.loop-row.invariant

use Rattle.sv_instances.proofs.Free.{among_row}
use Rattle.sv_instances.proofs.cycles.sift_row.Goals as goal

pub is_cyclic-requires-clause-free : goal.is_cyclic-requires-clause-free
is_cyclic-requires-clause-free c = λ f.
    c.requires.free f c.child-item.result.module_number (among_row c.args.row.now c.loop-child.child-index c.child-item.result c.loop-child-test.true c.child-item.is)

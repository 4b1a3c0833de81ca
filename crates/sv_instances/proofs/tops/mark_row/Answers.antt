use Rattle.std.proofs.Common.{rules}
use Rattle.std.specs.Prelude.{◌==◌, ℕ, Bool}
use Rattle.sv_instances.specs.declared.preorder.Child.{Child}
use Rattle.sv_instances.proofs.Marked.{marking_next, marking_last}
use Rattle.sv_instances.proofs.tops.mark_row.Goals as goal

pub loop-child-preserved : goal.loop-child-preserved
loop-child-preserved c =
    let test : Child → ℕ → Bool = λ x k. x.module_number == k in
    marking_next test c.args.row.now c.loop-child.child-index c.child-item.result c.loop-child-test.true c.child-item.is (search rules) c.mark.ensures c.loop-child.invariant

pub returns : goal.returns
returns c =
    let test : Child → ℕ → Bool = λ x k. x.module_number == k in
    marking_last test c.args.row.now c.loop-child.child-index c.loop-child-test.false c.loop-child.invariant

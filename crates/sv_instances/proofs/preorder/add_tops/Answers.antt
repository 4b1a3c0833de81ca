use Rattle.std.proofs.Common.{◌++◌, take, ap, sym, ◌∙◌}
use Rattle.std.proofs.lemmas.List.{drop_all}
use Rattle.sv_instances.specs.Preorder.{from_instance, from_tops, top}
use Rattle.sv_instances.proofs.Takes.{no_more, take_none, take_next}
use Rattle.sv_instances.proofs.preorder.add_tops.Goals as goal

pub loop-child-preserved : goal.loop-child-preserved
loop-child-preserved c =
    let f = from_instance c.args.children.now c.args.levels in
    let made = c.in_ok-add_instance.ensures ∙ ap (λ x. take c.args.most (c.loop-child.list ++ f x)) c.in_ok-next.ensures in
    record {
      room = rw made (no_more c.args.most (c.loop-child.list ++ f (top c.child-item.result)));
      same = take_next c.args.most (λ k. from_instance c.args.children.now c.args.levels (top k)) c.args.tops.now c.loop-child.child-index c.child-item.result c.loop-child.list c.loop-child-test.true c.child-item.is made c.loop-child.invariant.same;
    }

pub returns : goal.returns
returns c =
    take_none c.args.most c.loop-child.list c.loop-child.invariant.room
    ∙ ap (λ ys. take c.args.most (c.loop-child.list ++ from_tops c.args.children.now c.args.levels ys)) (sym (drop_all c.loop-child.child-index c.args.tops.now c.loop-child-test.false))
    ∙ c.loop-child.invariant.same

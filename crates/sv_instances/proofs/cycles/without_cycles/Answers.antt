use Rattle.std.proofs.Common.{◌++◌, ◌∷◌, [], ap, ◌∙◌, arith}
use Rattle.sv_instances.proofs.Sifting.{kept_next, refused_next}
use Rattle.sv_instances.proofs.cycles.without_cycles.Goals as goal

pub loop-row-preserved : goal.loop-row-preserved
loop-row-preserved c =
    let children = c.args.children.now in
    let loop = c.loop-row in
    let row = c.row-item.result in
    let kept = rw c.as_slice.ensures at c.in_ok-sift_row.ensures.kept in
    let refused = rw c.as_slice.ensures at c.in_ok-sift_row.ensures.refused in
    record {
      counted = omega (arith, loop.invariant.counted);
      kept = kept_next children loop.number loop.row-index row loop.table c.loop-row-test.true c.row-item.is (c.in_ok-push.ensures.ok ∙ ap (λ r. loop.table ++ r ∷ []) kept) loop.invariant.kept;
      refused = refused_next children loop.number loop.row-index row loop.found c.loop-row-test.true c.row-item.is refused loop.invariant.refused;
    }

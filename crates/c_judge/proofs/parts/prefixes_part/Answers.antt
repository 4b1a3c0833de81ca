use Rattle.std.proofs.Common.{◌-◌, ◌∙◌, ap, arith}
use Rattle.c_judge.specs.Parts as spec
use Rattle.c_judge.proofs.PrefixParts.{one_part}
use Rattle.c_judge.proofs.parts.prefixes_part.Goals as goal

pub loop-left-preserved : goal.loop-left-preserved
loop-left-preserved c =
    let n = c.loop-left.left in
    let inv = c.loop-left.invariant in
    record {
      room = omega (arith, inv.room);
      same = inv.same
          ∙ one_part c.args.prefixes.now n (n - 1) _ c.loop-left.part c.prefix_part-part.result
          (omega (arith, c.loop-left-test.true)) (omega (arith, c.loop-left-test.true, inv.room))
          (c.prefix_part-part.ensures ∙ ap (λ x. spec.prefix_part x c.loop-left.part) c.index-prefixes-left.is);
    }

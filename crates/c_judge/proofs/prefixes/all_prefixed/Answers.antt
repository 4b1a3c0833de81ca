use Rattle.std.proofs.Common.{◌-◌, ap, ◌∙◌, arith}
use Rattle.dpi_rules.specs.Least.{noted}
use Rattle.c_judge.specs.Calls.{env_of}
use Rattle.c_judge.specs.Judge as spec
use Rattle.c_judge.proofs.Prefixed.{one_prefix}
use Rattle.c_judge.proofs.prefixes.all_prefixed.Goals as goal

pub loop-left-preserved : goal.loop-left-preserved
loop-left-preserved c =
    let env = env_of c.args.around.now in
    let n = c.loop-left.left in
    let inv = c.loop-left.invariant in
    let turn = one_prefix env c.args.prefixes.now n (n - 1) _ c.loop-left.operand c.prefixed-operand.result c.loop-left.found c.prefixed-operand.new.found
    (omega (arith, c.loop-left-test.true)) (omega (arith, c.loop-left-test.true, inv.room))
    (c.prefixed-operand.ensures.value ∙ ap (λ x. (spec.prefixed env x c.loop-left.operand).value) c.index-prefixes-left.is)
    (c.prefixed-operand.ensures.found ∙ ap (λ x. noted c.loop-left.found (spec.prefixed env x c.loop-left.operand).found) c.index-prefixes-left.is) in
    record {
      room = omega (arith, inv.room);
      value = inv.value ∙ turn.0;
      found = inv.found ∙ turn.1;
    }

use Rattle.std.proofs.Common.{◌≡◌, ◌-◌, length, take, sym, ap, ◌∙◌, arith}
use Rattle.std.proofs.lemmas.List.{take_all}
use Rattle.dpi_rules.specs.Least.{noted}
use Rattle.sv_judge.specs.Judge.{prefixes_judged}
use Rattle.sv_judge.proofs.Prefixed.{fresh, one_prefix}
use Rattle.sv_judge.proofs.prefixes.all_prefixed.Goals as goal

pub loop-left-init : goal.loop-left-init
loop-left-init c =
    let ps = c.args.prefixes.now in
    let whole : take (length ps) ps ≡ ps = take_all (length ps) ps (omega arith) in
    record {
      room = omega arith;
      value = ap (λ xs. (prefixes_judged c.args.file xs (fresh c.args.operand)).value) (sym whole);
      found = ap (λ xs. noted c.args.found.now (prefixes_judged c.args.file xs (fresh c.args.operand)).found) (sym whole);
    }

pub loop-left-preserved : goal.loop-left-preserved
loop-left-preserved c =
    let n = c.loop-left.left in
    let inv = c.loop-left.invariant in
    let turn = one_prefix c.args.file c.args.prefixes.now n (n - 1) _ c.loop-left.operand c.prefixed-operand.result c.loop-left.found c.prefixed-operand.new.found
    (omega (arith, c.loop-left-test.true)) (omega (arith, c.loop-left-test.true, inv.room)) c.prefixed-operand.ensures.value c.prefixed-operand.ensures.found in
    record {
      room = omega (arith, inv.room);
      value = inv.value ∙ turn.0;
      found = inv.found ∙ turn.1;
    }

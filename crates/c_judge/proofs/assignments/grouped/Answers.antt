use Rattle.std.proofs.Common.{◌≡◌, ◌-◌, length, take, sym, ap, ◌∙◌, arith}
use Rattle.std.proofs.lemmas.List.{take_all}
use Rattle.dpi_rules.specs.Least.{noted}
use Rattle.c_judge.specs.Judge as spec
use Rattle.c_judge.proofs.Grouping.{onto, grouped_is, one_side}
use Rattle.c_judge.proofs.assignments.grouped.Goals as goal

pub loop-left-init : goal.loop-left-init
loop-left-init c =
    let file = c.args.file in
    let first = c.args.first in
    let ss = c.args.sides.now in
    let whole : take (length ss) ss ≡ ss = take_all (length ss) ss (omega arith) in
    let same : spec.grouped file first ss ≡ onto file first (take (length ss) ss) (spec.clean c.last_value-value.result) =
    grouped_is file first ss
    ∙ ap (λ v. onto file first ss (spec.clean v)) (sym c.last_value-value.ensures)
    ∙ ap (λ xs. onto file first xs (spec.clean c.last_value-value.result)) (sym whole) in
    record {
      room = omega arith;
      value = ap (λ j. j.value) same;
      found = ap (λ j. noted c.args.found.now j.found) same;
    }

pub loop-left-preserved : goal.loop-left-preserved
loop-left-preserved c =
    let n = c.loop-left.left in
    let inv = c.loop-left.invariant in
    let turn = one_side c.args.file c.args.first c.args.sides.now n (n - 1) _ c.last_value-before.result c.loop-left.value c.one_assigned-value.result c.loop-left.found c.one_assigned-value.new.found
    (omega (arith, c.loop-left-test.true)) (omega (arith, c.loop-left-test.true, inv.room)) c.last_value-before.ensures c.one_assigned-value.ensures.value c.one_assigned-value.ensures.found in
    record {
      room = omega (arith, inv.room);
      value = inv.value ∙ turn.0;
      found = inv.found ∙ turn.1;
    }

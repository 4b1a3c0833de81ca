use Rattle.std.proofs.Common.{arith, ◌≡◌, None}
use Rattle.std.proofs.lemmas.Grind.{common_steps}
use Rattle.std.specs.BTreeMap.{get_by}
use Rattle.std.specs.Cmp.Lexicographic.{slice_cmp}
use Rattle.std.specs.Ordering.{nat_cmp}
use Rattle.c_calls.proofs.Adding.{add_new, same_rules}
use Rattle.c_calls.proofs.refusals.Refusals.refuse.Goals as goal

pub returns-in_ok-insert : goal.returns-in_ok-insert
returns-in_ok-insert c =
    let absent : get_by (λ k. slice_cmp nat_cmp c.args.name.now k.now) c.args.self.now.rules ≡ None = grind (arith, common_steps) in
    same_rules _ _ (add_new c.args.name.now c.args.self.now.rules c.insert.new.self c.args.rule c.in_ok-insert.ensures.updates absent)

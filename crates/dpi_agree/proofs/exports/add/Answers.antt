use Rattle.std.proofs.Common.{arith, ◌≡◌, None}
use Rattle.std.proofs.lemmas.Grind.{common_steps}
use Rattle.std.specs.BTreeMap.{get_by}
use Rattle.std.specs.Cmp.Lexicographic.{slice_cmp}
use Rattle.std.specs.Ordering.{nat_cmp}
use Rattle.dpi_agree.proofs.Adding.{add_new}
use Rattle.dpi_agree.proofs.exports.add.Goals as goal

pub returns-in_ok-insert : goal.returns-in_ok-insert
returns-in_ok-insert c =
    let absent : get_by (λ k. slice_cmp nat_cmp c.args.export.name.now k.now) c.args.firsts.now ≡ None = grind (arith, common_steps) in
    add_new c.args.export.name.now c.args.firsts.now c.insert.new.self c.args.export c.in_ok-insert.ensures.updates absent

use Rattle.c_names.specs.Scopes.{scopes_of}
use Rattle.c_walk.specs.Around.{around_of}
use Rattle.c_meanings.specs.Sight.{both, stays}
use Rattle.c_meanings.specs.Statements.{start_tells, maybe_says}
use Rattle.c_meanings.proofs.Telling.{is_behind_both, behind_both, is_said, adds_said}
use Rattle.c_meanings.proofs.statements.add_head.Goals as goal

pub returns : goal.returns
returns c s h =
    let a = around_of c.args.outside.now in
    let names = scopes_of c.add_start.new.scopes in
    let start = start_tells a c.args.start.now in
    let condition = maybe_says a c.args.condition.now in
    let change = maybe_says a c.args.change.now in
    behind_both (both start (stays condition)) (stays change) names c.add_maybe-2.new.list.items c.add_maybe-2.result
    (is_behind_both start (stays condition) (c.in_ok-add_start.ensures s h) (is_said condition c.add_start.new.list.items c.in_ok-add_maybe.ensures))
    (adds_said change names c.add_maybe.new.list.items c.add_maybe-2.new.list.items c.add_maybe-2.result c.add_maybe-2.ensures)

use Rattle.std.proofs.Common.{[], map, take, false, subst}
use Rattle.std.specs.Prelude.{filter, flat_map}
use Rattle.std.proofs.lemmas.List.{take_all}
use Rattle.c_functions.specs.Declarations.{told}
use Rattle.c_functions.specs.Again.{Walks, is_compared}
use Rattle.c_functions.proofs.Walking.{walks_none, walks_both, joined_more}
use Rattle.c_functions.proofs.again.note_shared.Goals as goal

pub loop-declarations-init : goal.loop-declarations-init
loop-declarations-init c = walks_none c.args.compared c.new-firsts.result c.args.found.now [] c.new-firsts.ensures

pub loop-declarations-preserved : goal.loop-declarations-preserved
loop-declarations-preserved c =
    let table = c.args.table.now in
    let i = c.loop-declarations.declarations-index in
    let ds = c.declarations-item.result in
    let kind = c.args.compared in
    let p = is_compared kind false in
    let met = filter p (flat_map (λ xs. xs) (map (map told) (take i table))) in
    let here = rw c.as_slice.ensures at c.in_ok-note_all.ensures in
    let next = here met c.loop-declarations.invariant.tells in
    subst (λ xs. Walks kind xs c.note_all.new.firsts c.args.found.now c.note_all.new.found [])
    (joined_more told p table i ds c.loop-declarations-test.true c.declarations-item.is)
    (walks_both kind met (filter p (map told ds)) [] c.loop-declarations.invariant next)

pub returns : goal.returns
returns c =
    let table = c.args.table.now in
    let kind = c.args.compared in
    let all = subst (λ xs. Walks kind (filter (is_compared kind false) (flat_map (λ ds. ds) (map (map told) xs))) c.loop-declarations.firsts c.args.found.now c.loop-declarations.found [])
    (take_all c.loop-declarations.declarations-index table c.loop-declarations-test.false)
    c.loop-declarations.invariant in
    all.found_are

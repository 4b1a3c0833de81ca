use Rattle.std.proofs.Common.{◌∷◌, [], ◌++◌, map, take, subst}
use Rattle.std.specs.Prelude.{filter}
use Rattle.std.proofs.lemmas.List.{take_all}
use Rattle.c_functions.specs.Declarations.{told}
use Rattle.c_functions.specs.Again.{Walks, is_compared}
use Rattle.c_functions.proofs.Walking.{walks_none, walks_both, picked_more}
use Rattle.c_functions.proofs.again.note_all.Goals as goal

pub loop-declaration-init : goal.loop-declaration-init
loop-declaration-init c = λ before tells. walks_none c.args.compared c.args.firsts.now c.args.found.now before tells

pub loop-declaration-preserved : goal.loop-declaration-preserved
loop-declaration-preserved c =
    let ds = c.args.declarations.now in
    let i = c.loop-declaration.declaration-index in
    let d = c.declaration-item.result in
    let kind = c.args.compared in
    let p = is_compared kind c.args.of_static in
    let met = filter p (map told (take i ds)) in
    λ before tells.
    let so_far = c.loop-declaration.invariant before tells in
    let next = c.in_ok-note_compared.ensures (before ++ met) so_far.tells in
    subst (λ xs. Walks kind xs c.note_compared.new.firsts c.args.found.now c.note_compared.new.found before)
    (picked_more told p ds i d c.loop-declaration-test.true c.declaration-item.is)
    (walks_both kind met (filter p (told d ∷ [])) before so_far next)

pub returns : goal.returns
returns c =
    let ds = c.args.declarations.now in
    let i = c.loop-declaration.declaration-index in
    let kind = c.args.compared in
    let p = is_compared kind c.args.of_static in
    λ before tells.
    subst (λ xs. Walks kind (filter p (map told xs)) c.loop-declaration.firsts c.args.found.now c.loop-declaration.found before)
    (take_all i ds c.loop-declaration-test.false)
    (c.loop-declaration.invariant before tells)

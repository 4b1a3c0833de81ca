use Rattle.std.proofs.Common.{◌≡◌, ◌<◌, ◌-◌, ◌++◌, ◌∷◌, [], length, take, flat_map, arith, refl, ap, sym, ◌∙◌, rules, append_assoc, length-append}
use Rattle.std.proofs.Common.{ℕ, List}
use Rattle.std.proofs.lemmas.List.{drop_all}
use Rattle.sv_instances.specs.declared.preorder.Child.{Child}
use Rattle.sv_instances.specs.Preorder.{from_instance, inside, children_of}
use Rattle.sv_instances.proofs.Takes.{no_more, take_none, take_next, levels_from}
use Rattle.sv_instances.proofs.preorder.+add_instance.Goals as goal

pub loop-child-init : goal.loop-child-init
loop-child-init t c =
    let more : length c.push.new.self ≡ length (c.args.list.now ++ c.args.instance ∷ []) = ap length c.in_ok-push.ensures.ok in
    let h = length-append c.args.list.now (c.args.instance ∷ []) in
    record { room = omega arith; same = refl }

pub add_instance-requires : goal.add_instance-requires
add_instance-requires t c = (omega arith, c.loop-child.invariant.room)

pub loop-child-preserved : goal.loop-child-preserved
loop-child-preserved t c =
    let list = c.in_ok-add_instance.ensures in
    let next = c.in_ok-next.ensures in
    let made = list ∙ ap (λ x. take c.args.most (c.loop-child.list ++ from_instance c.args.children.now (c.args.levels - 1) x)) next in
    record {
      room = rw made (no_more c.args.most (c.loop-child.list ++ from_instance c.args.children.now (c.args.levels - 1) (inside c.as_slice-outer.result.now c.child-item.result)));
      same = take_next c.args.most (λ k. from_instance c.args.children.now (c.args.levels - 1) (inside c.as_slice-outer.result.now k)) c.children_of-below.result.now c.loop-child.child-index c.child-item.result c.loop-child.list c.loop-child-test.true c.child-item.is made c.loop-child.invariant.same;
    }

pub returns : goal.returns
returns t c =
    let x = c.args.instance in
    let children = c.args.children.now in
    let most = c.args.most in
    let f = λ (n : List ℕ) (k : Child). from_instance children (c.args.levels - 1) (inside n k) in
    let outer : c.as_slice-outer.result.now ≡ x.name = search rules in
    let below : c.children_of-below.result.now ≡ children_of children x.module_number = c.children_of-below.ensures in
    let some : 0 < c.args.levels = omega arith in
    take_none most c.loop-child.list c.loop-child.invariant.room
    ∙ ap (λ ys. take most (c.loop-child.list ++ flat_map (f c.as_slice-outer.result.now) ys)) (sym (drop_all c.loop-child.child-index c.children_of-below.result.now c.loop-child-test.false))
    ∙ c.loop-child.invariant.same
    ∙ ap (λ ys. take most (ys ++ flat_map (f c.as_slice-outer.result.now) c.children_of-below.result.now)) c.in_ok-push.ensures.ok
    ∙ ap (λ n. take most ((c.args.list.now ++ x ∷ []) ++ flat_map (f n) c.children_of-below.result.now)) outer
    ∙ ap (λ ys. take most ((c.args.list.now ++ x ∷ []) ++ flat_map (f x.name) ys)) below
    ∙ ap (take most) (append_assoc c.args.list.now (x ∷ []) (flat_map (f x.name) (children_of children x.module_number)))
    ∙ ap (λ ys. take most (c.args.list.now ++ ys)) (sym (levels_from children c.args.levels x some))

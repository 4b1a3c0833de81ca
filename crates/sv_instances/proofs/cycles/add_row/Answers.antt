use Rattle.std.proofs.Common.{◌∷◌, [], List, ℕ, subst}
use Rattle.std.proofs.lemmas.List.Concat.{flat_map_single}
use Rattle.sv_instances.specs.declared.preorder.Child.{Child}
use Rattle.sv_instances.specs.Cycles.{IsSpread}
use Rattle.sv_instances.proofs.Reaching.{spread_last}
use Rattle.sv_instances.proofs.cycles.add_row.Goals as goal

pub returns : goal.returns
returns c =
    let f : Child → List ℕ = λ k. k.module_number ∷ [] in
    let P : List ℕ → Type 0 = λ ys. IsSpread c.args.marks.now c.args.list.now.items ys c.loop-child.marks c.loop-child.list.items in
    subst P (flat_map_single (λ (k : Child). k.module_number) c.args.row.now)
    (spread_last f c.args.row.now c.loop-child.child-index c.loop-child-test.false c.loop-child.invariant)

use Rattle.std.proofs.Common.{sym, ◌∙◌, ap, subst, None, IsSome, set}
use Rattle.slab.specs.Slab.{Updates}
use Rattle.c_memory.specs.Rows.{IsAt, IsAbsent, key_at}
use Rattle.c_memory.specs.Memory.{object_at}
use Rattle.c_memory.proofs.Changes.{objects_in, removed-objects, removed-sound, object-absent}
use Rattle.c_memory.proofs.Changes.{key-is, not_some}
use Rattle.c_memory.proofs.objects.Objects.end.Goals as goal

here : (c : goal.After-drop) → IsAt c.self.inside.rows.items c.args.serial c.in-Some.at
here c = rw c.deref.ensures.value at c.in-Some.ensures

updates : (c : goal.After-drop)
    → Updates c.self.inside.slab c.remove.new.self
    (key_at c.self.inside.rows.items c.in-Some.at) None
updates c =
    let key =
    key-is _ _ _ c.self.invariant c.remove-row.result c.in-Some.at (here c).in_range
    c.remove-row.ensures.value in
    subst (λ k. Updates c.self.inside.slab c.remove.new.self k None) (sym key)
    c.remove.ensures.updates

pub invariant_of-self : goal.invariant_of-self
invariant_of-self c =
    rw c.remove-row.ensures.items
    (removed-sound _ _ _ c.self.invariant _ _ (here c).in_range (updates c))

pub returns-in-Some-clause-objects : goal.returns-in-Some-clause-objects
returns-in-Some-clause-objects c =
    rw c.remove-row.ensures.items
    (removed-objects _ _ _ c.self.invariant _ _ (here c).in_range (updates c)
    ∙ ap
    (λ serial. set (objects_in c.self.inside.rows.items c.self.inside.slab
    c.self.inside.given) serial None)
    (here c).has_serial
    ∙ ap (λ m. set m.objects c.args.serial None) c.self.view_is)

pub returns-in_default-clause-objects : goal.returns-in_default-clause-objects
returns-in_default-clause-objects c =
    let absent : IsAbsent c.self.inside.rows.items c.args.serial =
    rw c.deref.ensures.value at c.in_default.ensures in
    let none = object-absent _ _ _ c.self.invariant _ absent in
    absurd
    (not_some (subst IsSome (ap (λ m. object_at m c.args.serial) (sym c.self.view_is)
    ∙ none) c.requires))

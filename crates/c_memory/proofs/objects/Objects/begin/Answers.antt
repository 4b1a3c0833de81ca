use Rattle.std.proofs.Common.{◌≡◌, ◌++◌, ◌∷◌, [], sym, ◌∙◌, ap, length}
use Rattle.std.proofs.Common.{Some}
use Rattle.c_memory.proofs.Tables.{length-numbered}
use Rattle.c_memory.proofs.Changes.{pushed-objects, pushed-sound, objects_in}
use Rattle.c_memory.proofs.objects.Objects.begin.Goals as goal

-- the objects before, by the fields
before : (c : goal.After-self-1)
    → objects_in c.self.inside.rows.items c.self.inside.slab c.self.inside.given
    ≡ c.args.self.now.objects
before c = ap (λ m. m.objects) c.self.view_is ∙ c.in_ok-reserve.ensures.objects

pub invariant_of-self : goal.invariant_of-self
invariant_of-self c =
    let items = rw c.unwrap.ensures at c.push.ensures.items in
    rw items
    (pushed-sound _ _ _ c.self.invariant _ _ _ c.insert_reserved-key.ensures.was_vacant
    c.insert_reserved-key.ensures.updates)

pub returns-clause-number : goal.returns-clause-number
returns-clause-number c = sym (ap length (sym (before c)) ∙ length-numbered _ _)

pub returns-clause-objects : goal.returns-clause-objects
returns-clause-objects c =
    let items = rw c.unwrap.ensures at c.push.ensures.items in
    rw items
    (pushed-objects _ _ _ c.self.invariant _ _ _ c.insert_reserved-key.ensures.was_vacant
    c.insert_reserved-key.ensures.updates
    ∙ ap (λ os. os ++ Some c.args.object ∷ []) (before c))

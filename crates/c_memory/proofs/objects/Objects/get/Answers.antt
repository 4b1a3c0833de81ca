use Rattle.std.proofs.Common.{◌≡◌, sym, ◌∙◌, ap}
use Rattle.std.proofs.lemmas.List.{get_or_default}
use Rattle.slab.specs.Slab.{get}
use Rattle.c_memory.specs.Rows.{IsAt, IsAbsent, key_at}
use Rattle.c_memory.proofs.Changes.{object-at, object-absent}
use Rattle.c_memory.proofs.objects.Objects.get.Goals as goal

pub returns-in_err-place : goal.returns-in_err-place
returns-in_err-place c =
    let absent : IsAbsent c.self.inside.rows.items c.args.serial =
    rw c.deref.ensures.value at c.in_err-place.ensures in
    rw (c.from_residual.ensures, ← c.self.view_is)
    (sym (object-absent _ _ _ c.self.invariant _ absent))

pub returns : goal.returns
returns c =
    let here : IsAt c.self.inside.rows.items c.args.serial c.in_ok-place.place =
    rw c.deref.ensures.value at c.in_ok-place.ensures in
    let key : key_at c.self.inside.rows.items c.in_ok-place.place ≡ c.index.result.now.key =
    ap (λ row. row.key) (get_or_default _ _ _ _ here.in_range ∙ sym c.index.ensures) in
    rw (c.get.ensures, ← c.self.view_is)
    (ap (get c.self.inside.slab) (sym key) ∙ sym (object-at _ _ _ c.self.invariant _ _ here))

use Rattle.std.proofs.Common.{◌≡◌, ◌<◌, sym, ◌∙◌, ap, arith, length, None, Some}
use Rattle.slab.specs.Slab.{get}
use Rattle.c_memory.specs.Memory.{object_at, cells_at}
use Rattle.c_memory.specs.Rows.{IsAt, IsAbsent, key_at}
use Rattle.c_memory.proofs.Writes.{written}
use Rattle.c_memory.proofs.Changes.{object-at, object-absent, key-is}
use Rattle.c_memory.proofs.objects.Objects.put.Goals as goal

-- the object that was found is that of the number
found : (c : goal.After-index_mut)
    → object_at c.args.self.now c.args.serial ≡ Some c.index_mut.result.now
found c =
    let here : IsAt c.self.inside.rows.items c.args.serial c.in-Some.at =
    rw c.deref.ensures.value at c.in-Some.ensures in
    let key =
    key-is _ _ _ c.self.invariant c.index.result.now c.in-Some.at here.in_range c.index.ensures
    in
    ap (λ m. object_at m c.args.serial) (sym c.self.view_is)
    ∙ object-at _ _ _ c.self.invariant _ _ here
    ∙ ap (get c.self.inside.slab) key
    ∙ c.index_mut.ensures.value

pub put-requires-clause-inside : goal.put-requires-clause-inside
put-requires-clause-inside c = rw (found c) at c.requires.inside

pub put-requires-clause-typed : goal.put-requires-clause-typed
put-requires-clause-typed c = rw (found c) at c.requires.typed

pub returns-in-Some : goal.returns-in-Some
returns-in-Some c =
    let here : IsAt c.self.inside.rows.items c.args.serial c.in-Some.at =
    rw c.deref.ensures.value at c.in-Some.ensures in
    let key : key_at c.self.inside.rows.items c.in-Some.at ≡ c.index.result.now.key =
    key-is _ _ _ c.self.invariant c.index.result.now c.in-Some.at here.in_range c.index.ensures in
    written c.self.inside c.args.self.now c.args.serial c.in-Some.at c.index.result.now.key
    c.args.place
    c.index_mut.result.now c.put.new.self c.args.cell c.self.invariant
    c.self.view_is here key c.index_mut.ensures.value c.put.ensures

pub returns-in_default : goal.returns-in_default
returns-in_default c =
    let absent : IsAbsent c.self.inside.rows.items c.args.serial =
    rw c.deref.ensures.value at c.in_default.ensures in
    let none : object_at c.args.self.now c.args.serial ≡ None =
    ap (λ m. object_at m c.args.serial) (sym c.self.view_is)
    ∙ object-absent _ _ _ c.self.invariant _ absent in
    let inside : c.args.place < length (cells_at c.args.self.now c.args.serial) =
    c.requires.inside in
    let empty : c.args.place < 0 = rw none at inside in
    absurd (omega arith)

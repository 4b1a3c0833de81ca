-- A write into an object through its key.
use Rattle.std.proofs.Common.{◌≡◌, ℕ, ◌-◌, ◌<◌, ◌^◌, min, List, length}
use Rattle.std.proofs.Common.{get_or, set, refl, ap, sym, ◌∙◌, subst, arith, Option, Some, None}
use Rattle.std.proofs.Common.{IsSome, is_some, count_by, cond, Bool, true}
use Rattle.std.specs.Prelude.{option_map}
use Rattle.std.specs.Vec.{vec_len, vec_capacity}
use Rattle.std.proofs.lemmas.List.Sums.{sum_by-set}
use Rattle.slab.specs.Slab.{Slab, get, Updates, slab_len}
use Rattle.slab.specs.Slab.{with_value as with_slot}
use Rattle.slab.proofs.SlabLemmas.{Updates-with_value, ContainsKey-within}
use Rattle.c_memory.specs.declared.ccell.CCell.{CCell}
use Rattle.c_memory.specs.declared.objects.Row.{Row}
use Rattle.c_memory.specs.declared.objects.Objects.TheInside.{Inside}
use Rattle.c_memory.specs.Object.{CObject, with_value}
use Rattle.c_memory.specs.Memory.{CMemory, object_at, put_at}
use Rattle.c_memory.specs.Rows.{key_at, IsAt, IsSound}
use Rattle.c_memory.specs.Seen.{seen, spare_in}
use Rattle.c_memory.proofs.Changes.{objects_in, object-at, changed-objects}

slot_there : (slots : List (Option CObject)) (key : ℕ) → IsSome (get_or slots key None)
    → key < length slots
slot_there slots key some =
    ContainsKey-within (record { slots = slots; vacant_key = 0; capacity = 0 }) key some

count-set : (slots : List (Option CObject)) (key : ℕ) (v : CObject) → IsSome (get_or slots key None)
    → count_by is_some (set slots key (Some v)) ≡ count_by is_some slots
count-set slots key v some =
    let weight : Bool → ℕ = λ b. cond b 1 0 in
    let one : weight (is_some (get_or slots key None)) ≡ weight true = ap weight some in
    let sums =
    sum_by-set (λ o. cond (is_some o) 1 0) slots key (Some v) None (slot_there slots key some)
    in
    omega (arith, sums, one)

pub slab_len-with_slot : (slab : Slab CObject) (key : ℕ) (v : CObject) → IsSome (get slab key)
    → slab_len (with_slot slab key v) ≡ slab_len slab
slab_len-with_slot slab key v some = count-set slab.slots key v some

same_memory : (m n : CMemory) → m.objects ≡ n.objects → m.spare ≡ n.spare → m ≡ n
same_memory m n p q = λ i. record { objects = p i; spare = q i }

pub written :
    (fields : Inside) (m : CMemory) (serial i key place : ℕ) (o v : CObject) (cell : CCell)
    → IsSound fields.rows.items fields.slab fields.given → seen fields ≡ m
    → IsAt fields.rows.items serial i
    → key_at fields.rows.items i ≡ key → get fields.slab key ≡ Some o → v ≡ with_value o place cell
    → seen (record fields { slab = with_slot fields.slab key v }) ≡ put_at m serial place cell
written fields m serial i key place o v cell sound is here at found put =
    let rows : List Row = fields.rows.items in
    let slab : Slab CObject = fields.slab in
    let after : Slab CObject = with_slot slab key v in
    let there : IsSome (get slab key) = subst IsSome (sym found) refl in
    let updates : Updates slab after (key_at rows i) (Some v) =
    subst (λ k. Updates slab after k (Some v)) (sym at) (Updates-with_value slab key v there) in
    let object : object_at m serial ≡ Some o =
    ap (λ x. object_at x serial) (sym is) ∙ object-at rows slab fields.given sound serial i here
    ∙ ap (get slab) at ∙ found in
    let value : Some v ≡ option_map (λ x. with_value x place cell) (object_at m serial) =
    ap Some put ∙ ap (option_map (λ x. with_value x place cell)) (sym object) in
    let objects : objects_in rows after fields.given ≡ (put_at m serial place cell).objects =
    changed-objects rows slab fields.given sound after i v here.in_range updates
    ∙ ap (λ n. set (objects_in rows slab fields.given) n (Some v)) here.has_serial
    ∙ ap (λ x. set x.objects serial (Some v)) is
    ∙ ap (λ x. set m.objects serial x) value in
    let free : ℕ → ℕ = λ n.
    min (min (vec_capacity fields.rows - vec_len fields.rows) (slab.capacity - n))
    (2 ^ 64 - 1 - fields.given) in
    let spare : spare_in (record fields { slab = after }) ≡ m.spare =
    ap free (slab_len-with_slot slab key v there) ∙ ap (λ x. x.spare) is in
    same_memory _ _ objects spare

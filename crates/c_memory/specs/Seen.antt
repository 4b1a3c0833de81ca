-- The objects that the code keeps, as contracts see them.
use Rattle.std.specs.Prelude.{◌+◌, ◌-◌, ◌^◌, min, ℕ}
use Rattle.std.specs.Vec.{vec_len, vec_capacity}
use Rattle.slab.specs.Slab.{get, slab_len}
use Rattle.c_memory.specs.declared.objects.Objects.TheInside.{Inside}
use Rattle.c_memory.specs.Memory.{CMemory}
use Rattle.c_memory.specs.Rows.{find_in, numbered, IsSound}

-- how many objects can begin without memory, and before the numbers end
abbrev pub spare_in : Inside → ℕ
spare_in o =
    let free_rows = vec_capacity o.rows - vec_len o.rows in
    let free_slots = o.slab.capacity - slab_len o.slab in
    min (min free_rows free_slots) (2 ^ 64 - 1 - o.given)

-- the memory of these fields
abbrev pub seen : Inside → CMemory
seen o = record {
  objects = numbered (find_in o.rows.items (get o.slab)) (o.given + 1);
  spare = spare_in o;
}

-- what the fields keep
abbrev pub IsKept : Inside → Type 0
IsKept o = IsSound o.rows.items o.slab o.given

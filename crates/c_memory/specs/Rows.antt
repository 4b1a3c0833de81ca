-- The list that finds an object by its number.
use Rattle.std.specs.Prelude.{◌≡◌, ◌≢◌, ℕ, ◌<◌, ◌≤◌, ◌==◌, if◌then◌else◌}
use Rattle.std.specs.Prelude.{Option, None, IsSome, List, [], ◌∷◌, length, map, slice_index_or}
use Rattle.std.specs.List.{range_with_len}
use Rattle.slab.specs.Slab.{Slab, get}
use Rattle.c_memory.specs.declared.objects.Row.{Row}
use Rattle.c_memory.specs.Object.{CObject}

-- the number of the object in this row, and its key
abbrev pub serial_at : List Row → ℕ → ℕ
serial_at rows i = let row = slice_index_or rows i (record { serial = 0; key = 0 }) in row.serial

abbrev pub key_at : List Row → ℕ → ℕ
key_at rows i = let row = slice_index_or rows i (record { serial = 0; key = 0 }) in row.key

-- numbers rise
abbrev pub AreRising : List Row → Type 0
AreRising rows = (i j : ℕ) → i < j → j < length rows → serial_at rows i < serial_at rows j

-- the row at this place has the number
pub record IsAt (rows : List Row) (serial i : ℕ) : Type 0 where
  pub in_range : i < length rows
  pub has_serial : serial_at rows i ≡ serial

-- no row has the number
abbrev pub IsAbsent : List Row → ℕ → Type 0
IsAbsent rows serial = (i : ℕ) → i < length rows → serial_at rows i ≢ serial

-- what the rows and the keys give for a number
abbrev pub find_in : List Row → (ℕ → Option CObject) → ℕ → Option CObject
find_in [] at serial = None
find_in (row ∷ rows) at serial = if row.serial == serial then at row.key else find_in rows at serial

-- what the function gives for the numbers below n
abbrev pub numbered : (ℕ → Option CObject) → ℕ → List (Option CObject)
numbered f n = map f (range_with_len 0 n)

-- numbers rise and are given already, keys differ, and there is an object under each
pub record IsSound (rows : List Row) (slab : Slab CObject) (given : ℕ) : Type 0 where
  pub rising : AreRising rows
  pub apart : (i j : ℕ) → i < j → j < length rows → key_at rows i ≢ key_at rows j
  pub above : (i : ℕ) → i < length rows → 0 < serial_at rows i
  pub below : (i : ℕ) → i < length rows → serial_at rows i ≤ given
  pub kept : (i : ℕ) → i < length rows → IsSome (get slab (key_at rows i))

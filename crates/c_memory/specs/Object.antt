-- An object of C memory.
use Rattle.std.specs.Prelude.{ℕ, ◌%◌, ◌<◌, ◌^◌, Bool, if◌then◌else◌, Option, Some, None}
use Rattle.std.specs.Prelude.{IfSome, IsTrue}
use Rattle.std.specs.Prelude.{List, length, All, bit_and, slice_set, replicate}
use Rattle.dpi_shape.specs.declared.leaf.Leaf.{Leaf}
use Rattle.dpi_shape.specs.declared.leaf.Leaf.TheVariants.{Logic}
use Rattle.dpi_shape.specs.Leaf.{element_cells, mask}
use Rattle.c_memory.specs.declared.ccell.CCell.{CCell}
use Rattle.c_memory.specs.declared.ccell.CCell.TheVariants.{Number, Pair}
use Rattle.c_memory.specs.declared.cell_type.CellType.{CellType}
use Rattle.c_memory.specs.CellType.{IsCellType, fits, all_bits, zero_of}

-- a list of cells of one type, of which some have no value; the leaf of its shape, if it has one
pub record CObject : Type 0 where
  pub of : CellType
  pub writable : Bool
  pub leaf : Option Leaf
  pub cells : List (Option CCell)

-- the used bits of a cell by the leaf of a shape; a scalar logic has its two digits in one number
abbrev pub leaf_bits : Leaf → ℕ → ℕ
leaf_bits (Logic signed) place = 3
leaf_bits other place = mask other (place % element_cells other)

-- the used bits of a cell: those of its shape, else all bits
abbrev pub used_by : Option Leaf → CellType → ℕ → ℕ
used_by None of place = all_bits of
used_by (Some leaf) of place = leaf_bits leaf place

-- the used bits of the cell at this place
abbrev pub used : CObject → ℕ → ℕ
used o place = used_by o.leaf o.of place

-- the value with these bits alone
abbrev pub masked : ℕ → CCell → CCell
masked bits (Number n) = Number (bit_and n bits)
masked bits (Pair w) = Pair (record { aval = bit_and w.aval bits; bval = bit_and w.bval bits })
masked bits other = other

-- the object after a store: the used bits alone, in one cell
abbrev pub with_value : CObject → ℕ → CCell → CObject
with_value o place cell =
    record o { cells = slice_set o.cells place (Some (masked (used o place) cell)) }

-- so many cells that are zero, or have no value
abbrev pub fresh_cells : CellType → ℕ → Bool → List (Option CCell)
fresh_cells of cells zero = replicate cells (if zero then Some (zero_of of) else None)

-- an object as it begins
abbrev pub fresh_object : CellType → Option Leaf → ℕ → Bool → Bool → CObject
fresh_object of leaf cells writable zero =
    record { of = of; writable = writable; leaf = leaf; cells = fresh_cells of cells zero }

-- the value, if there is one, is of the type
abbrev pub IsTyped : CellType → Option CCell → Type 0
IsTyped of cell = IfSome cell (λ c. IsTrue (fits of c))

-- what each object keeps: values of its type, and fewer cells than 2 to the 32nd
pub record IsObject (o : CObject) : Type 0 where
  pub typed : IsCellType o.of
  pub values : All (IsTyped o.of) o.cells
  pub short : length o.cells < 2 ^ 32

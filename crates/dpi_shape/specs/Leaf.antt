-- The packed part of a type.
use Rattle.std.specs.Prelude.{ℕ, ◌-◌, ◌*◌, ◌^◌, min, Bool, true, false}
use Rattle.std.specs.Int.{div_ceil}
use Rattle.dpi_shape.specs.declared.leaf.Leaf.{Leaf}
use Rattle.dpi_shape.specs.declared.leaf.Leaf.TheVariants.{Bit, Logic, Byte, Short, Int, Long}
use Rattle.dpi_shape.specs.declared.leaf.Leaf.TheVariants.{BitVec, LogicVec}
use Rattle.dpi_shape.specs.Range.{size}

-- the bits of one element
abbrev pub width : Leaf → ℕ
width (Bit signed) = 1
width (Logic signed) = 1
width (Byte signed) = 8
width (Short signed) = 16
width (Int signed) = 32
width (Long signed) = 64
width (BitVec range signed) = size range
width (LogicVec range signed) = size range

-- each bit has four states
abbrev pub is_four_state : Leaf → Bool
is_four_state (Logic signed) = true
is_four_state (LogicVec range signed) = true
is_four_state other = false

-- the cells of one element: one for each started 32 bits of a vector, else one
abbrev pub element_cells : Leaf → ℕ
element_cells (BitVec range signed) = div_ceil (size range) 32
element_cells (LogicVec range signed) = div_ceil (size range) 32
element_cells other = 1

-- the bytes of one cell in C
abbrev pub cell_bytes : Leaf → ℕ
cell_bytes (Bit signed) = 1
cell_bytes (Logic signed) = 1
cell_bytes (Byte signed) = 1
cell_bytes (Short signed) = 2
cell_bytes (Int signed) = 4
cell_bytes (Long signed) = 8
cell_bytes (BitVec range signed) = 4
cell_bytes (LogicVec range signed) = 8

-- how many bits of the element stand in this cell of it, counted from 0
abbrev pub used_bits : Leaf → ℕ → ℕ
used_bits (BitVec range signed) cell = min (size range - 32 * cell) 32
used_bits (LogicVec range signed) cell = min (size range - 32 * cell) 32
used_bits other cell = width other

-- the number whose one bits are the used ones, from bit 0 up
abbrev pub mask : Leaf → ℕ → ℕ
mask leaf cell = 2 ^ used_bits leaf cell - 1

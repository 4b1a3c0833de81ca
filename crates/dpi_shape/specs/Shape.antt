-- Shapes: cells in natural order, masks, and equal layouts.
use Rattle.std.specs.Prelude.{◌≡◌, ℕ, ◌+◌, ◌*◌, ◌%◌, ◌≤◌, ℤ, Option, Some, List, ◌++◌, length, take}
use Rattle.std.specs.Prelude.{drop, position, option_and_then}
use Rattle.std.specs.Option.{option_map}
use Rattle.std.specs.List.{starts_with, AllZip}
use Rattle.std.specs.Ordering.{int_eq}
use Rattle.dpi_shape.specs.declared.range.Range.{Range}
use Rattle.dpi_shape.specs.declared.leaf.Leaf.{Leaf}
use Rattle.dpi_shape.specs.declared.dims.Dims.{Dims}
use Rattle.dpi_shape.specs.declared.shape.Shape.{Shape}
use Rattle.dpi_shape.specs.Range.{IsIndex, IsAlike}
use Rattle.dpi_shape.specs.Leaf.{width, is_four_state, element_cells, mask}
use Rattle.dpi_shape.specs.Dims.{index_lists, elements, ranges_of}

-- what one element is
abbrev pub leaf_of : Shape → Leaf
leaf_of s = s.leaf

-- the ranges of the unpacked dimensions, the first one first
abbrev pub dims_of : Shape → List Range
dims_of s = ranges_of s.dims

-- the form in which they are kept
abbrev pub form_of : Shape → Dims
form_of s = s.dims

-- how many cells all elements have together
abbrev pub cells_of : Shape → ℕ
cells_of s = elements (dims_of s) * element_cells (leaf_of s)

-- the number, from 0, of the first element whose index list begins so
abbrev pub first_element : List Range → List ℤ → Option ℕ
first_element rs is = position (λ full. starts_with int_eq full is) (index_lists rs)

-- the first cell of the element or sub-array that these indices name, if they are inside
abbrev pub first_cell : Shape → List ℤ → Option ℕ
first_cell s is = option_map (λ k. k * element_cells (leaf_of s)) (first_element (dims_of s) is)

-- the used bits of a cell: those of its part of the element
abbrev pub mask_of : Shape → ℕ → ℕ
mask_of s cell = mask (leaf_of s) (cell % element_cells (leaf_of s))

-- each index lies in the range of its dimension
abbrev pub AreIndices : Shape → List ℤ → Type 0
AreIndices s is = AllZip IsIndex (take (length is) (dims_of s)) is

-- the cells of what so many indices name
abbrev pub part_cells : Shape → ℕ → ℕ
part_cells s n = elements (drop n (dims_of s)) * element_cells (leaf_of s)

-- from this cell on there is room for what so many indices name
abbrev pub HasRoom : Shape → ℕ → ℕ → Type 0
HasRoom s n cell = cell + part_cells s n ≤ cells_of s

-- the sum, if both numbers are there
abbrev pub sum_of : Option ℕ → Option ℕ → Option ℕ
sum_of a b = option_and_then (λ m. option_map (λ n. m + n) b) a

-- no other list of as many indices names this cell
abbrev pub NamesAlone : Shape → List ℤ → ℕ → Type 0
NamesAlone s is cell =
    (other : List ℤ) → length other ≡ length is → first_cell s other ≡ Some cell → other ≡ is

-- t is what n indices of s name: its cells are counted from the first one there
abbrev pub IsPartAfter : Shape → ℕ → Shape → Type 0
IsPartAfter s n t =
    (is js : List ℤ) → length is ≡ n
    → first_cell s (is ++ js) ≡ sum_of (first_cell s is) (first_cell t js)

-- the same layout: bits and cells of an element, states, sizes and directions
pub record IsSameLayout (s t : Shape) : Type 0 where
  pub widths : width (leaf_of s) ≡ width (leaf_of t)
  pub states : is_four_state (leaf_of s) ≡ is_four_state (leaf_of t)
  pub words : element_cells (leaf_of s) ≡ element_cells (leaf_of t)
  pub alike : AllZip IsAlike (dims_of s) (dims_of t)

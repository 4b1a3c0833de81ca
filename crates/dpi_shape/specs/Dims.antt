-- Unpacked dimensions: all index lists, and what a shape is.
use Rattle.std.specs.Prelude.{ℕ, Option, Some, None, zero, suc, ◌*◌, ◌≤◌, ℤ, pos, ◌+ℤ◌, List, [], ◌∷◌, map, length}
use Rattle.std.specs.List.{flat_map}
use Rattle.dpi_shape.specs.declared.range.Range.{Range}
use Rattle.dpi_shape.specs.declared.leaf.Leaf.{Leaf}
use Rattle.dpi_shape.specs.declared.dims.Dims.{Dims}
use Rattle.dpi_shape.specs.declared.dims.Dims.TheVariants.{Zero, One, Two, Three}
use Rattle.dpi_shape.specs.declared.shape.TheConstants.{MOST_WIDTH, MOST_CELLS, MOST_DIMS}
use Rattle.dpi_shape.specs.Range.{lower, size}
use Rattle.dpi_shape.specs.Leaf.{width, element_cells}

-- so many whole numbers, each one more than the one before
unfoldable pub rising : ℤ → ℕ → List ℤ
rising i zero = []
rising i (suc n) = i ∷ rising (i +ℤ pos 1) n

-- the indices of a range, the least first
abbrev pub indices : Range → List ℤ
indices r = rising (lower r) (size r)

-- all lists of one index per range, in dictionary order, where lesser indices come first
unfoldable pub index_lists : List Range → List (List ℤ)
index_lists [] = [] ∷ []
index_lists (r ∷ rs) = flat_map (λ i. map (λ is. i ∷ is) (index_lists rs)) (indices r)

-- how many elements an array with these ranges has
abbrev pub elements : List Range → ℕ
elements rs = length (index_lists rs)

-- the ranges that the code keeps, the first one first
abbrev pub ranges_of : Dims → List Range
ranges_of Zero = []
ranges_of (One rs) = rs
ranges_of (Two rs) = rs
ranges_of (Three rs) = rs

-- the form that keeps these ranges, if they are at most three
abbrev pub dims_by : List Range → Option Dims
dims_by [] = Some Zero
dims_by (a ∷ []) = Some (One (a ∷ []))
dims_by (a ∷ b ∷ []) = Some (Two (a ∷ b ∷ []))
dims_by (a ∷ b ∷ c ∷ []) = Some (Three (a ∷ b ∷ c ∷ []))
dims_by (a ∷ b ∷ c ∷ d ∷ more) = None

-- within the limits on ranges, bits and cells
pub record IsShape (leaf : Leaf) (rs : List Range) : Type 0 where
  pub few : length rs ≤ MOST_DIMS
  pub narrow : width leaf ≤ MOST_WIDTH
  pub small : elements rs * element_cells leaf ≤ MOST_CELLS

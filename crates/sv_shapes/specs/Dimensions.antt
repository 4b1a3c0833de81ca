-- Unpacked dimensions: their ranges, and where the limits on them are passed.
use Rattle.std.specs.Prelude.{ℕ, ◌*◌, ◌-◌, nat_lt, nat_le, ◌&&◌, if◌then◌else◌, pos, ◌-ℤ◌, Option, Some, None, List, [], ◌∷◌}
use Rattle.dpi_rules.specs.declared.violation.Violation.{Violation}
use Rattle.dpi_literal.specs.SvNumber.{decimal_of}
use Rattle.dpi_shape.specs.declared.range.Range.{Range}
use Rattle.dpi_shape.specs.declared.shape.TheConstants.{MOST_CELLS}
use Rattle.dpi_shape.specs.Range.{size}
use Rattle.sv_tree.specs.declared.leaves.Number.{Number}
use Rattle.sv_tree.specs.declared.types.Dimension.{Dimension}
use Rattle.sv_tree.specs.declared.types.Dimension.TheVariants as dimensions
use Rattle.sv_shapes.specs.Bounds.{shape_broken, unless_some, range_between, bounds_violations}

-- the indices from 0 up to n-1, if n is 1 to the most cells of an array
abbrev pub counted : Option ℕ → Option Range
counted None = None
counted (Some n) =
    if nat_lt 0 n && nat_le n MOST_CELLS
    then Some (record { left = pos 0; right = pos n -ℤ pos 1 })
    else None

-- the range of a dimension, if it has one
abbrev pub dimension_range : Dimension → Option Range
dimension_range (dimensions.Range k left right) = range_between left right
dimension_range (dimensions.Size k number) = counted (decimal_of number.bytes)

-- its `[`
abbrev pub bracket : Dimension → ℕ
bracket (dimensions.Range k left right) = k
bracket (dimensions.Size k number) = k

-- `[n]` without a range breaks the rule at its `[`
abbrev pub size_violations : ℕ → ℕ → Number → List Violation
size_violations file token number = unless_some (counted (decimal_of number.bytes)) (shape_broken file token)

-- what a dimension breaks by itself
abbrev pub dimension_violations : ℕ → Dimension → List Violation
dimension_violations file (dimensions.Range k left right) = bounds_violations file left right
dimension_violations file (dimensions.Size k number) = size_violations file k number

-- one range more
abbrev pub joined_range : Option Range → Option (List Range) → Option (List Range)
joined_range None ranges = None
joined_range (Some r) None = None
joined_range (Some r) (Some rs) = Some (r ∷ rs)

-- the ranges of all dimensions, if each has one
abbrev pub ranges_of : List Dimension → Option (List Range)
ranges_of [] = Some []
ranges_of (d ∷ ds) = joined_range (dimension_range d) (ranges_of ds)

-- at a dimension: its `[` where there is no room for it or it has too many cells, else what the ones behind it come to; no
-- cells are counted where it has no range
abbrev pub limit_at : ℕ → ℕ → ℕ → Option Range → (ℕ → Option ℕ) → Option ℕ
limit_at room cells token None behind = if nat_lt 0 room then None else Some token
limit_at room cells token (Some r) behind =
    if nat_lt 0 room && nat_le (cells * size r) MOST_CELLS then behind (cells * size r) else Some token

-- The `[` of the first dimension with which a limit is passed: there is room for so many more dimensions, and one element of
-- these dimensions has so many cells. A dimension without a range takes room too; behind it no limit is looked at, since what
-- it breaks itself stands before.
abbrev pub limit_token : ℕ → ℕ → List Dimension → Option ℕ
limit_token room cells [] = None
limit_token room cells (d ∷ ds) = limit_at room cells (bracket d) (dimension_range d) (λ more. limit_token (room - 1) more ds)

-- what is broken there
abbrev pub limit_violations : ℕ → Option ℕ → List Violation
limit_violations file None = []
limit_violations file (Some token) = shape_broken file token ∷ []

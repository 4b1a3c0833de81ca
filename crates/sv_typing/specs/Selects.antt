-- Selects: what stands before a `[`, and what the select makes of it.
use Rattle.std.specs.Prelude.{ℕ, ◌+◌, nat_lt, nat_le, Bool, true, false, ◌&&◌, if◌then◌else◌, ℤ, pos, negsuc, int_lt, int_le, Option, Some, None, List, [], ◌∷◌, ◌++◌}
use Rattle.dpi_rules.specs.declared.violation.Violation.{Violation}
use Rattle.dpi_rules.specs.Order.{violation}
use Rattle.dpi_shape.specs.declared.range.Range.{Range}
use Rattle.dpi_shape.specs.declared.leaf.Leaf.{Leaf}
use Rattle.dpi_shape.specs.declared.leaf.Leaf.TheVariants as leaves
use Rattle.dpi_shape.specs.declared.shape.Shape.{Shape}
use Rattle.dpi_shape.specs.declared.shape.TheConstants.{MOST_WIDTH}
use Rattle.dpi_shape.specs.Range.{lower, upper, size}
use Rattle.dpi_shape.specs.Leaf.{is_four_state}
use Rattle.dpi_shape.specs.Shape.{leaf_of}
use Rattle.dpi_literal.specs.SvNumber.{known_value}
use Rattle.sv_tree.specs.declared.leaves.Bound.{Bound}
use Rattle.sv_shapes.specs.declared.kinds.VarKind.{VarKind}
use Rattle.sv_shapes.specs.declared.kinds.VarKind.TheVariants as kinds
use Rattle.sv_shapes.specs.Bounds.{range_between, bounds_violations}
use Rattle.sv_typing.specs.declared.types.ExprType.{ExprType}
use Rattle.sv_typing.specs.declared.types.ExprType.TheVariants as types
use Rattle.sv_typing.specs.declared.types.Operand.{Operand}
use Rattle.sv_typing.specs.declared.selects.Selected.{Selected}
use Rattle.sv_typing.specs.declared.selects.Selected.TheVariants as selecteds
use Rattle.sv_typing.specs.Types.{is_array, part_type, is_packed}
use Rattle.sv_typing.specs.Judged.{operand, kind_broken}

-- what a select violates, and what it names; nothing where a violation stands
pub record Narrowed : Type 0 where
  pub found : List Violation
  pub value : Option Selected

abbrev pub narrowed : Selected → Narrowed
narrowed s = record { found = []; value = Some s }

abbrev pub refused : Violation → Narrowed
refused v = record { found = v ∷ []; value = None }

-- a part has no type, so no rule on types looks
abbrev pub unseen : Narrowed
unseen = record { found = []; value = None }

-- what can't be selected from so
abbrev pub select_broken : ℕ → ℕ → Violation
select_broken file token = violation file token 18

-- a whole variable, before any select
abbrev pub variable : VarKind → Selected
variable (kinds.Cells shape) = selecteds.Cells shape 0
variable kinds.Text = selecteds.Text
variable kinds.Chandle = selecteds.Chandle

-- what a name with its selects is, as an expression: bits and parts of a packed value are unsigned
abbrev pub selected_type : Selected → ExprType
selected_type (selecteds.Cells shape taken) = part_type shape taken
selected_type selecteds.Text = types.Text
selected_type selecteds.Chandle = types.Chandle
selected_type (selecteds.Bits width four) = types.Bits width false four

-- from an index down to 0
abbrev pub range_down : ℤ → Range
range_down left = record { left = left; right = pos 0 }

-- the indices of an element's bits; a scalar has none
abbrev pub bit_range : Leaf → Option Range
bit_range (leaves.Bit signed) = None
bit_range (leaves.Logic signed) = None
bit_range (leaves.Byte signed) = Some (range_down (pos 7))
bit_range (leaves.Short signed) = Some (range_down (pos 15))
bit_range (leaves.Int signed) = Some (range_down (pos 31))
bit_range (leaves.Long signed) = Some (range_down (pos 63))
bit_range (leaves.BitVec range signed) = Some range
bit_range (leaves.LogicVec range signed) = Some range

-- a bit of an element
abbrev pub bit_of : ℕ → ℕ → Bool → Option Range → Narrowed
bit_of file token four None = refused (select_broken file token)
bit_of file token four (Some r) = narrowed (selecteds.Bits 1 four)

-- `[e]`: a step into an array, or a bit of an element
abbrev pub index_of : ℕ → ℕ → Selected → Narrowed
index_of file token (selecteds.Cells shape taken) =
    if is_array shape taken
    then narrowed (selecteds.Cells shape (taken + 1))
    else bit_of file token (is_four_state (leaf_of shape)) (bit_range (leaf_of shape))
index_of file token other = refused (select_broken file token)

-- the index is packed
abbrev pub index_by : ℕ → ℕ → Selected → ExprType → Narrowed
index_by file token s index = if is_packed index then index_of file token s else refused (kind_broken file token)

-- an index of what stands before it
abbrev pub indexed : ℕ → ℕ → Option Selected → Option Operand → Narrowed
indexed file token None index = unseen
indexed file token (Some s) None = unseen
indexed file token (Some s) (Some index) = index_by file token s index.of

-- the index lies between the bounds
abbrev pub is_inside : Range → ℤ → Bool
is_inside r i = int_le (lower r) i && int_le i (upper r)

-- the bounds of a part stand in the declared direction
abbrev pub is_along : Range → Range → Bool
is_along r part = if int_lt r.left r.right then int_le part.left part.right else int_le part.right part.left

-- bounds of a part: inside, in the declared direction, and of no more bits than an element may have
abbrev pub is_part : Range → Range → Bool
is_part r part = is_inside r part.left && (is_inside r part.right && (is_along r part && nat_le (size part) MOST_WIDTH))

-- a part of an element with these bounds
abbrev pub part_of : ℕ → ℕ → Bool → Option Range → Range → Narrowed
part_of file token four None part = refused (select_broken file token)
part_of file token four (Some r) part =
    if is_part r part then narrowed (selecteds.Bits (size part) four) else refused (select_broken file token)

-- `[l:r]` is a part of an element alone
abbrev pub range_of : ℕ → ℕ → Selected → Range → Narrowed
range_of file token (selecteds.Cells shape taken) part =
    if is_array shape taken
    then refused (select_broken file token)
    else part_of file token (is_four_state (leaf_of shape)) (bit_range (leaf_of shape)) part
range_of file token other part = refused (select_broken file token)

-- bounds without values are refused themselves, and then nothing else looks
abbrev pub range_by : ℕ → ℕ → Option Selected → Option Range → Narrowed
range_by file token None part = unseen
range_by file token (Some s) None = unseen
range_by file token (Some s) (Some part) = range_of file token s part

-- a part with bounds
abbrev pub ranged : ℕ → ℕ → Option Selected → Bound → Bound → Narrowed
ranged file token s left right =
    record { found = bounds_violations file left right ++ (range_by file token s (range_between left right)).found; value = (range_by file token s (range_between left right)).value }

-- a known number of bits, from 1 up to the most of an element
abbrev pub size_by : Option ℤ → Option ℕ
size_by None = None
size_by (Some (pos n)) = if nat_lt 0 n && nat_le n MOST_WIDTH then Some n else None
size_by (Some (negsuc n)) = None

-- the size that a part is given
abbrev pub part_size : List ℕ → Option ℕ
part_size bytes = size_by (known_value bytes)

-- so many bits of an element
abbrev pub stretch_of : ℕ → ℕ → Bool → Option Range → Option ℕ → Narrowed
stretch_of file token four None width = refused (select_broken file token)
stretch_of file token four (Some r) None = refused (select_broken file token)
stretch_of file token four (Some r) (Some width) = narrowed (selecteds.Bits width four)

-- `[e +: n]` and `[e -: n]` are parts of an element alone
abbrev pub slice_of : ℕ → ℕ → Selected → Option ℕ → Narrowed
slice_of file token (selecteds.Cells shape taken) width =
    if is_array shape taken
    then refused (select_broken file token)
    else stretch_of file token (is_four_state (leaf_of shape)) (bit_range (leaf_of shape)) width
slice_of file token other width = refused (select_broken file token)

-- the index is packed
abbrev pub slice_by : ℕ → ℕ → Selected → ExprType → Option ℕ → Narrowed
slice_by file token s index width = if is_packed index then slice_of file token s width else refused (kind_broken file token)

-- a part from an index on, of this size
abbrev pub sliced : ℕ → ℕ → Option Selected → Option Operand → Option ℕ → Narrowed
sliced file token None index width = unseen
sliced file token (Some s) None width = unseen
sliced file token (Some s) (Some index) width = slice_by file token s index.of width

-- the expression that a name with its selects is
abbrev pub read : Option Selected → Option Operand
read None = None
read (Some s) = Some (operand (selected_type s) None)

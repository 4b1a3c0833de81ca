-- Which C types a formal and a result may have.
use Rattle.std.specs.Prelude.{Bool, true, false, not, ◌==◌, ◌&&◌, if◌then◌else◌, Option, Some, None}
use denote.Enum.Bare.{sameb}
use Rattle.dpi_shape.specs.declared.leaf.Leaf.{Leaf}
use Rattle.dpi_shape.specs.declared.leaf.Leaf.TheVariants.{Byte}
use Rattle.dpi_shape.specs.Shape.{leaf_of}
use Rattle.c_base.specs.contracts.base.CBase.{the_type}
use Rattle.c_base.specs.declared.base.CBase.{CBase}
use Rattle.c_base.specs.declared.base.CBase.TheVariants as c
use Rattle.c_base.specs.declared.ctype.CType.{CType}
use Rattle.c_base.specs.Types.{plain}
use Rattle.sv_tree.specs.declared.kinds.Direction.{Direction}
use Rattle.sv_tree.specs.declared.kinds.Direction.TheVariants.{Input, Output, Inout}
use Rattle.sv_shapes.specs.declared.kinds.VarKind.{VarKind}
use Rattle.sv_shapes.specs.declared.kinds.VarKind.TheVariants.{Cells, Text, Chandle}
use Rattle.sv_shapes.specs.declared.imports.FormalKind.{FormalKind}
use Rattle.sv_shapes.specs.declared.imports.FormalKind.TheVariants.{Sized, Open}
use Rattle.sv_signatures.specs.declared.results.Returns.{Returns}
use Rattle.sv_signatures.specs.declared.results.Returns.TheVariants.{Void, Value}
use Rattle.dpi_boundary.specs.Table.{input_type, output_type, result_type}

-- both or neither
abbrev pub agree : Bool → Bool → Bool
agree true b = b
agree false b = not b

abbrev pub same_base : CBase → CBase → Bool
same_base a b = sameb the_type a b

-- the same type, each const aside
abbrev pub same_but_const : CType → CType → Bool
same_but_const a b = a.stars == b.stars && same_base a.base b.base

-- the same type
abbrev pub same_type : CType → CType → Bool
same_type a b = same_but_const a b && (agree a.base_const b.base_const && agree a.inner_const b.inner_const)

-- each element is a signed byte
abbrev pub is_byte_leaf : Leaf → Bool
is_byte_leaf (Byte signed) = signed
is_byte_leaf other = false

abbrev pub is_byte : VarKind → Bool
is_byte (Cells s) = is_byte_leaf (leaf_of s)
is_byte Text = false
is_byte Chandle = false

-- the type as it counts for this kind: unsigned char stands for the char of a byte
abbrev pub counted : VarKind → CType → CType
counted kind of =
    if is_byte kind && same_base of.base c.UnsignedChar
    then record { base = c.Char; base_const = of.base_const; stars = of.stars; inner_const = of.inner_const }
    else of

-- svOpenArrayHandle, const or not
abbrev pub is_handle : CType → Bool
is_handle of = of.stars == 0 && same_base of.base c.Handle

-- a formal has the type of the table; on an input const is free
abbrev pub fits_variable : Direction → VarKind → CType → Bool
fits_variable Input kind of = same_but_const (counted kind of) (input_type kind)
fits_variable Output kind of = same_type (counted kind of) (output_type kind)
fits_variable Inout kind of = same_type (counted kind of) (output_type kind)

-- a formal of an import: an open array is a handle in each direction
abbrev pub fits_formal : Direction → FormalKind → CType → Bool
fits_formal direction (Sized kind) of = fits_variable direction kind of
fits_formal direction (Open leaf dims) of = is_handle of

-- the type as it counts is this one, if there is one
abbrev pub fits_wanted : Option CType → CType → Bool
fits_wanted None of = true
fits_wanted (Some wanted) of = same_type of wanted

-- a value as a result; one that isn't small has no type in the table
abbrev pub fits_value : VarKind → CType → Bool
fits_value kind of = fits_wanted (result_type kind) (counted kind of)

-- a refused kind fits
abbrev pub fits_known_value : Option VarKind → CType → Bool
fits_known_value None of = true
fits_known_value (Some kind) of = fits_value kind of

-- what a function gives
abbrev pub fits_returns : Returns → CType → Bool
fits_returns Void of = same_type of (plain c.Void)
fits_returns (Value kind) of = fits_known_value kind of

-- the result of a task is int
abbrev pub fits_result : Returns → Bool → CType → Bool
fits_result returns task of = if task then same_type of (plain c.Int) else fits_returns returns of

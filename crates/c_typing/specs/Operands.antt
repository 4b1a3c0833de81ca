-- What an expression without a violation is to the rules on types.
use Rattle.std.specs.Prelude.{ℕ, ℤ, pos, Bool, true, false, not, if◌then◌else◌, List}
use Rattle.std.specs.Ordering.{int_eq}
use Rattle.c_base.specs.declared.base.CBase.{CBase}
use Rattle.c_base.specs.declared.base.CBase.TheVariants as bases
use Rattle.c_base.specs.declared.ctype.CType.{CType}
use Rattle.c_base.specs.Types.{plain}
use Rattle.dpi_literal.specs.declared.number_type.NumberType.{NumberType}
use Rattle.dpi_literal.specs.declared.number_type.NumberType.TheVariants as numbers
use Rattle.dpi_literal.specs.Constants.{number_of}
use Rattle.c_typing.specs.declared.operand.Operand.{Operand}
use Rattle.c_typing.specs.declared.operand.Form.{Form}
use Rattle.c_typing.specs.declared.operand.Form.TheVariants as forms
use Rattle.c_typing.specs.Pointers.{pointed, points_to_const, pointer_to}

abbrev pub value : CType → Operand
value of = record { of = of; form = forms.Value }

abbrev pub plain_value : CBase → Operand
plain_value base = value (plain base)

-- an object, which may be stored into unless it is const
abbrev pub object : CType → Bool → Operand
object of constant = record { of = of; form = forms.Object (not constant) }

-- the object that a pointer points to
abbrev pub target : CType → Operand
target of = object (pointed of) (points_to_const of)

-- an array, by the type of its cells and whether they are const: the pointer to its first cell
abbrev pub array : CType → Bool → Operand
array of constant = record { of = pointer_to of constant; form = forms.Array }

abbrev pub is_null_form : Form → Bool
is_null_form forms.Zero = true
is_null_form forms.Null = true
is_null_form other = false

-- a number of value 0, or NULL
abbrev pub is_null : Operand → Bool
is_null a = is_null_form a.form

abbrev pub is_object_form : Form → Bool
is_object_form (forms.Object writable) = true
is_object_form (forms.Member writable) = true
is_object_form other = false

-- an object, or a member of one
abbrev pub is_object : Operand → Bool
is_object a = is_object_form a.form

abbrev pub is_member_form : Form → Bool
is_member_form (forms.Member writable) = true
is_member_form other = false

-- a member of an object
abbrev pub is_member : Operand → Bool
is_member a = is_member_form a.form

abbrev pub is_writable_form : Form → Bool
is_writable_form (forms.Object writable) = writable
is_writable_form (forms.Member writable) = writable
is_writable_form other = false

-- an object that may be stored into
abbrev pub is_writable : Operand → Bool
is_writable a = is_writable_form a.form

-- ---- constants (ISO C 6.4.4, 6.4.5)

-- the base that a number's type is
abbrev pub base_of_number : NumberType → CBase
base_of_number numbers.Int = bases.Int
base_of_number numbers.UnsignedInt = bases.UnsignedInt
base_of_number numbers.LongLong = bases.LongLong
base_of_number numbers.UnsignedLongLong = bases.UnsignedLongLong

-- a number token of value 0 stands for null too
abbrev pub form_of_number : ℤ → Form
form_of_number n = if int_eq n (pos 0) then forms.Zero else forms.Value

-- a number
abbrev pub number : List ℕ → Operand
number bytes =
    record { of = plain (base_of_number (number_of bytes).of); form = form_of_number (number_of bytes).value }

-- a define, or one of the constants of svdpi.h: a number of the type that never stands for null
abbrev pub constant : NumberType → Operand
constant of = plain_value (base_of_number of)

-- a character is an `int`
abbrev pub character : Operand
character = plain_value bases.Int

-- a string is a pointer to its first `char`
abbrev pub text : Operand
text = value (pointer_to (plain bases.Char) false)

-- `NULL`, a `void *`
abbrev pub null : Operand
null = record { of = pointer_to (plain bases.Void) false; form = forms.Null }

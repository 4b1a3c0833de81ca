-- What a type of C is without its stars.
use Rattle.std.specs.Prelude.{ℕ, Bool, true, false, not, ◌==◌, ◌||◌, ◌&&◌, nat_lt}
use Rattle.std.specs.Prelude.{if◌then◌else◌}
use Rattle.c_base.specs.declared.base.CBase.{CBase}
use Rattle.c_base.specs.declared.base.CBase.TheVariants.{Void, Char, UnsignedChar, Short}
use Rattle.c_base.specs.declared.base.CBase.TheVariants.{UnsignedShort, Int, UnsignedInt}
use Rattle.c_base.specs.declared.base.CBase.TheVariants.{LongLong, UnsignedLongLong}
use Rattle.c_base.specs.declared.base.CBase.TheVariants.{LogicVec, Handle, Scope}

-- the bits of a whole type; 0 for the others
abbrev pub width : CBase → ℕ
width Char = 8
width UnsignedChar = 8
width Short = 16
width UnsignedShort = 16
width Int = 32
width UnsignedInt = 32
width LongLong = 64
width UnsignedLongLong = 64
width other = 0

-- the base is a signed whole type
abbrev pub is_signed : CBase → Bool
is_signed Char = true
is_signed Short = true
is_signed Int = true
is_signed LongLong = true
is_signed other = false

-- the values are whole numbers
abbrev pub is_whole : CBase → Bool
is_whole of = not (width of == 0)

-- `int` where a whole type has fewer bits, else the base itself
abbrev pub promoted : CBase → CBase
promoted of = if is_whole of && nat_lt (width of) (width Int) then Int else of

-- of two whole types the wider one, and of two as wide the unsigned one
abbrev pub wider : CBase → CBase → CBase
wider a b =
    if nat_lt (width a) (width b) || (width a == width b && is_signed a) then b else a

-- the usual arithmetic conversions: the wider of the promoted types
abbrev pub common : CBase → CBase → CBase
common a b = wider (promoted a) (promoted b)

-- The types that declarations and casts write (ISO C 6.7.2, 6.7.3, 6.7.6.1).
use Rattle.std.specs.Prelude.{ℕ, nat_le, ℤ, pos, Bool, true, false, not, ◌&&◌, ◌||◌, if◌then◌else◌, int_le, unsigned_abs}
use Rattle.std.specs.Prelude.{Option, Some, None, List, [], ◌∷◌, length}
use Rattle.c_base.specs.declared.base.CBase.{CBase}
use Rattle.c_base.specs.declared.base.CBase.TheVariants as bases
use Rattle.c_base.specs.declared.ctype.CType.{CType}
use Rattle.c_tree.specs.declared.types.BaseWord.{BaseWord}
use Rattle.c_tree.specs.declared.types.BaseWord.TheVariants as words
use Rattle.c_tree.specs.declared.types.CType.{CType as TypeTree}
use Rattle.c_tree.specs.declared.types.Star.{Star}
use Rattle.c_typing.specs.declared.written.Declared.{Declared}
use Rattle.c_typing.specs.Judged.{unless}
use Rattle.c_typing.specs.Pointers.{is_base, pointer_to}

-- a word's own type; a sign alone, and nothing behind a sign, is an `int`
abbrev pub word_base : BaseWord → CBase
word_base words.Void = bases.Void
word_base words.Char = bases.Char
word_base words.Short = bases.Short
word_base words.Int = bases.Int
word_base words.Long = bases.LongLong
word_base words.Signed = bases.Int
word_base words.Unsigned = bases.UnsignedInt
word_base words.SvBit = bases.UnsignedChar
word_base words.SvLogic = bases.UnsignedChar
word_base words.SvBitVecVal = bases.UnsignedInt
word_base words.SvLogicVecVal = bases.LogicVec
word_base words.SvOpenArrayHandle = bases.Handle
word_base words.SvScope = bases.Scope
word_base words.Int8 = bases.Char
word_base words.Uint8 = bases.UnsignedChar
word_base words.Int16 = bases.Short
word_base words.Uint16 = bases.UnsignedShort
word_base words.Int32 = bases.Int
word_base words.Uint32 = bases.UnsignedInt
word_base words.Int64 = bases.LongLong
word_base words.Uint64 = bases.UnsignedLongLong

-- the unsigned type that is as wide
abbrev pub unsigned : CBase → CBase
unsigned bases.Char = bases.UnsignedChar
unsigned bases.Short = bases.UnsignedShort
unsigned bases.Int = bases.UnsignedInt
unsigned bases.LongLong = bases.UnsignedLongLong
unsigned other = other

-- words without a sign: the first of them tells the type
abbrev pub sized : List BaseWord → CBase
sized [] = bases.Int
sized (w ∷ ws) = word_base w

-- a base by its words
abbrev pub base_of : List BaseWord → CBase
base_of (words.Unsigned ∷ ws) = unsigned (sized ws)
base_of (words.Signed ∷ ws) = sized ws
base_of ws = sized ws

abbrev pub is_some_of : {A : Type 0} → List A → Bool
is_some_of [] = false
is_some_of (x ∷ xs) = true

-- the base of a type is const, by a word before it or behind it
abbrev pub is_const_base : TypeTree → Bool
is_const_base t = is_some_of t.before || is_some_of t.behind

-- what the star makes is const
abbrev pub is_const_star : Star → Bool
is_const_star s = is_some_of s.constants

-- a base with at most two stars, and whether what it declares is const itself; none with more stars
abbrev pub declared_by : CBase → Bool → List Star → Option Declared
declared_by base const [] = Some (record { of = record { base = base; base_const = const; stars = 0; inner_const = false }; constant = const })
declared_by base const (s ∷ []) =
    Some (record { of = record { base = base; base_const = const; stars = 1; inner_const = false }; constant = is_const_star s })
declared_by base const (s ∷ t ∷ []) =
    Some (record { of = record { base = base; base_const = const; stars = 2; inner_const = is_const_star s }; constant = is_const_star t })
declared_by base const (s ∷ t ∷ u ∷ more) = None

-- what a type with stars declares
abbrev pub declared_of : TypeTree → List Star → Option Declared
declared_of t stars = declared_by (base_of t.base) (is_const_base t) stars

-- rule 22: more than two stars, or an array whose cells have two
abbrev pub star_rule : List Star → Bool → Option ℕ
star_rule stars is_array = unless (nat_le (length stars) (if is_array then 1 else 2)) 22

-- an array's parameter is a pointer to its cells; there is none where the cells have two stars
abbrev pub adjusted : Bool → Declared → Option Declared
adjusted false d = Some d
adjusted true d = if nat_le d.of.stars 1 then Some (record { of = pointer_to d.of d.constant; constant = false }) else None

-- rule 5: an object, or the cells of one, of type void
abbrev pub void_rule : CType → Option ℕ
void_rule of = unless (not (is_base bases.Void of)) 5

-- rule 4: a size of an array is from 1 to 65,536
abbrev pub size_rule : ℤ → Option ℕ
size_rule n = unless (int_le (pos 1) n && int_le n (pos 65536)) 4

-- the cells of an array of that size, where the size is one
abbrev pub cells_of : ℤ → Option ℕ
cells_of n = if int_le (pos 1) n && int_le n (pos 65536) then Some (unsigned_abs n) else None

-- The words of a base, and in which order they stand.
use Rattle.std.specs.Prelude.{Bool, true, false, List, [], ◌∷◌, Option, Some, None}
use Rattle.c_tree.specs.declared.class.Class.{Class}
use Rattle.c_tree.specs.declared.class.Class.TheVariants as classes
use Rattle.c_tree.specs.declared.types.BaseWord.{BaseWord}
use Rattle.c_tree.specs.declared.types.BaseWord.TheVariants as words
use Rattle.c_tree.specs.declared.types.BaseRest.{BaseRest}
use Rattle.c_tree.specs.declared.types.BaseRest.TheVariants as rests

-- the class of its token
abbrev pub base_class : BaseWord → Class
base_class words.Void = classes.Void
base_class words.Char = classes.Char
base_class words.Short = classes.Short
base_class words.Int = classes.Int
base_class words.Long = classes.Long
base_class words.Signed = classes.Signed
base_class words.Unsigned = classes.Unsigned
base_class words.SvBit = classes.SvBit
base_class words.SvLogic = classes.SvLogic
base_class words.SvBitVecVal = classes.SvBitVecVal
base_class words.SvLogicVecVal = classes.SvLogicVecVal
base_class words.SvOpenArrayHandle = classes.SvOpenArrayHandle
base_class words.SvScope = classes.SvScope
base_class words.Int8 = classes.Int8
base_class words.Uint8 = classes.Uint8
base_class words.Int16 = classes.Int16
base_class words.Uint16 = classes.Uint16
base_class words.Int32 = classes.Int32
base_class words.Uint32 = classes.Uint32
base_class words.Int64 = classes.Int64
base_class words.Uint64 = classes.Uint64

-- what a token of a class stands for
abbrev pub base_word_of : Option Class → Option BaseWord
base_word_of (Some classes.Void) = Some words.Void
base_word_of (Some classes.Char) = Some words.Char
base_word_of (Some classes.Short) = Some words.Short
base_word_of (Some classes.Int) = Some words.Int
base_word_of (Some classes.Long) = Some words.Long
base_word_of (Some classes.Signed) = Some words.Signed
base_word_of (Some classes.Unsigned) = Some words.Unsigned
base_word_of (Some classes.SvBit) = Some words.SvBit
base_word_of (Some classes.SvLogic) = Some words.SvLogic
base_word_of (Some classes.SvBitVecVal) = Some words.SvBitVecVal
base_word_of (Some classes.SvLogicVecVal) = Some words.SvLogicVecVal
base_word_of (Some classes.SvOpenArrayHandle) = Some words.SvOpenArrayHandle
base_word_of (Some classes.SvScope) = Some words.SvScope
base_word_of (Some classes.Int8) = Some words.Int8
base_word_of (Some classes.Uint8) = Some words.Uint8
base_word_of (Some classes.Int16) = Some words.Int16
base_word_of (Some classes.Uint16) = Some words.Uint16
base_word_of (Some classes.Int32) = Some words.Int32
base_word_of (Some classes.Uint32) = Some words.Uint32
base_word_of (Some classes.Int64) = Some words.Int64
base_word_of (Some classes.Uint64) = Some words.Uint64
base_word_of _ = None

-- ---- `signed` or `unsigned` at most once and first, `int` at most once and last, `long` twice

-- behind the first word
abbrev pub behind_first : BaseWord → BaseRest
behind_first words.Signed = rests.BehindSign
behind_first words.Unsigned = rests.BehindSign
behind_first words.Short = rests.BehindSize
behind_first words.Long = rests.BehindLong
behind_first _ = rests.Complete

-- behind a sign, and a word
abbrev pub behind_signed : BaseWord → Option BaseRest
behind_signed words.Char = Some rests.Complete
behind_signed words.Int = Some rests.Complete
behind_signed words.Short = Some rests.BehindSize
behind_signed words.Long = Some rests.BehindLong
behind_signed _ = None

-- behind one `long`, and a word
abbrev pub behind_one_long : BaseWord → Option BaseRest
behind_one_long words.Long = Some rests.BehindSize
behind_one_long _ = None

-- behind `short` or `long` `long`, and a word
abbrev pub behind_sized : BaseWord → Option BaseRest
behind_sized words.Int = Some rests.Complete
behind_sized _ = None

-- what a base goes on with behind this word, where the word may come next
abbrev pub rest_behind : BaseRest → BaseWord → Option BaseRest
rest_behind rests.Whole w = Some (behind_first w)
rest_behind rests.BehindSign w = behind_signed w
rest_behind rests.BehindLong w = behind_one_long w
rest_behind rests.BehindSize w = behind_sized w
rest_behind rests.Complete w = None

-- the base may end here
abbrev pub may_end : BaseRest → Bool
may_end rests.Whole = false
may_end rests.BehindSign = true
may_end rests.BehindLong = false
may_end rests.BehindSize = true
may_end rests.Complete = true

-- these words are the rest of a base, where one is begun
abbrev pub is_rest : Option BaseRest → List BaseWord → Bool
is_rest None ws = false
is_rest (Some r) [] = may_end r
is_rest (Some r) (w ∷ ws) = is_rest (rest_behind r w) ws

-- these words are a base
abbrev pub is_base : List BaseWord → Bool
is_base ws = is_rest (Some rests.Whole) ws

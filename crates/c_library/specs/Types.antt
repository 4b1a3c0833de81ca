-- The types of the calls of svdpi.h, and how many arguments they take (1800 Annex I).
use Rattle.std.specs.Prelude.{ℕ, ◌+◌, nat_le, nat_lt, Bool, true, false, ◌&&◌, if◌then◌else◌, Option, None, List, [], ◌∷◌, slice_get}
use Rattle.dpi_rules.specs.declared.violation.Violation.{Violation}
use Rattle.dpi_rules.specs.Order.{violation}
use Rattle.c_base.specs.declared.base.CBase.{CBase}
use Rattle.c_base.specs.declared.base.CBase.TheVariants as bases
use Rattle.c_base.specs.declared.ctype.CType.{CType}
use Rattle.c_base.specs.Types.{plain}
use Rattle.c_library.specs.declared.call.States.{States}
use Rattle.c_library.specs.declared.call.States.TheVariants as states
use Rattle.c_library.specs.declared.call.Indices.{Indices}
use Rattle.c_library.specs.declared.call.Indices.TheVariants as indices
use Rattle.c_library.specs.declared.call.Call.{Call}
use Rattle.c_library.specs.declared.call.Call.TheVariants as calls

-- ---- types

-- a pointer to a base, to const or not
abbrev pub pointer : CBase → Bool → CType
pointer base const = record { base = base; base_const = const; stars = 1; inner_const = false }

abbrev pub handle : CType
handle = plain bases.Handle

abbrev pub scope : CType
scope = plain bases.Scope

abbrev pub int : CType
int = plain bases.Int

abbrev pub void : CType
void = plain bases.Void

-- a name is a text
abbrev pub text : CType
text = pointer bases.Char true

-- a pointer of the user
abbrev pub user : CType
user = pointer bases.Void false

-- `svBit` and `svLogic`
abbrev pub scalar : CType
scalar = plain bases.UnsignedChar

-- `svBitVecVal` and `svLogicVecVal`
abbrev pub word_base : States → CBase
word_base states.Two = bases.UnsignedInt
word_base states.Four = bases.LogicVec

-- a pointer to words that are stored into
abbrev pub words : States → CType
words s = pointer (word_base s) false

-- a pointer to words that are read
abbrev pub const_words : States → CType
const_words s = pointer (word_base s) true

-- `const char **`
abbrev pub text_pointer : CType
text_pointer = record { base = bases.Char; base_const = true; stars = 2; inner_const = false }

-- ---- calls

-- the type of a call's result
abbrev pub result_of : Call → CType
result_of (calls.Query q) = int
result_of calls.Dimensions = int
result_of calls.ArrayPointer = user
result_of calls.SizeOfArray = int
result_of (calls.ElementPointer i) = user
result_of (calls.GetElement s i) = scalar
result_of (calls.PutElement s i) = void
result_of (calls.GetWords s i) = void
result_of (calls.PutWords s i) = void
result_of (calls.GetBit s) = scalar
result_of (calls.PutBit s) = void
result_of (calls.GetPart s) = void
result_of (calls.PutPart s) = void
result_of calls.GetScope = scope
result_of calls.SetScope = scope
result_of calls.NameFromScope = text
result_of calls.ScopeFromName = scope
result_of calls.PutUserData = int
result_of calls.GetUserData = user
result_of calls.CallerInfo = int
result_of calls.IsDisabledState = int
result_of calls.AckDisabledState = void

-- the types of a call's parameters, with three indices where it takes any
abbrev pub types : Call → List CType
types (calls.Query q) = handle ∷ int ∷ []
types calls.Dimensions = handle ∷ []
types calls.ArrayPointer = handle ∷ []
types calls.SizeOfArray = handle ∷ []
types (calls.ElementPointer i) = handle ∷ int ∷ int ∷ int ∷ []
types (calls.GetElement s i) = handle ∷ int ∷ int ∷ int ∷ []
types (calls.PutElement s i) = handle ∷ scalar ∷ int ∷ int ∷ int ∷ []
types (calls.GetWords s i) = words s ∷ handle ∷ int ∷ int ∷ int ∷ []
types (calls.PutWords s i) = handle ∷ const_words s ∷ int ∷ int ∷ int ∷ []
types (calls.GetBit s) = const_words s ∷ int ∷ []
types (calls.PutBit s) = words s ∷ int ∷ scalar ∷ []
types (calls.GetPart s) = words s ∷ const_words s ∷ int ∷ int ∷ []
types (calls.PutPart s) = words s ∷ plain (word_base s) ∷ int ∷ int ∷ []
types calls.GetScope = []
types calls.SetScope = scope ∷ []
types calls.NameFromScope = scope ∷ []
types calls.ScopeFromName = text ∷ []
types calls.PutUserData = scope ∷ user ∷ user ∷ []
types calls.GetUserData = scope ∷ user ∷ []
types calls.CallerInfo = text_pointer ∷ pointer bases.Int false ∷ []
types calls.IsDisabledState = []
types calls.AckDisabledState = []

-- the least number of indices
abbrev pub least_indices : Indices → ℕ
least_indices indices.Open = 1
least_indices indices.One = 1
least_indices indices.Two = 2
least_indices indices.Three = 3

-- the greatest number of indices
abbrev pub most_indices : Indices → ℕ
most_indices indices.Open = 3
most_indices indices.One = 1
most_indices indices.Two = 2
most_indices indices.Three = 3

-- how many arguments a call without indices takes; the last line is those with indices, and those that take none
abbrev pub fixed : Call → ℕ
fixed (calls.Query q) = 2
fixed calls.Dimensions = 1
fixed calls.ArrayPointer = 1
fixed calls.SizeOfArray = 1
fixed (calls.GetBit s) = 2
fixed (calls.PutBit s) = 3
fixed (calls.GetPart s) = 4
fixed (calls.PutPart s) = 4
fixed calls.SetScope = 1
fixed calls.NameFromScope = 1
fixed calls.ScopeFromName = 1
fixed calls.PutUserData = 3
fixed calls.GetUserData = 2
fixed calls.CallerInfo = 2
fixed other = 0

-- how many arguments a call takes, by the number of its indices
abbrev pub arguments : (Indices → ℕ) → Call → ℕ
arguments n (calls.ElementPointer i) = n i + 1
arguments n (calls.GetElement s i) = n i + 1
arguments n (calls.PutElement s i) = n i + 2
arguments n (calls.GetWords s i) = n i + 2
arguments n (calls.PutWords s i) = n i + 2
arguments n other = fixed other

-- the fewest arguments of a call, and the most
abbrev pub least : Call → ℕ
least c = arguments least_indices c

abbrev pub most : Call → ℕ
most c = arguments most_indices c

-- the type of a parameter, counted from 0
abbrev pub parameter : Call → ℕ → Option CType
parameter c n = if nat_lt n (most c) then slice_get (types c) n else None

-- rule 8 at the called name: a number of arguments that the call doesn't take
abbrev pub count_violations : ℕ → ℕ → Call → ℕ → List Violation
count_violations file token c count =
    if nat_le (least c) count && nat_le count (most c) then [] else violation file token 8 ∷ []

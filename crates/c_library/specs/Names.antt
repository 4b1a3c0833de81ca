-- The names of the calls of svdpi.h (1800 Annex I).
use Rattle.std.specs.Prelude.{ℕ, List, Option, find, codes, bytes_eq}
use Rattle.c_library.specs.declared.call.Query.{Query}
use Rattle.c_library.specs.declared.call.Query.TheVariants as queries
use Rattle.c_library.specs.declared.call.States.{States}
use Rattle.c_library.specs.declared.call.States.TheVariants as states
use Rattle.c_library.specs.declared.call.Indices.{Indices}
use Rattle.c_library.specs.declared.call.Indices.TheVariants as indices
use Rattle.c_library.specs.declared.call.Call.{Call}
use Rattle.c_library.specs.declared.call.Call.TheVariants as calls
use Rattle.c_library.specs.declared.call.TheConstants.{CALLS}

abbrev pub query_name : Query → List ℕ
query_name queries.Left = codes "svLeft"
query_name queries.Right = codes "svRight"
query_name queries.Low = codes "svLow"
query_name queries.High = codes "svHigh"
query_name queries.Size = codes "svSize"
query_name queries.Increment = codes "svIncrement"

abbrev pub pointer_name : Indices → List ℕ
pointer_name indices.Open = codes "svGetArrElemPtr"
pointer_name indices.One = codes "svGetArrElemPtr1"
pointer_name indices.Two = codes "svGetArrElemPtr2"
pointer_name indices.Three = codes "svGetArrElemPtr3"

abbrev pub get_name : States → Indices → List ℕ
get_name states.Two indices.Open = codes "svGetBitArrElem"
get_name states.Two indices.One = codes "svGetBitArrElem1"
get_name states.Two indices.Two = codes "svGetBitArrElem2"
get_name states.Two indices.Three = codes "svGetBitArrElem3"
get_name states.Four indices.Open = codes "svGetLogicArrElem"
get_name states.Four indices.One = codes "svGetLogicArrElem1"
get_name states.Four indices.Two = codes "svGetLogicArrElem2"
get_name states.Four indices.Three = codes "svGetLogicArrElem3"

abbrev pub put_name : States → Indices → List ℕ
put_name states.Two indices.Open = codes "svPutBitArrElem"
put_name states.Two indices.One = codes "svPutBitArrElem1"
put_name states.Two indices.Two = codes "svPutBitArrElem2"
put_name states.Two indices.Three = codes "svPutBitArrElem3"
put_name states.Four indices.Open = codes "svPutLogicArrElem"
put_name states.Four indices.One = codes "svPutLogicArrElem1"
put_name states.Four indices.Two = codes "svPutLogicArrElem2"
put_name states.Four indices.Three = codes "svPutLogicArrElem3"

abbrev pub get_words_name : States → Indices → List ℕ
get_words_name states.Two indices.Open = codes "svGetBitArrElemVecVal"
get_words_name states.Two indices.One = codes "svGetBitArrElem1VecVal"
get_words_name states.Two indices.Two = codes "svGetBitArrElem2VecVal"
get_words_name states.Two indices.Three = codes "svGetBitArrElem3VecVal"
get_words_name states.Four indices.Open = codes "svGetLogicArrElemVecVal"
get_words_name states.Four indices.One = codes "svGetLogicArrElem1VecVal"
get_words_name states.Four indices.Two = codes "svGetLogicArrElem2VecVal"
get_words_name states.Four indices.Three = codes "svGetLogicArrElem3VecVal"

abbrev pub put_words_name : States → Indices → List ℕ
put_words_name states.Two indices.Open = codes "svPutBitArrElemVecVal"
put_words_name states.Two indices.One = codes "svPutBitArrElem1VecVal"
put_words_name states.Two indices.Two = codes "svPutBitArrElem2VecVal"
put_words_name states.Two indices.Three = codes "svPutBitArrElem3VecVal"
put_words_name states.Four indices.Open = codes "svPutLogicArrElemVecVal"
put_words_name states.Four indices.One = codes "svPutLogicArrElem1VecVal"
put_words_name states.Four indices.Two = codes "svPutLogicArrElem2VecVal"
put_words_name states.Four indices.Three = codes "svPutLogicArrElem3VecVal"

-- the first of two names for two states, the second for four
abbrev pub by_states : States → List ℕ → List ℕ → List ℕ
by_states states.Two two four = two
by_states states.Four two four = four

-- the name of a call
abbrev pub name : Call → List ℕ
name (calls.Query q) = query_name q
name calls.Dimensions = codes "svDimensions"
name calls.ArrayPointer = codes "svGetArrayPtr"
name calls.SizeOfArray = codes "svSizeOfArray"
name (calls.ElementPointer i) = pointer_name i
name (calls.GetElement s i) = get_name s i
name (calls.PutElement s i) = put_name s i
name (calls.GetWords s i) = get_words_name s i
name (calls.PutWords s i) = put_words_name s i
name (calls.GetBit s) = by_states s (codes "svGetBitselBit") (codes "svGetBitselLogic")
name (calls.PutBit s) = by_states s (codes "svPutBitselBit") (codes "svPutBitselLogic")
name (calls.GetPart s) = by_states s (codes "svGetPartselBit") (codes "svGetPartselLogic")
name (calls.PutPart s) = by_states s (codes "svPutPartselBit") (codes "svPutPartselLogic")
name calls.GetScope = codes "svGetScope"
name calls.SetScope = codes "svSetScope"
name calls.NameFromScope = codes "svGetNameFromScope"
name calls.ScopeFromName = codes "svGetScopeFromName"
name calls.PutUserData = codes "svPutUserData"
name calls.GetUserData = codes "svGetUserData"
name calls.CallerInfo = codes "svGetCallerInfo"
name calls.IsDisabledState = codes "svIsDisabledState"
name calls.AckDisabledState = codes "svAckDisabledState"

-- the call of this name, where there is one
abbrev pub call_named : List ℕ → Option Call
call_named bytes = find (λ c. bytes_eq (name c) bytes) CALLS

-- Calls: where they stand, what is called and what the call breaks (ISO C 6.5.2.2).
use Rattle.std.specs.Prelude.{ℕ, ◌==◌, Bool, true, false, Option, Some, None, option_map, option_and_then, List, [], ◌∷◌, length, slice_get}
use Rattle.dpi_rules.specs.declared.violation.Violation.{Violation}
use Rattle.c_base.specs.declared.base.CBase.TheVariants.{Int}
use Rattle.c_base.specs.declared.ctype.CType.{CType}
use Rattle.c_typing.specs.declared.place.Place.{Place}
use Rattle.c_typing.specs.declared.operand.Operand.{Operand}
use Rattle.c_typing.specs.Judged.{unless, rule_at}
use Rattle.c_typing.specs.Operands.{value, plain_value}
use Rattle.c_typing.specs.Pointers.{bare}
use Rattle.c_library.specs.Types as library
use Rattle.c_printf.specs.Strings.{fits, printf_violations}
use Rattle.c_names.specs.declared.uses.Callee.{Callee}
use Rattle.c_names.specs.declared.uses.Callee.TheVariants as callees
use Rattle.c_names.specs.Names.{Names}
use Rattle.c_names.specs.Scopes.{find, scopes_of}
use Rattle.c_functions.specs.declared.types.FunctionType.{FunctionType}
use Rattle.c_judge.specs.declared.around.Around.{Around}
use Rattle.c_judge.specs.Words.{Word, text_in, is_one_number}

-- where an expression stands: its file, what names mean, and the types of the functions
pub record Env : Type 0 where
  pub file : ℕ
  pub names : Names
  pub functions : List FunctionType

-- what the code's place means
abbrev pub env_of : Around → Env
env_of a = record { file = a.file; names = find (scopes_of a.scopes.now); functions = a.functions.now }

-- a token of the file
abbrev pub at : Env → ℕ → Place
at env token = record { file = env.file; token = token }

-- the type of a function, if its number is one
abbrev pub function : Env → ℕ → Option FunctionType
function env n = slice_get env.functions n

-- what is there twice over
abbrev pub within : {A : Type 0} → Option (Option A) → Option A
within None = None
within (Some o) = o

-- the type of a parameter, counted from 0. `printf` and the macro for words convert no argument
abbrev pub parameter : Env → Option Callee → ℕ → Option CType
parameter env None i = None
parameter env (Some (callees.Function n)) i =
    option_and_then (λ (f : FunctionType). within (slice_get f.params i)) (function env n)
parameter env (Some (callees.Library c)) i = library.parameter c i
parameter env (Some callees.Printf) i = None
parameter env (Some callees.WordCount) i = None

-- so many arguments are taken; nothing is known of a function without a type
abbrev pub takes : Option FunctionType → ℕ → Bool
takes None count = true
takes (Some f) count = length f.params == count

abbrev pub behind_first : {A : Type 0} → List A → List A
behind_first [] = []
behind_first (x ∷ xs) = xs

-- the first argument is a string token, and the values of those behind it fit it
abbrev pub prints : List Word → List (Option Operand) → Bool
prints [] values = false
prints (w ∷ ws) values = fits (text_in w) (behind_first values)

-- what is called doesn't take these arguments: rule 8 on their number, rule 17 for `printf`, rule 3 for the macro for words
abbrev pub callee_violations : Env → ℕ → Option Callee → List Word → List (Option Operand) → List Violation
callee_violations env token None words values = []
callee_violations env token (Some (callees.Function n)) words values =
    rule_at (at env token) (unless (takes (function env n) (length words)) 8)
callee_violations env token (Some (callees.Library c)) words values = library.count_violations env.file token c (length words)
callee_violations env token (Some callees.Printf) words values = printf_violations (at env token) (prints words values)
callee_violations env token (Some callees.WordCount) words values = rule_at (at env token) (unless (is_one_number words) 3)

-- the type of a function's result
abbrev pub result_type : Option FunctionType → Option CType
result_type None = None
result_type (Some f) = f.result

-- a value of the type
abbrev pub value_of : Option CType → Option Operand
value_of None = None
value_of (Some of) = Some (value (bare of))

-- the words of a vector are a number of the type of the one argument
abbrev pub words_value : List (Option Operand) → Option Operand
words_value [] = None
words_value (v ∷ []) = option_map (λ (a : Operand). value a.of) v
words_value (v ∷ w ∷ more) = None

-- the expression that a call is, where nothing in it is broken
abbrev pub call_value : Env → Option Callee → List (Option Operand) → Option Operand
call_value env None values = None
call_value env (Some (callees.Function n)) values =
    value_of (result_type (function env n))
call_value env (Some (callees.Library c)) values = value_of (Some (library.result_of c))
call_value env (Some callees.Printf) values = Some (plain_value Int)
call_value env (Some callees.WordCount) values = words_value values

-- the value, where nothing is broken
abbrev pub if_clean : List Violation → Option Operand → Option Operand
if_clean [] value = value
if_clean (v ∷ vs) value = None

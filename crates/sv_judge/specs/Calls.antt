-- Calls: where they stand, what is called and what its actuals violate.
use Rattle.std.specs.Prelude.{ℕ, ◌==◌, Bool, true, false, ◌&&◌, not, Option, Some, None, option_map, option_and_then, List, [], ◌∷◌, ◌++◌, length, slice_get}
use Rattle.dpi_rules.specs.declared.violation.Violation.{Violation}
use Rattle.dpi_rules.specs.Order.{violation}
use Rattle.sv_tree.specs.declared.kinds.Direction.{Direction}
use Rattle.sv_tree.specs.declared.kinds.Direction.TheVariants.{Input, Output, Inout}
use Rattle.sv_shapes.specs.declared.kinds.VarKind.{VarKind}
use Rattle.sv_shapes.specs.declared.imports.FormalKind.{FormalKind}
use Rattle.sv_shapes.specs.declared.imports.FormalKind.TheVariants.{Sized}
use Rattle.sv_signatures.specs.declared.formals.Formal.{Formal}
use Rattle.sv_signatures.specs.declared.imports.ImportFormal.{ImportFormal}
use Rattle.sv_signatures.specs.declared.results.Returns.{Returns}
use Rattle.sv_signatures.specs.declared.results.Returns.TheVariants.{Void, Value}
use Rattle.sv_signatures.specs.declared.signatures.Signature.{Signature}
use Rattle.sv_signatures.specs.declared.signatures.ImportSignature.{ImportSignature}
use Rattle.sv_names.specs.declared.uses.Callee.{Callee}
use Rattle.sv_names.specs.declared.uses.Callee.TheVariants.{Subroutine, Import}
use Rattle.sv_names.specs.Names.{Names}
use Rattle.sv_names.specs.Scopes.{find, find_called, scopes_of}
use Rattle.sv_typing.specs.declared.types.ExprType.{ExprType}
use Rattle.sv_typing.specs.declared.types.ExprType.TheVariants as types
use Rattle.sv_typing.specs.declared.types.Operand.{Operand}
use Rattle.sv_typing.specs.Types.{kind_type}
use Rattle.sv_typing.specs.Judged.{operand}
use Rattle.sv_contexts.specs.Actuals as actuals
use Rattle.sv_judge.specs.declared.calls.Passing.{Passing}
use Rattle.sv_judge.specs.declared.forms.Form.{Form}
use Rattle.sv_judge.specs.declared.forms.Whole.{Whole}
use Rattle.sv_judge.specs.declared.place.Place.{Place}
use Rattle.sv_judge.specs.Forms.{is_place, plain_leaf}

-- where an expression stands: what names mean where a value stands and in a call, and what the module has
pub record Env : Type 0 where
  pub file : ℕ
  pub values : Names
  pub calls : Names
  pub subroutines : List Signature
  pub imports : List ImportSignature
  pub in_function : Bool

-- what the code's place means
abbrev pub env_of : Place → Env
env_of p = record {
  file = p.file;
  values = find (scopes_of p.scopes.now);
  calls = find_called (scopes_of p.scopes.now);
  subroutines = p.subroutines.now;
  imports = p.imports.now;
  in_function = p.in_function;
}

-- what a formal of a subroutine takes, of which nothing is open
abbrev pub sized : Option VarKind → Option FormalKind
sized None = None
sized (Some kind) = Some (Sized kind)

abbrev pub formal_passing : Formal → Passing
formal_passing f = record { direction = f.direction; formal = sized f.kind }

abbrev pub import_passing : ImportFormal → Passing
import_passing f = record { direction = f.direction; formal = f.kind }

-- what the actual of this number is passed to, if there is a formal for it
abbrev pub passing_at : Env → Option Callee → ℕ → Option Passing
passing_at env None i = None
passing_at env (Some (Subroutine n)) i =
    option_and_then (λ (s : Signature). option_map formal_passing (slice_get s.formals i)) (slice_get env.subroutines n)
passing_at env (Some (Import n)) i =
    option_and_then (λ (s : ImportSignature). option_map import_passing (slice_get s.formals i)) (slice_get env.imports n)

-- how many formals there are
abbrev pub formal_count : Env → Callee → Option ℕ
formal_count env (Subroutine n) = option_map (λ (s : Signature). length s.formals) (slice_get env.subroutines n)
formal_count env (Import n) = option_map (λ (s : ImportSignature). length s.formals) (slice_get env.imports n)

-- what the call gives
abbrev pub result_of : Env → Option Callee → Option Returns
result_of env None = None
result_of env (Some (Subroutine n)) = option_map (λ (s : Signature). s.result) (slice_get env.subroutines n)
result_of env (Some (Import n)) = option_map (λ (s : ImportSignature). s.result) (slice_get env.imports n)

abbrev pub or_false : Option Bool → Bool
or_false None = false
or_false (Some b) = b

-- a task is called
abbrev pub is_task : Env → Callee → Bool
is_task env (Subroutine n) = or_false (option_map (λ (s : Signature). s.is_task) (slice_get env.subroutines n))
is_task env (Import n) = or_false (option_map (λ (s : ImportSignature). s.is_task) (slice_get env.imports n))

-- the rule is broken at this token
abbrev pub only_if : Bool → ℕ → ℕ → ℕ → List Violation
only_if true file token rule = violation file token rule ∷ []
only_if false file token rule = []

-- more or fewer actuals than formals
abbrev pub is_miscounted : Option ℕ → ℕ → Bool
is_miscounted None actuals = false
is_miscounted (Some count) actuals = not (count == actuals)

abbrev pub is_void : Option Returns → Bool
is_void None = false
is_void (Some Void) = true
is_void (Some (Value kind)) = false

-- as a statement a task can't be called in a function; an expression calls nothing that gives nothing
abbrev pub is_misused : Env → Callee → Bool → Bool
is_misused env callee true = env.in_function && is_task env callee
is_misused env callee false = is_void (result_of env (Some callee))

-- rule 12 on the number of actuals, and rule 22 on what can be called, at the called name
abbrev pub callee_violations : Env → ℕ → Option Callee → ℕ → Bool → List Violation
callee_violations env token None actuals statement = []
callee_violations env token (Some callee) actuals statement =
    only_if (is_miscounted (formal_count env callee) actuals) env.file token 12
    ++ only_if (is_misused env callee statement) env.file token 22

-- an output or inout actual is a place
abbrev pub is_misplaced : Direction → Form → Bool
is_misplaced Input form = false
is_misplaced Output form = not (is_place form)
is_misplaced Inout form = not (is_place form)

-- to a formal of this kind, which is sized or an open array
abbrev pub passed_as : ℕ → ℕ → Direction → Option FormalKind → Whole → List Violation
passed_as file token direction None actual = []
passed_as file token direction (Some formal) actual =
    only_if (is_misplaced direction actual.form) file token 13
    ++ actuals.passed file token (Some formal) (plain_leaf actual.form) actual.value

abbrev pub passed_to : ℕ → ℕ → Passing → Whole → List Violation
passed_to file token p actual = passed_as file token p.direction p.formal actual

-- an actual, by its first token, where there is a formal for it
abbrev pub passed : ℕ → ℕ → Option Passing → Whole → List Violation
passed file token None actual = []
passed file token (Some p) actual = passed_to file token p actual

-- the type of a variable of this kind
abbrev pub target_of : Option VarKind → Option ExprType
target_of None = None
target_of (Some kind) = Some (kind_type kind)

-- an expression of this type
abbrev pub typed : Option ExprType → Option Operand
typed None = None
typed (Some type) = Some (operand type None)

-- the expression that a call is, if its result has a type
abbrev pub call_value : Option Returns → Option Operand
call_value None = None
call_value (Some Void) = typed (Some types.Void)
call_value (Some (Value kind)) = typed (target_of kind)

-- the value, if nothing is violated
abbrev pub if_clean : List Violation → Option Operand → Option Operand
if_clean [] value = value
if_clean (v ∷ vs) value = None

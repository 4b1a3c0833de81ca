-- The signatures of functions, tasks and imports, and what they violate.
use Rattle.std.specs.Prelude.{ℕ, Bool, true, false, Option, Some, None, List, [], ◌++◌}
use Rattle.dpi_rules.specs.declared.violation.Violation.{Violation}
use Rattle.sv_tree.specs.declared.items.Outcome.{Outcome}
use Rattle.sv_tree.specs.declared.items.Outcome.TheVariants as outcomes
use Rattle.sv_tree.specs.declared.items.ImportKind.{ImportKind}
use Rattle.sv_tree.specs.declared.items.ImportKind.TheVariants as kinds
use Rattle.sv_tree.specs.declared.items.Function.{Function as FunctionTree}
use Rattle.sv_tree.specs.declared.items.Task.{Task as TaskTree}
use Rattle.sv_tree.specs.declared.items.Import.{Import as ImportTree}
use Rattle.sv_shapes.specs.Kinds.{var_kind, kind_violations}
use Rattle.sv_signatures.specs.declared.results.Returns.{Returns}
use Rattle.sv_signatures.specs.declared.results.Returns.TheVariants.{Void, Value}
use Rattle.sv_signatures.specs.declared.signatures.Signature.{Signature}
use Rattle.sv_signatures.specs.declared.signatures.ImportSignature.{ImportSignature}
use Rattle.sv_signatures.specs.Formals.{formals_of, formals_violations}
use Rattle.sv_signatures.specs.Imports as imports

-- what a function gives: nothing, or a value of the kind of its type
abbrev pub returns : Outcome → Returns
returns (outcomes.Data type) = Value (var_kind type [])
returns (outcomes.Void k) = Void

-- what its type violates
abbrev pub outcome_violations : ℕ → ℕ → Outcome → List Violation
outcome_violations file name (outcomes.Data type) = kind_violations file name type []
outcome_violations file name (outcomes.Void k) = []

-- what an import gives; a task gives nothing
abbrev pub import_returns : ImportKind → Returns
import_returns (kinds.Function k outcome) = returns outcome
import_returns (kinds.Task k) = Void

-- what the type of an import violates
abbrev pub import_outcome_violations : ℕ → ℕ → ImportKind → List Violation
import_outcome_violations file name (kinds.Function k outcome) = outcome_violations file name outcome
import_outcome_violations file name (kinds.Task k) = []

abbrev pub is_task : ImportKind → Bool
is_task (kinds.Function k outcome) = false
is_task (kinds.Task k) = true

-- what is listed between parentheses; nothing without them
abbrev pub listed : {A : Type 0} → Option (List A) → List A
listed None = []
listed (Some items) = items

-- a function: its name, what it gives and its formals
abbrev pub function_signature : FunctionTree → Signature
function_signature f =
    record { token = f.name.token; is_task = false; result = returns f.outcome; formals = formals_of (listed f.formals) }

-- what its type and its formals violate
abbrev pub function_violations : ℕ → FunctionTree → List Violation
function_violations file f = outcome_violations file f.name.token f.outcome ++ formals_violations file (listed f.formals)

-- a task gives nothing
abbrev pub task_signature : TaskTree → Signature
task_signature t = record { token = t.name.token; is_task = true; result = Void; formals = formals_of (listed t.formals) }

-- what its formals violate
abbrev pub task_violations : ℕ → TaskTree → List Violation
task_violations file t = formals_violations file (listed t.formals)

-- an import
abbrev pub import_signature : ImportTree → ImportSignature
import_signature i =
    record { token = i.name.token; is_task = is_task i.kind; result = import_returns i.kind; formals = imports.formals_of (listed i.formals) }

-- what its type and its formals violate
abbrev pub import_violations : ℕ → ImportTree → List Violation
import_violations file i = import_outcome_violations file i.name.token i.kind ++ imports.formals_violations file (listed i.formals)

-- The rules on a name where it is used, by what it declares there.
use Rattle.std.specs.Prelude.{ℕ, Option, Some, None, List, [], ◌∷◌}
use Rattle.dpi_rules.specs.declared.violation.Violation.{Violation}
use Rattle.dpi_rules.specs.Order.{violation}
use Rattle.sv_shapes.specs.declared.kinds.VarKind.{VarKind}
use Rattle.sv_names.specs.declared.entry.Entry.{Entry}
use Rattle.sv_names.specs.declared.entry.Thing.{Thing}
use Rattle.sv_names.specs.declared.entry.Thing.TheVariants as things
use Rattle.sv_names.specs.declared.uses.Callee.{Callee}
use Rattle.sv_names.specs.declared.uses.Callee.TheVariants as callees

-- this rule alone is broken, at this token
abbrev pub broken : ℕ → ℕ → ℕ → List Violation
broken file token rule = violation file token rule ∷ []

-- a value is a variable or a result
abbrev pub not_value : ℕ → ℕ → Thing → List Violation
not_value file token (things.Variable kind) = []
not_value file token (things.Result kind) = []
not_value file token (things.Function n) = broken file token 6
not_value file token (things.Task n) = broken file token 6
not_value file token (things.Import n) = broken file token 6
not_value file token things.Block = broken file token 6
not_value file token things.Instance = broken file token 6

-- what the name of a value breaks by its declaration
abbrev pub value_violations : ℕ → ℕ → Option Entry → List Violation
value_violations file token None = broken file token 5
value_violations file token (Some entry) = not_value file token entry.thing

-- the kind of a variable or a result
abbrev pub kind_of_thing : Thing → Option VarKind
kind_of_thing (things.Variable kind) = kind
kind_of_thing (things.Result kind) = kind
kind_of_thing (things.Function n) = None
kind_of_thing (things.Task n) = None
kind_of_thing (things.Import n) = None
kind_of_thing things.Block = None
kind_of_thing things.Instance = None

-- the kind of what a name means by its declaration, if it has one
abbrev pub value_kind : Option Entry → Option VarKind
value_kind None = None
value_kind (Some entry) = kind_of_thing entry.thing

-- what is called is a function, a task or an import
abbrev pub not_callee : ℕ → ℕ → Thing → List Violation
not_callee file token (things.Variable kind) = broken file token 6
not_callee file token (things.Result kind) = broken file token 6
not_callee file token (things.Function n) = []
not_callee file token (things.Task n) = []
not_callee file token (things.Import n) = []
not_callee file token things.Block = broken file token 6
not_callee file token things.Instance = broken file token 6

-- what the name of what is called breaks by its declaration
abbrev pub call_violations : ℕ → ℕ → Option Entry → List Violation
call_violations file token None = broken file token 5
call_violations file token (Some entry) = not_callee file token entry.thing

-- the function or task of the module, or the import
abbrev pub callee_of_thing : Thing → Option Callee
callee_of_thing (things.Variable kind) = None
callee_of_thing (things.Result kind) = None
callee_of_thing (things.Function n) = Some (callees.Subroutine n)
callee_of_thing (things.Task n) = Some (callees.Subroutine n)
callee_of_thing (things.Import n) = Some (callees.Import n)
callee_of_thing things.Block = None
callee_of_thing things.Instance = None

-- what a call of a name calls by its declaration
abbrev pub called : Option Entry → Option Callee
called None = None
called (Some entry) = callee_of_thing entry.thing

-- `disable` ends a named block or a task of the module
abbrev pub not_target : ℕ → ℕ → Thing → List Violation
not_target file token (things.Variable kind) = broken file token 23
not_target file token (things.Result kind) = broken file token 23
not_target file token (things.Function n) = broken file token 23
not_target file token (things.Task n) = []
not_target file token (things.Import n) = broken file token 23
not_target file token things.Block = []
not_target file token things.Instance = broken file token 23

-- what the name behind `disable` breaks by its declaration
abbrev pub disable_violations : ℕ → ℕ → Option Entry → List Violation
disable_violations file token None = broken file token 23
disable_violations file token (Some entry) = not_target file token entry.thing

-- what the name of an export breaks by its declaration in the module
abbrev pub export_violations : ℕ → ℕ → Option Entry → List Violation
export_violations file token None = broken file token 5
export_violations file token (Some entry) = []

-- the number of a function or task
abbrev pub subroutine_of_thing : Thing → Option ℕ
subroutine_of_thing (things.Variable kind) = None
subroutine_of_thing (things.Result kind) = None
subroutine_of_thing (things.Function n) = Some n
subroutine_of_thing (things.Task n) = Some n
subroutine_of_thing (things.Import n) = None
subroutine_of_thing things.Block = None
subroutine_of_thing things.Instance = None

-- the function or task of its module that a name exports by its declaration, by its number
abbrev pub exported : Option Entry → Option ℕ
exported None = None
exported (Some entry) = subroutine_of_thing entry.thing

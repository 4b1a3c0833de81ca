-- What functions and tasks declare in their scopes, in text order.
use Rattle.std.specs.Prelude.{ℕ, ◌+◌, Option, Some, None, List, [], ◌∷◌, ◌++◌, slice_index_or}
use Rattle.sv_tree.specs.declared.leaves.Name.{Name}
use Rattle.sv_tree.specs.declared.items.Formal.{Formal}
use Rattle.sv_tree.specs.declared.items.Function.{Function}
use Rattle.sv_tree.specs.declared.items.Task.{Task}
use Rattle.sv_tree.specs.declared.items.Body.{Body}
use Rattle.sv_tree.specs.declared.items.Outcome.{Outcome}
use Rattle.sv_tree.specs.declared.items.Outcome.TheVariants as outcomes
use Rattle.sv_shapes.specs.declared.kinds.VarKind.{VarKind}
use Rattle.sv_shapes.specs.Kinds.{var_kind}
use Rattle.sv_names.specs.declared.entry.Thing.TheVariants as things
use Rattle.sv_names.specs.Declaring.{Declared, declared}
use Rattle.sv_names.specs.Declarations.{body_declares}

-- the result of a function, at the function's name, if it gives a value
abbrev pub result_declares : Name → Outcome → List Declared
result_declares n (outcomes.Data type) = declared n (things.Result (var_kind type [])) ∷ []
result_declares n (outcomes.Void k) = []

-- the kind of the formal of this number, if it has one
abbrev pub kind_at : List (Option VarKind) → ℕ → Option VarKind
kind_at kinds at = slice_index_or kinds at None

-- formals with these kinds, of which the first one here has this number
abbrev pub formals_declare : List (Option VarKind) → ℕ → List Formal → List Declared
formals_declare kinds at [] = []
formals_declare kinds at (f ∷ fs) = declared f.name (things.Variable (kind_at kinds at)) ∷ formals_declare kinds (at + 1) fs

-- the formals that are written
abbrev pub formals_in : Option (List Formal) → List Formal
formals_in None = []
formals_in (Some fs) = fs

-- formals with these kinds, then variables and named blocks
abbrev pub inside_declares : List (Option VarKind) → Option (List Formal) → Body → List Declared
inside_declares kinds formals body = formals_declare kinds 0 (formals_in formals) ++ body_declares body.variables body.statements

-- a function whose formals have these kinds: its result comes first
abbrev pub function_declares : List (Option VarKind) → Function → List Declared
function_declares kinds f = result_declares f.name f.outcome ++ inside_declares kinds f.formals f.body

-- a task whose formals have these kinds
abbrev pub task_declares : List (Option VarKind) → Task → List Declared
task_declares kinds t = inside_declares kinds t.formals t.body

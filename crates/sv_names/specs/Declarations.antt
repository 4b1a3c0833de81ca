-- What each scope declares, in text order.
use Rattle.std.specs.Prelude.{ℕ, ◌+◌, Option, Some, None, Result, Ok, Err, List, [], ◌∷◌, ◌++◌, map, flat_map, Bool, true, false, if◌then◌else◌}
use Rattle.dpi_ports.specs.declared.no_memory.NoMemory.{NoMemory}
use Rattle.dpi_rules.specs.declared.violation.Violation.{Violation}
use Rattle.sv_tree.specs.declared.types.DataType.{DataType}
use Rattle.sv_tree.specs.declared.statements.Declarator.{Declarator}
use Rattle.sv_tree.specs.declared.statements.Variables.{Variables}
use Rattle.sv_tree.specs.declared.statements.Stmt.{Stmt}
use Rattle.sv_tree.specs.declared.statements.Block.{Block, out-Block}
use Rattle.sv_tree.specs.declared.statements.Start.{Start}
use Rattle.sv_tree.specs.declared.statements.Start.TheVariants as starts
use Rattle.sv_tree.specs.declared.items.Item.{Item}
use Rattle.sv_tree.specs.declared.items.Item.TheVariants as items
use Rattle.sv_tree.specs.declared.items.Module.{Module}
use Rattle.sv_shapes.specs.Kinds.{var_kind}
use Rattle.sv_names.specs.declared.entry.Thing.TheVariants as things
use Rattle.sv_names.specs.declared.scope.Scope.{Scope}
use Rattle.sv_names.specs.Names.{no_names, names_of}
use Rattle.sv_names.specs.Declaring.{Declared, declared, IsDeclared}
use Rattle.sv_names.specs.Blocks.{stmt_blocks}

-- a variable of this type
abbrev pub variable_declares : DataType → Declarator → Declared
variable_declares type d = declared d.name (things.Variable (var_kind type d.dimensions))

-- the variables of one declaration
abbrev pub variables_declare : Variables → List Declared
variables_declare v = map (variable_declares v.kind) v.declarators

-- variables, and then the named blocks among statements
abbrev pub body_declares : List Variables → List Stmt → List Declared
body_declares vs ss = flat_map variables_declare vs ++ flat_map stmt_blocks ss

-- a block: its variables, and the named blocks in it that no other block in it encloses
abbrev pub block_declares : Block → List Declared
block_declares b = body_declares (out-Block b).variables (out-Block b).statements

-- a `for`: its variable, if it declares one
abbrev pub start_declares : Start → List Declared
start_declares (starts.Declare type n k e) = declared n (things.Variable (var_kind type [])) ∷ []
start_declares (starts.Assign l k e) = []

-- an item of a module, behind so many functions and tasks, and so many imports
abbrev pub item_declares : ℕ → ℕ → Item → List Declared
item_declares subroutines imports (items.Variables v) = variables_declare v
item_declares subroutines imports (items.Import i) = declared i.name (things.Import imports) ∷ []
item_declares subroutines imports (items.Export x) = []
item_declares subroutines imports (items.Function f) = declared f.name (things.Function subroutines) ∷ []
item_declares subroutines imports (items.Task t) = declared t.name (things.Task subroutines) ∷ []
item_declares subroutines imports (items.Initial k s) = stmt_blocks s
item_declares subroutines imports (items.Instance m n) = declared n things.Instance ∷ []

-- the functions and tasks up to behind this item
abbrev pub subroutines_with : ℕ → Item → ℕ
subroutines_with n (items.Variables v) = n
subroutines_with n (items.Import i) = n
subroutines_with n (items.Export x) = n
subroutines_with n (items.Function f) = n + 1
subroutines_with n (items.Task t) = n + 1
subroutines_with n (items.Initial k s) = n
subroutines_with n (items.Instance m i) = n

-- the imports up to behind this item
abbrev pub imports_with : ℕ → Item → ℕ
imports_with n (items.Variables v) = n
imports_with n (items.Import i) = n + 1
imports_with n (items.Export x) = n
imports_with n (items.Function f) = n
imports_with n (items.Task t) = n
imports_with n (items.Initial k s) = n
imports_with n (items.Instance m i) = n

-- items, behind so many functions and tasks, and so many imports
abbrev pub items_declare : ℕ → ℕ → List Item → List Declared
items_declare subroutines imports [] = []
items_declare subroutines imports (x ∷ xs) =
    item_declares subroutines imports x ++ items_declare (subroutines_with subroutines x) (imports_with imports x) xs

-- a module
abbrev pub module_declares : Module → List Declared
module_declares m = items_declare 0 0 m.items

-- a new scope has these declarations, and the second ones of a name are noted; unless memory ran out
abbrev pub Opens : ℕ → List Declared → Option Violation → Result Scope NoMemory → Option Violation → Type 0
Opens file ds found (Ok scope) found' = IsDeclared file ds no_names found (names_of scope) found'
Opens file ds found (Err e) found' = Unit {0}

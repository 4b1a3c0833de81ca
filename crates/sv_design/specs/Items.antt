-- Declarations of functions, tasks and modules.
use Rattle.std.specs.Prelude.{ℕ, List, [], ◌++◌, flat_map}
use Rattle.sv_tree.specs.declared.items.Body.{Body}
use Rattle.sv_tree.specs.declared.items.Function.{Function}
use Rattle.sv_tree.specs.declared.items.Task.{Task}
use Rattle.sv_tree.specs.declared.items.Item.{Item}
use Rattle.sv_tree.specs.declared.items.Item.TheVariants as items
use Rattle.sv_tree.specs.declared.items.SvFile.{SvFile}
use Rattle.sv_signatures.specs.declared.formals.Formal.{Formal}
use Rattle.sv_signatures.specs.declared.results.Returns.{Returns}
use Rattle.sv_signatures.specs.declared.results.Returns.TheVariants.{Void, Value}
use Rattle.sv_signatures.specs.declared.signatures.Signature.{Signature}
use Rattle.sv_signatures.specs.Signatures.{function_signature, task_signature}
use Rattle.sv_instances.specs.Modules.{InFile, modules_in}
use Rattle.sv_design.specs.declared.declarations.Declaration.{Declaration}
use Rattle.sv_design.specs.declared.declarations.Owner.{Owner}
use Rattle.sv_design.specs.declared.declarations.Owner.TheVariants.{Instance}
use Rattle.sv_design.specs.Declarations.{owner_of, declaration, variables_declarations}
use Rattle.sv_design.specs.Statements.{in_stmt}

-- the result of a function with a value is declared at its name
abbrev pub result_declarations : ℕ → Owner → ℕ → Returns → List Declaration
result_declarations file owner name Void = []
result_declarations file owner name (Value kind) = declaration file owner name kind

abbrev pub formal_declarations : ℕ → Owner → Formal → List Declaration
formal_declarations file owner f = declaration file owner f.token f.kind

-- the result, then the formals
abbrev pub signature_declarations : ℕ → Owner → Signature → List Declaration
signature_declarations file owner s =
    result_declarations file owner s.token s.result ++ flat_map (formal_declarations file owner) s.formals

-- the variables, then those in the statements
abbrev pub body_declarations : ℕ → Owner → Body → List Declaration
body_declarations file owner b =
    flat_map (variables_declarations file owner) b.variables ++ flat_map (in_stmt file owner) b.statements

abbrev pub function_declarations : ℕ → Function → List Declaration
function_declarations file f =
    signature_declarations file (owner_of f.life) (function_signature f) ++ body_declarations file (owner_of f.life) f.body

abbrev pub task_declarations : ℕ → Task → List Declaration
task_declarations file t =
    signature_declarations file (owner_of t.life) (task_signature t) ++ body_declarations file (owner_of t.life) t.body

-- variables of modules and locals of initial blocks live with the instance; imports declare no variables
abbrev pub item_declarations : ℕ → Item → List Declaration
item_declarations file (items.Variables v) = variables_declarations file Instance v
item_declarations file (items.Import i) = []
item_declarations file (items.Export e) = []
item_declarations file (items.Function f) = function_declarations file f
item_declarations file (items.Task t) = task_declarations file t
item_declarations file (items.Initial k s) = in_stmt file Instance s
item_declarations file (items.Instance m n) = []

abbrev pub module_declarations : InFile → List Declaration
module_declarations m = flat_map (item_declarations m.file) m.tree.items

-- the declarations of a design, in the order of files and text
abbrev pub declarations_in : List SvFile → List Declaration
declarations_in files = flat_map module_declarations (modules_in files)

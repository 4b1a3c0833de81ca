-- Functions and tasks by number.
use Rattle.std.specs.Prelude.{ℕ, ◌+◌, Bool, Option, Some, None, List, [], ◌∷◌, ◌++◌}
use Rattle.sv_tree.specs.declared.kinds.Direction.{Direction}
use Rattle.sv_tree.specs.declared.items.Function.{Function}
use Rattle.sv_tree.specs.declared.items.Task.{Task}
use Rattle.sv_tree.specs.declared.items.Item.{Item}
use Rattle.sv_tree.specs.declared.items.Item.TheVariants as items
use Rattle.sv_tree.specs.declared.items.SvFile.{SvFile}
use Rattle.sv_shapes.specs.declared.kinds.VarKind.{VarKind}
use Rattle.sv_signatures.specs.declared.formals.Formal.{Formal as Signed}
use Rattle.sv_signatures.specs.declared.results.Returns.{Returns}
use Rattle.sv_signatures.specs.declared.results.Returns.TheVariants.{Void, Value}
use Rattle.sv_signatures.specs.declared.signatures.Signature.{Signature}
use Rattle.sv_signatures.specs.Signatures.{function_signature, task_signature}
use Rattle.sv_instances.specs.Modules.{InFile, modules_in}
use Rattle.sv_design.specs.declared.subroutines.Formal.{Formal}
use Rattle.sv_design.specs.declared.subroutines.Subroutine.{Subroutine}
use Rattle.sv_design.specs.Declarations.{is_automatic}
use Rattle.sv_design.specs.Items.{item_declarations, module_declarations}
use Rattle.sv_design.specs.Counted.{counted}

-- behind a name of this kind that has this number; one whose kind is refused has none
abbrev pub behind : ℕ → Option VarKind → ℕ
behind n None = n
behind n (Some kind) = n + 1

-- behind the result
abbrev pub behind_result : ℕ → Returns → ℕ
behind_result n Void = n
behind_result n (Value kind) = behind n kind

-- the number of what is declared with this kind, if it isn't refused
abbrev pub numbered : ℕ → Option VarKind → Option ℕ
numbered n None = None
numbered n (Some kind) = Some n

-- the number of the result, if there is one
abbrev pub result_number : ℕ → Returns → Option ℕ
result_number n Void = None
result_number n (Value kind) = numbered n kind

-- a formal whose declaration has this number; one whose kind is refused is left out
abbrev pub formal : ℕ → Direction → Option VarKind → List Formal
formal n direction None = []
formal n direction (Some kind) = record { dir = direction; declaration = n } ∷ []

-- formals, of which the first one's declaration has this number
abbrev pub formals_from : ℕ → List Signed → List Formal
formals_from n [] = []
formals_from n (f ∷ fs) = formal n f.direction f.kind ++ formals_from (behind n f.kind) fs

-- a subroutine, whose first declaration has this number: the result's, then those of the formals
abbrev pub subroutine_of : ℕ → ℕ → Bool → Signature → Subroutine
subroutine_of file n automatic s = record {
  file = file;
  token = s.token;
  is_task = s.is_task;
  automatic = automatic;
  result = result_number n s.result;
  formals = formals_from (behind_result n s.result) s.formals;
}

abbrev pub function_subroutine : ℕ → ℕ → Function → Subroutine
function_subroutine file n f = subroutine_of file n (is_automatic f.life) (function_signature f)

abbrev pub task_subroutine : ℕ → ℕ → Task → Subroutine
task_subroutine file n t = subroutine_of file n (is_automatic t.life) (task_signature t)

-- the subroutine that an item declares, where so many declarations stand before the item
abbrev pub item_subroutines : ℕ → ℕ → Item → List Subroutine
item_subroutines file n (items.Variables v) = []
item_subroutines file n (items.Import i) = []
item_subroutines file n (items.Export e) = []
item_subroutines file n (items.Function f) = function_subroutine file n f ∷ []
item_subroutines file n (items.Task t) = task_subroutine file n t ∷ []
item_subroutines file n (items.Initial k s) = []
item_subroutines file n (items.Instance m i) = []

-- those of a module, where so many declarations stand before it
abbrev pub module_subroutines : ℕ → InFile → List Subroutine
module_subroutines n m = counted (item_declarations m.file) (item_subroutines m.file) n m.tree.items

-- the subroutines of a design, in the order of files and text
abbrev pub subroutines_in : List SvFile → List Subroutine
subroutines_in files = counted module_declarations module_subroutines 0 (modules_in files)

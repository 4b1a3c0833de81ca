-- What items, modules and files tell.
use Rattle.std.specs.Prelude.{ℕ, Bool, true, false, List, [], ◌∷◌, map, Option, Some, None, option_map}
use Rattle.dpi_grammar.specs.Told.{◌&◌, noted, nothing, each, maybe, between, words_in}
use Rattle.dpi_lex.specs.Words.{Word}
use Rattle.sv_tree.specs.declared.class.Class.TheVariants as classes
use Rattle.sv_tree.specs.declared.leaves.Name.{Name}
use Rattle.sv_tree.specs.declared.items.Life.{Life}
use Rattle.sv_tree.specs.declared.items.Way.{Way}
use Rattle.sv_tree.specs.declared.items.Trait.{Trait}
use Rattle.sv_tree.specs.declared.items.Formal.{Formal}
use Rattle.sv_tree.specs.declared.items.ImportFormal.{ImportFormal}
use Rattle.sv_tree.specs.declared.items.Outcome.{Outcome}
use Rattle.sv_tree.specs.declared.items.Outcome.TheVariants as outcomes
use Rattle.sv_tree.specs.declared.items.Body.{Body}
use Rattle.sv_tree.specs.declared.items.ImportKind.{ImportKind}
use Rattle.sv_tree.specs.declared.items.ImportKind.TheVariants as import_kinds
use Rattle.sv_tree.specs.declared.items.Import.{Import}
use Rattle.sv_tree.specs.declared.items.Export.{Export}
use Rattle.sv_tree.specs.declared.items.Function.{Function}
use Rattle.sv_tree.specs.declared.items.Task.{Task}
use Rattle.sv_tree.specs.declared.items.Item.{Item}
use Rattle.sv_tree.specs.declared.items.Item.TheVariants as items
use Rattle.sv_tree.specs.declared.items.Module.{Module}
use Rattle.sv_tree.specs.declared.items.SvFile.{SvFile}
use Rattle.sv_tree.specs.Kinds.{lifetime_class, direction_class, property_class}
use Rattle.sv_tree.specs.Expressions.{Tells, quoted, comma, name_told, text_told}
use Rattle.sv_tree.specs.Types.{type_told, dimension_told, import_type_told, import_dimension_told}
use Rattle.sv_tree.specs.Statements.{label_told, variables_told, stmt_told}

abbrev pub life_told : Life → Tells
life_told l = noted l.token & quoted (lifetime_class l.lifetime)

abbrev pub way_told : Way → Tells
way_told w = noted w.token & quoted (direction_class w.direction)

abbrev pub trait_told : Trait → Tells
trait_told t = noted t.token & quoted (property_class t.property)

-- dir? type? id dim*
abbrev pub formal_told : Formal → Tells
formal_told f = maybe (option_map way_told f.way) & maybe (option_map type_told f.kind) & name_told f.name & each (map dimension_told f.dimensions)

-- dir? itype? id idim*
abbrev pub import_formal_told : ImportFormal → Tells
import_formal_told f = maybe (option_map way_told f.way) & maybe (option_map import_type_told f.kind) & name_told f.name & each (map import_dimension_told f.dimensions)

-- "(" (formal,+)? ")"
abbrev pub formals_told : List Formal → Tells
formals_told fs = quoted classes.OpenParen & between comma (map formal_told fs) & quoted classes.CloseParen

abbrev pub import_formals_told : List ImportFormal → Tells
import_formals_told fs = quoted classes.OpenParen & between comma (map import_formal_told fs) & quoted classes.CloseParen

-- type | "void"
abbrev pub outcome_told : Outcome → Tells
outcome_told (outcomes.Data t) = type_told t
outcome_told (outcomes.Void k) = noted k & quoted classes.Void

-- vardecl* stmt*
abbrev pub body_told : Body → Tells
body_told b = each (map variables_told b.variables) & each (map stmt_told b.statements)

-- "function" (type | "void") | "task"
abbrev pub import_kind_told : ImportKind → Tells
import_kind_told (import_kinds.Function k o) = noted k & quoted classes.Function & outcome_told o
import_kind_told (import_kinds.Task k) = noted k & quoted classes.Task

-- id "="
abbrev pub c_name_told : Name → Tells
c_name_told n = name_told n & quoted classes.Assign

-- "import" string ("context" | "pure")? (id "=")? ("function" (type | "void") id | "task" id) iformals? ";"
abbrev pub import_told : Import → Tells
import_told i =
    noted i.token & quoted classes.Import & text_told i.text & maybe (option_map trait_told i.property) & maybe (option_map c_name_told i.c_name) & import_kind_told i.kind & name_told i.name
    & maybe (option_map import_formals_told i.formals) & quoted classes.Semicolon

abbrev pub export_kind_told : Bool → Tells
export_kind_told true = quoted classes.Task
export_kind_told false = quoted classes.Function

-- "export" string (id "=")? ("function" | "task") id ";"
abbrev pub export_told : Export → Tells
export_told e = noted e.token & quoted classes.Export & text_told e.text & maybe (option_map c_name_told e.c_name) & export_kind_told e.task & name_told e.name & quoted classes.Semicolon

-- "function" life? (type | "void") id formals? ";" vardecl* stmt* "endfunction" label?
abbrev pub function_told : Function → Tells
function_told f =
    noted f.token & quoted classes.Function & maybe (option_map life_told f.life) & outcome_told f.outcome & name_told f.name & maybe (option_map formals_told f.formals) & quoted classes.Semicolon
    & body_told f.body & quoted classes.EndFunction & maybe (option_map label_told f.end)

-- "task" life? id formals? ";" vardecl* stmt* "endtask" label?
abbrev pub task_told : Task → Tells
task_told t =
    noted t.token & quoted classes.Task & maybe (option_map life_told t.life) & name_told t.name & maybe (option_map formals_told t.formals) & quoted classes.Semicolon
    & body_told t.body & quoted classes.EndTask & maybe (option_map label_told t.end)

-- vardecl | import | export | function | task | "initial" stmt | id id "(" ")" ";"
abbrev pub item_told : Item → Tells
item_told (items.Variables v) = variables_told v
item_told (items.Import i) = import_told i
item_told (items.Export e) = export_told e
item_told (items.Function f) = function_told f
item_told (items.Task t) = task_told t
item_told (items.Initial k s) = noted k & quoted classes.Initial & stmt_told s
item_told (items.Instance m n) = name_told m & name_told n & quoted classes.OpenParen & quoted classes.CloseParen & quoted classes.Semicolon

abbrev pub parentheses_told : Bool → Tells
parentheses_told true = quoted classes.OpenParen & quoted classes.CloseParen
parentheses_told false = nothing

-- "module" id ("(" ")")? ";" item* "endmodule" label?
abbrev pub module_told : Module → Tells
module_told m =
    noted m.token & quoted classes.Module & name_told m.name & parentheses_told m.parentheses & quoted classes.Semicolon & each (map item_told m.items) & quoted classes.EndModule & maybe (option_map label_told m.end)

-- module*
abbrev pub file_told : SvFile → Tells
file_told f = each (map module_told f.modules)

-- the words of a file
abbrev pub sv_words : SvFile → List Word
sv_words f = words_in (file_told f).atoms

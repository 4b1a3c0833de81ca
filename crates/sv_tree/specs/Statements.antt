-- What declarations of variables and statements tell.
use Rattle.std.specs.Prelude.{ℕ, Bool, true, false, not, List, [], ◌∷◌, map, Option, Some, None, option_map}
use Rattle.dpi_grammar.specs.Told.{Told, ◌&◌, noted, kept, nothing, deeper, ended, each, maybe, between, some_between, behind_each, elses, words_in}
use Rattle.dpi_grammar.specs.Parser.{first}
use Rattle.sv_tree.specs.declared.class.Class.TheVariants as classes
use Rattle.sv_tree.specs.declared.leaves.Number.{Number}
use Rattle.sv_tree.specs.declared.expr.Expr.{Expr}
use Rattle.sv_tree.specs.declared.expr.Call.{Call, out-Call}
use Rattle.sv_tree.specs.declared.statements.Label.{Label}
use Rattle.sv_tree.specs.declared.statements.Init.{Init, fold-Init}
use Rattle.sv_tree.specs.declared.statements.Init.TheOpen.{Init-F}
use Rattle.sv_tree.specs.declared.statements.Initializer.{Initializer}
use Rattle.sv_tree.specs.declared.statements.Declarator.{Declarator}
use Rattle.sv_tree.specs.declared.statements.Variables.{Variables}
use Rattle.sv_tree.specs.declared.statements.Change.{Change}
use Rattle.sv_tree.specs.declared.statements.Change.TheVariants as changes
use Rattle.sv_tree.specs.declared.statements.Start.{Start}
use Rattle.sv_tree.specs.declared.statements.Start.TheVariants as starts
use Rattle.sv_tree.specs.declared.statements.Format.{Format}
use Rattle.sv_tree.specs.declared.statements.Stmt.{Stmt, fold-Stmt}
use Rattle.sv_tree.specs.declared.statements.Block.{Block, fold-Block}
use Rattle.sv_tree.specs.declared.statements.CaseItem.{CaseItem, fold-CaseItem}
use Rattle.sv_tree.specs.declared.statements.Else.{Else, fold-Else}
use Rattle.sv_tree.specs.declared.statements.ElseIf.{ElseIf, fold-ElseIf}
use Rattle.sv_tree.specs.declared.statements.If.{If, fold-If}
use Rattle.sv_tree.specs.declared.statements.Stmt.TheOpen.{Stmt-F, Block-F, CaseItem-F, Else-F, ElseIf-F, If-F}
use Rattle.sv_tree.specs.Classes.{is}
use Rattle.sv_tree.specs.Operators.{assign_class}
use Rattle.sv_tree.specs.Kinds.{step_class, show_class}
use Rattle.sv_tree.specs.Expressions.{Tells, quoted, comma, name_told, number_told, text_told, expr_told, lvalue_told, call_told}
use Rattle.sv_tree.specs.Types.{type_told, dimension_told}

-- ":" id
abbrev pub label_told : Label → Tells
label_told l = noted l.token & quoted classes.Colon & name_told l.name

-- expr | "'{" init,+ "}"
abbrev pub init_step : Init-F Tells → Tells
init_step (Init-F.Value e) = expr_told e
init_step (Init-F.Pattern k is) = deeper (noted k & quoted classes.Pattern & some_between comma is & quoted classes.CloseBrace)

abbrev pub init_told : Init → Tells
init_told = fold-Init Tells init_step

abbrev pub initializer_told : Initializer → Tells
initializer_told i = noted i.token & quoted classes.Assign & init_told i.value

-- id dim* ("=" init)?
abbrev pub declarator_told : Declarator → Tells
declarator_told d = name_told d.name & each (map dimension_told d.dimensions) & maybe (option_map initializer_told d.initializer)

-- type declarator,+ ";"
abbrev pub variables_told : Variables → Tells
variables_told v = type_told v.kind & some_between comma (map declarator_told v.declarators) & quoted classes.Semicolon

-- lvalue "=" init | lvalue assignop expr | lvalue ("++" | "--")
abbrev pub change_told : Change → Tells
change_told (changes.Assign l k i) = lvalue_told l & noted k & quoted classes.Assign & init_told i
change_told (changes.Compute l k o e) = lvalue_told l & noted k & quoted (assign_class o) & expr_told e
change_told (changes.Step l k s) = lvalue_told l & noted k & quoted (step_class s)

-- type id "=" expr | lvalue "=" expr
abbrev pub start_told : Start → Tells
start_told (starts.Declare t n k e) = type_told t & name_told n & noted k & quoted classes.Assign & expr_told e
start_told (starts.Assign l k e) = lvalue_told l & noted k & quoted classes.Assign & expr_told e

-- string ("," expr)*
abbrev pub format_told : Format → Tells
format_told f = text_told f.text & behind_each comma (map expr_told f.actuals)

-- id "(" (expr,+)? ")" where the level is counted from an earlier token on
abbrev pub flat_call_told : Call → Tells
flat_call_told c = name_told (out-Call c).name & noted (out-Call c).token & quoted classes.OpenParen & between comma (map expr_told (out-Call c).actuals) & quoted classes.CloseParen

-- "(" expr ")"
abbrev pub condition_told : Expr → Tells
condition_told e = quoted classes.OpenParen & expr_told e & quoted classes.CloseParen

-- expr,+ | "default"
abbrev pub values_told : Option (List Expr) → Tells
values_told None = quoted classes.Default
values_told (Some es) = some_between comma (map expr_told es)

-- at least one part
abbrev pub some_each : List Tells → Tells
some_each [] = kept false
some_each (p ∷ ps) = p & each ps

-- "(" number ")"
abbrev pub status_told : Number → Tells
status_told n = quoted classes.OpenParen & number_told n & quoted classes.CloseParen

-- ---- productions, with what each part tells in its place

abbrev pub stmt_step : Stmt-F Tells Tells Tells Tells Tells Tells → Tells
stmt_step (Stmt-F.Empty k) = noted k & quoted classes.Semicolon
stmt_step (Stmt-F.Block b) = b
stmt_step (Stmt-F.If i) = i
stmt_step (Stmt-F.Case k e is) = deeper (noted k & quoted classes.Case & condition_told e & some_each is & quoted classes.EndCase)
stmt_step (Stmt-F.While k e s) = deeper (noted k & quoted classes.While & condition_told e & s)
stmt_step (Stmt-F.Repeat k e s) = deeper (noted k & quoted classes.Repeat & condition_told e & s)
stmt_step (Stmt-F.Forever k s) = deeper (noted k & quoted classes.Forever & s)
stmt_step (Stmt-F.For k a e c s) =
    deeper (noted k & quoted classes.For & quoted classes.OpenParen & start_told a & quoted classes.Semicolon & expr_told e & quoted classes.Semicolon & change_told c & quoted classes.CloseParen & s)
stmt_step (Stmt-F.Return k e) = noted k & quoted classes.Return & maybe (option_map expr_told e) & quoted classes.Semicolon
stmt_step (Stmt-F.Break k) = noted k & quoted classes.Break & quoted classes.Semicolon
stmt_step (Stmt-F.Continue k) = noted k & quoted classes.Continue & quoted classes.Semicolon
stmt_step (Stmt-F.Disable k n) = noted k & quoted classes.Disable & name_told n & quoted classes.Semicolon
stmt_step (Stmt-F.Finish k n) = noted k & quoted classes.Finish & maybe (option_map status_told n) & quoted classes.Semicolon
stmt_step (Stmt-F.Show k w) = noted k & quoted (show_class w) & quoted classes.Semicolon
stmt_step (Stmt-F.ShowActuals k w o f) = noted k & quoted (show_class w) & noted o & quoted classes.OpenParen & maybe (option_map format_told f) & quoted classes.CloseParen & quoted classes.Semicolon
stmt_step (Stmt-F.Void k c) = deeper (noted k & quoted classes.Void & quoted classes.Tick & quoted classes.OpenParen & flat_call_told c & quoted classes.CloseParen & quoted classes.Semicolon)
stmt_step (Stmt-F.Call c) = call_told c & quoted classes.Semicolon
stmt_step (Stmt-F.Name n) = name_told n & quoted classes.Semicolon
stmt_step (Stmt-F.Change c) = change_told c & quoted classes.Semicolon

-- "begin" label? vardecl* stmt* "end" label?
abbrev pub block_step : Block-F Tells Tells Tells Tells Tells Tells → Tells
block_step b = deeper (noted b.token & quoted classes.Begin & maybe (option_map label_told b.label) & each (map variables_told b.variables) & each b.statements & quoted classes.End & maybe (option_map label_told b.end))

-- (expr,+ | "default") ":" stmt
abbrev pub item_step : CaseItem-F Tells Tells Tells Tells Tells Tells → Tells
item_step i = noted i.token & values_told i.values & quoted classes.Colon & i.body

-- "else" "if" "(" expr ")" stmt
abbrev pub else_if_step : ElseIf-F Tells Tells Tells Tells Tells Tells → Tells
else_if_step p = noted p.token & quoted classes.Else & quoted classes.If & condition_told p.condition & p.body

-- "else" stmt, where the statement isn't an `if`
abbrev pub else_step : Else-F Tells Tells Tells Tells Tells Tells → Tells
else_step e = noted e.token & quoted classes.Else & kept (not (is classes.If (first (words_in e.body.atoms)))) & e.body

-- "if" "(" expr ")" stmt ("else" "if" "(" expr ")" stmt)* ("else" stmt)?
abbrev pub if_step : If-F Tells Tells Tells Tells Tells Tells → Tells
if_step i = deeper (noted i.token & quoted classes.If & condition_told i.condition & i.body & elses i.body.unended i.others i.last)

abbrev pub stmt_told : Stmt → Tells
stmt_told = fold-Stmt Tells Tells Tells Tells Tells Tells stmt_step block_step item_step else_step else_if_step if_step

abbrev pub block_told : Block → Tells
block_told = fold-Block Tells Tells Tells Tells Tells Tells stmt_step block_step item_step else_step else_if_step if_step

abbrev pub item_told : CaseItem → Tells
item_told = fold-CaseItem Tells Tells Tells Tells Tells Tells stmt_step block_step item_step else_step else_if_step if_step

abbrev pub else_if_told : ElseIf → Tells
else_if_told = fold-ElseIf Tells Tells Tells Tells Tells Tells stmt_step block_step item_step else_step else_if_step if_step

abbrev pub if_told : If → Tells
if_told = fold-If Tells Tells Tells Tells Tells Tells stmt_step block_step item_step else_step else_if_step if_step

abbrev pub else_told : Else → Tells
else_told = fold-Else Tells Tells Tells Tells Tells Tells stmt_step block_step item_step else_step else_if_step if_step

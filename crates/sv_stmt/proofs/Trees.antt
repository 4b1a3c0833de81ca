-- What each statement tells, as equations.
use Rattle.std.proofs.Common.{◌≡◌, ℕ, List, map, Option, Some, None, sym, ap, ◌∙◌}
use Rattle.std.specs.Prelude.{option_map}
use Rattle.dpi_grammar.specs.Told.{◌&◌, noted, maybe, each, deeper, elses}
use Rattle.sv_tree.specs.declared.class.Class.TheVariants as classes
use Rattle.sv_tree.specs.declared.expr.Expr.{Expr}
use Rattle.sv_tree.specs.declared.statements.Label.{Label}
use Rattle.sv_tree.specs.declared.statements.Variables.{Variables}
use Rattle.sv_tree.specs.declared.statements.Init.{Init, roll-Init, out-Init, roll-out-Init, fold-roll-Init}
use Rattle.sv_tree.specs.declared.statements.Init.TheOpen.{Init-F}
use Rattle.sv_tree.specs.declared.statements.Stmt.{Stmt, roll-Stmt, out-Stmt, roll-out-Stmt, fold-roll-Stmt}
use Rattle.sv_tree.specs.declared.statements.Block.{Block, roll-Block, fold-roll-Block}
use Rattle.sv_tree.specs.declared.statements.CaseItem.{CaseItem, roll-CaseItem, fold-roll-CaseItem}
use Rattle.sv_tree.specs.declared.statements.Else.{Else, roll-Else, fold-roll-Else}
use Rattle.sv_tree.specs.declared.statements.ElseIf.{ElseIf, roll-ElseIf, fold-roll-ElseIf}
use Rattle.sv_tree.specs.declared.statements.If.{If, roll-If, fold-roll-If}
use Rattle.sv_tree.specs.declared.statements.Stmt.TheOpen.{Stmt-F}
use Rattle.sv_tree.specs.Kinds.{show_class}
use Rattle.sv_tree.specs.Expressions.{Tells, quoted, comma, name_told, expr_told, call_told}
use Rattle.sv_tree.specs.Statements.{label_told, init_step, init_told, variables_told, change_told, start_told, format_told, flat_call_told, condition_told, values_told, some_each, status_told, stmt_step, block_step, item_step, else_step, else_if_step, if_step, stmt_told, block_told, item_told, else_told, else_if_told, if_told}
use Rattle.dpi_grammar.specs.Told.{some_between, kept, words_in}
use Rattle.dpi_grammar.specs.Parser.{first}
use Rattle.std.specs.Prelude.{not}
use Rattle.sv_tree.specs.Classes.{is}

-- ---- trees

abbrev pub block : ℕ → Option Label → List Variables → List Stmt → Option Label → Block
block k l vs ss e = roll-Block (record { token = k; label = l; variables = vs; statements = ss; end = e })

abbrev pub item : ℕ → Option (List Expr) → Stmt → CaseItem
item k vs s = roll-CaseItem (record { token = k; values = vs; body = s })

abbrev pub else_part : ℕ → Stmt → Else
else_part k s = roll-Else (record { token = k; body = s })

abbrev pub else_if : ℕ → Expr → Stmt → ElseIf
else_if k e s = roll-ElseIf (record { token = k; condition = e; body = s })

abbrev pub branch : ℕ → Expr → Stmt → List ElseIf → Option Else → If
branch k e s ps l = roll-If (record { token = k; condition = e; body = s; others = ps; last = l })

-- ---- what they tell

pub block_tells : (k : ℕ) (l : Option Label) (vs : List Variables) (ss : List Stmt) (e : Option Label) → block_told (block k l vs ss e)
    ≡ deeper (noted k & quoted classes.Begin & maybe (option_map label_told l) & each (map variables_told vs) & each (map stmt_told ss) & quoted classes.End & maybe (option_map label_told e))
block_tells k l vs ss e = fold-roll-Block Tells Tells Tells Tells Tells Tells stmt_step block_step item_step else_step else_if_step if_step _

pub item_tells : (k : ℕ) (vs : Option (List Expr)) (s : Stmt) → item_told (item k vs s) ≡ noted k & values_told vs & quoted classes.Colon & stmt_told s
item_tells k vs s = fold-roll-CaseItem Tells Tells Tells Tells Tells Tells stmt_step block_step item_step else_step else_if_step if_step _

pub else_tells : (k : ℕ) (s : Stmt) → else_told (else_part k s) ≡ noted k & quoted classes.Else & kept (not (is classes.If (first (words_in (stmt_told s).atoms)))) & stmt_told s
else_tells k s = fold-roll-Else Tells Tells Tells Tells Tells Tells stmt_step block_step item_step else_step else_if_step if_step _

pub else_if_tells : (k : ℕ) (e : Expr) (s : Stmt) → else_if_told (else_if k e s) ≡ noted k & quoted classes.Else & quoted classes.If & condition_told e & stmt_told s
else_if_tells k e s = fold-roll-ElseIf Tells Tells Tells Tells Tells Tells stmt_step block_step item_step else_step else_if_step if_step _

pub if_tells : (k : ℕ) (e : Expr) (s : Stmt) (ps : List ElseIf) (l : Option Else) → if_told (branch k e s ps l)
    ≡ deeper (noted k & quoted classes.If & condition_told e & stmt_told s & elses (stmt_told s).unended (map else_if_told ps) (option_map else_told l))
if_tells k e s ps None = fold-roll-If Tells Tells Tells Tells Tells Tells stmt_step block_step item_step else_step else_if_step if_step _
if_tells k e s ps (Some l) = fold-roll-If Tells Tells Tells Tells Tells Tells stmt_step block_step item_step else_step else_if_step if_step _

-- a layer of a statement
abbrev pub Layer : Type 0
Layer = Stmt-F Stmt Block CaseItem Else ElseIf If

-- with what its parts tell
abbrev pub layer_told : Layer → Tells
layer_told (Stmt-F.Empty k) = noted k & quoted classes.Semicolon
layer_told (Stmt-F.Block b) = block_told b
layer_told (Stmt-F.If i) = if_told i
layer_told (Stmt-F.Case k e is) = deeper (noted k & quoted classes.Case & condition_told e & some_each (map item_told is) & quoted classes.EndCase)
layer_told (Stmt-F.While k e s) = deeper (noted k & quoted classes.While & condition_told e & stmt_told s)
layer_told (Stmt-F.Repeat k e s) = deeper (noted k & quoted classes.Repeat & condition_told e & stmt_told s)
layer_told (Stmt-F.Forever k s) = deeper (noted k & quoted classes.Forever & stmt_told s)
layer_told (Stmt-F.For k a e c s) =
    deeper (noted k & quoted classes.For & quoted classes.OpenParen & start_told a & quoted classes.Semicolon & expr_told e & quoted classes.Semicolon & change_told c & quoted classes.CloseParen & stmt_told s)
layer_told (Stmt-F.Return k e) = noted k & quoted classes.Return & maybe (option_map expr_told e) & quoted classes.Semicolon
layer_told (Stmt-F.Break k) = noted k & quoted classes.Break & quoted classes.Semicolon
layer_told (Stmt-F.Continue k) = noted k & quoted classes.Continue & quoted classes.Semicolon
layer_told (Stmt-F.Disable k n) = noted k & quoted classes.Disable & name_told n & quoted classes.Semicolon
layer_told (Stmt-F.Finish k n) = noted k & quoted classes.Finish & maybe (option_map status_told n) & quoted classes.Semicolon
layer_told (Stmt-F.Show k w) = noted k & quoted (show_class w) & quoted classes.Semicolon
layer_told (Stmt-F.ShowActuals k w o f) = noted k & quoted (show_class w) & noted o & quoted classes.OpenParen & maybe (option_map format_told f) & quoted classes.CloseParen & quoted classes.Semicolon
layer_told (Stmt-F.Void k c) =
    deeper (noted k & quoted classes.Void & quoted classes.Tick & quoted classes.OpenParen & flat_call_told c & quoted classes.CloseParen & quoted classes.Semicolon)
layer_told (Stmt-F.Call c) = call_told c & quoted classes.Semicolon
layer_told (Stmt-F.Name n) = name_told n & quoted classes.Semicolon
layer_told (Stmt-F.Change c) = change_told c & quoted classes.Semicolon

layer_tells : (l : Layer) → stmt_told (roll-Stmt l) ≡ layer_told l
layer_tells (Stmt-F.Empty k) = fold-roll-Stmt Tells Tells Tells Tells Tells Tells stmt_step block_step item_step else_step else_if_step if_step _
layer_tells (Stmt-F.Block b) = fold-roll-Stmt Tells Tells Tells Tells Tells Tells stmt_step block_step item_step else_step else_if_step if_step _
layer_tells (Stmt-F.If i) = fold-roll-Stmt Tells Tells Tells Tells Tells Tells stmt_step block_step item_step else_step else_if_step if_step _
layer_tells (Stmt-F.Case k e is) = fold-roll-Stmt Tells Tells Tells Tells Tells Tells stmt_step block_step item_step else_step else_if_step if_step _
layer_tells (Stmt-F.While k e s) = fold-roll-Stmt Tells Tells Tells Tells Tells Tells stmt_step block_step item_step else_step else_if_step if_step _
layer_tells (Stmt-F.Repeat k e s) = fold-roll-Stmt Tells Tells Tells Tells Tells Tells stmt_step block_step item_step else_step else_if_step if_step _
layer_tells (Stmt-F.Forever k s) = fold-roll-Stmt Tells Tells Tells Tells Tells Tells stmt_step block_step item_step else_step else_if_step if_step _
layer_tells (Stmt-F.For k a e c s) = fold-roll-Stmt Tells Tells Tells Tells Tells Tells stmt_step block_step item_step else_step else_if_step if_step _
layer_tells (Stmt-F.Return k e) = fold-roll-Stmt Tells Tells Tells Tells Tells Tells stmt_step block_step item_step else_step else_if_step if_step _
layer_tells (Stmt-F.Break k) = fold-roll-Stmt Tells Tells Tells Tells Tells Tells stmt_step block_step item_step else_step else_if_step if_step _
layer_tells (Stmt-F.Continue k) = fold-roll-Stmt Tells Tells Tells Tells Tells Tells stmt_step block_step item_step else_step else_if_step if_step _
layer_tells (Stmt-F.Disable k n) = fold-roll-Stmt Tells Tells Tells Tells Tells Tells stmt_step block_step item_step else_step else_if_step if_step _
layer_tells (Stmt-F.Finish k n) = fold-roll-Stmt Tells Tells Tells Tells Tells Tells stmt_step block_step item_step else_step else_if_step if_step _
layer_tells (Stmt-F.Show k w) = fold-roll-Stmt Tells Tells Tells Tells Tells Tells stmt_step block_step item_step else_step else_if_step if_step _
layer_tells (Stmt-F.ShowActuals k w o f) = fold-roll-Stmt Tells Tells Tells Tells Tells Tells stmt_step block_step item_step else_step else_if_step if_step _
layer_tells (Stmt-F.Void k c) = fold-roll-Stmt Tells Tells Tells Tells Tells Tells stmt_step block_step item_step else_step else_if_step if_step _
layer_tells (Stmt-F.Call c) = fold-roll-Stmt Tells Tells Tells Tells Tells Tells stmt_step block_step item_step else_step else_if_step if_step _
layer_tells (Stmt-F.Name n) = fold-roll-Stmt Tells Tells Tells Tells Tells Tells stmt_step block_step item_step else_step else_if_step if_step _
layer_tells (Stmt-F.Change c) = fold-roll-Stmt Tells Tells Tells Tells Tells Tells stmt_step block_step item_step else_step else_if_step if_step _

pub stmt_tells : (z : Stmt) (l : Layer) → out-Stmt z ≡ l → stmt_told z ≡ layer_told l
stmt_tells z l e = ap stmt_told (sym (roll-out-Stmt z)) ∙ layer_tells (out-Stmt z) ∙ ap layer_told e

-- ---- inits

abbrev pub InitLayer : Type 0
InitLayer = Init-F Init

abbrev pub init_layer_told : InitLayer → Tells
init_layer_told (Init-F.Value e) = expr_told e
init_layer_told (Init-F.Pattern k is) = deeper (noted k & quoted classes.Pattern & some_between comma (map init_told is) & quoted classes.CloseBrace)

init_layer_tells : (l : InitLayer) → init_told (roll-Init l) ≡ init_layer_told l
init_layer_tells (Init-F.Value e) = fold-roll-Init Tells init_step _
init_layer_tells (Init-F.Pattern k is) = fold-roll-Init Tells init_step _

pub init_tells : (z : Init) (l : InitLayer) → out-Init z ≡ l → init_told z ≡ init_layer_told l
init_tells z l e = ap init_told (sym (roll-out-Init z)) ∙ init_layer_tells (out-Init z) ∙ ap init_layer_told e

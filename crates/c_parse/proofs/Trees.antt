-- What each production of statements tells, as equations; and the trees of each type.
use Rattle.std.proofs.Common.{◌≡◌, ℕ, List, map, not, Option, Some, None, sym, ap, ◌∙◌}
use Rattle.std.specs.Prelude.{option_map}
use Rattle.dpi_grammar.specs.Told.{◌&◌, noted, kept, maybe, each, deeper, elses, words_in}
use Rattle.dpi_grammar.specs.Parser.{first}
use Rattle.c_tree.specs.declared.class.Class.TheVariants as classes
use Rattle.c_tree.specs.declared.expr.CExpr.{CExpr}
use Rattle.c_tree.specs.declared.statements.Stmt.{Stmt, roll-Stmt, out-Stmt, roll-out-Stmt, fold-roll-Stmt}
use Rattle.c_tree.specs.declared.statements.Block.{Block, roll-Block, fold-roll-Block}
use Rattle.c_tree.specs.declared.statements.Part.{Part, roll-Part, out-Part, roll-out-Part, fold-roll-Part}
use Rattle.c_tree.specs.declared.statements.Else.{Else, roll-Else, fold-roll-Else}
use Rattle.c_tree.specs.declared.statements.ElseIf.{ElseIf, roll-ElseIf, fold-roll-ElseIf}
use Rattle.c_tree.specs.declared.statements.If.{If, roll-If, fold-roll-If}
use Rattle.c_tree.specs.declared.statements.Part.TheOpen.{Stmt-F, Part-F}
use Rattle.c_tree.specs.Classes.{is}
use Rattle.c_tree.specs.Leaves.{Tells, quoted}
use Rattle.c_tree.specs.Expressions.{expr_told}
use Rattle.c_tree.specs.Declarations.{variables_told}
use Rattle.c_tree.specs.Statements.{condition_told, start_told, stmt_step, block_step, part_step, else_if_step, else_step, if_step, stmt_told, block_told, part_told, else_if_told, if_told, else_told}

-- ---- trees

abbrev pub block : ℕ → List Part → ℕ → Block
block k ps j = roll-Block (record { token = k; parts = ps; end = j })

abbrev pub else_if : ℕ → CExpr → Stmt → ElseIf
else_if k e s = roll-ElseIf (record { token = k; condition = e; body = s })

abbrev pub last_else : ℕ → Stmt → Else
last_else k s = roll-Else (record { token = k; body = s })

abbrev pub branch : ℕ → CExpr → Stmt → List ElseIf → Option Else → If
branch k e s ps l = roll-If (record { token = k; condition = e; body = s; others = ps; last = l })

-- ---- what they tell

pub block_tells : (k : ℕ) (ps : List Part) (j : ℕ) → block_told (block k ps j) ≡ deeper (noted k & quoted classes.OpenBrace & each (map part_told ps) & noted j & quoted classes.CloseBrace)
block_tells k ps j = fold-roll-Block Tells Tells Tells Tells Tells Tells part_step stmt_step block_step else_step else_if_step if_step _

pub else_if_tells : (k : ℕ) (e : CExpr) (s : Stmt) → else_if_told (else_if k e s) ≡ noted k & quoted classes.Else & quoted classes.If & condition_told e & stmt_told s
else_if_tells k e s = fold-roll-ElseIf Tells Tells Tells Tells Tells Tells part_step stmt_step block_step else_step else_if_step if_step _

pub else_tells : (k : ℕ) (s : Stmt) → else_told (last_else k s) ≡ noted k & quoted classes.Else & kept (not (is classes.If (first (words_in (stmt_told s).atoms)))) & stmt_told s
else_tells k s = fold-roll-Else Tells Tells Tells Tells Tells Tells part_step stmt_step block_step else_step else_if_step if_step _

pub branch_tells : (k : ℕ) (e : CExpr) (s : Stmt) (ps : List ElseIf) (l : Option Else)
    → if_told (branch k e s ps l) ≡ deeper (noted k & quoted classes.If & condition_told e & stmt_told s & elses (stmt_told s).unended (map else_if_told ps) (option_map else_told l))
branch_tells k e s ps None = fold-roll-If Tells Tells Tells Tells Tells Tells part_step stmt_step block_step else_step else_if_step if_step _
branch_tells k e s ps (Some l) = fold-roll-If Tells Tells Tells Tells Tells Tells part_step stmt_step block_step else_step else_if_step if_step _

-- ---- layers, with what their parts tell

abbrev pub Layer : Type 0
Layer = Stmt-F Part Stmt Block Else ElseIf If

abbrev pub layer_told : Layer → Tells
layer_told (Stmt-F.Empty k) = noted k & quoted classes.Semicolon
layer_told (Stmt-F.Block b) = block_told b
layer_told (Stmt-F.Expr e) = expr_told e & quoted classes.Semicolon
layer_told (Stmt-F.If i) = if_told i
layer_told (Stmt-F.While k e s) = deeper (noted k & quoted classes.While & condition_told e & stmt_told s)
layer_told (Stmt-F.Do k s j e) = deeper (noted k & quoted classes.Do & stmt_told s & noted j & quoted classes.While & condition_told e & quoted classes.Semicolon)
layer_told (Stmt-F.For k a e c s) =
    deeper (noted k & quoted classes.For & quoted classes.OpenParen & start_told a & maybe (option_map expr_told e) & quoted classes.Semicolon & maybe (option_map expr_told c) & quoted classes.CloseParen & stmt_told s)
layer_told (Stmt-F.Return k e) = noted k & quoted classes.Return & maybe (option_map expr_told e) & quoted classes.Semicolon
layer_told (Stmt-F.Break k) = noted k & quoted classes.Break & quoted classes.Semicolon
layer_told (Stmt-F.Continue k) = noted k & quoted classes.Continue & quoted classes.Semicolon

layer_tells : (l : Layer) → stmt_told (roll-Stmt l) ≡ layer_told l
layer_tells (Stmt-F.Empty k) = fold-roll-Stmt Tells Tells Tells Tells Tells Tells part_step stmt_step block_step else_step else_if_step if_step _
layer_tells (Stmt-F.Block b) = fold-roll-Stmt Tells Tells Tells Tells Tells Tells part_step stmt_step block_step else_step else_if_step if_step _
layer_tells (Stmt-F.Expr e) = fold-roll-Stmt Tells Tells Tells Tells Tells Tells part_step stmt_step block_step else_step else_if_step if_step _
layer_tells (Stmt-F.If i) = fold-roll-Stmt Tells Tells Tells Tells Tells Tells part_step stmt_step block_step else_step else_if_step if_step _
layer_tells (Stmt-F.While k e s) = fold-roll-Stmt Tells Tells Tells Tells Tells Tells part_step stmt_step block_step else_step else_if_step if_step _
layer_tells (Stmt-F.Do k s j e) = fold-roll-Stmt Tells Tells Tells Tells Tells Tells part_step stmt_step block_step else_step else_if_step if_step _
layer_tells (Stmt-F.For k a e c s) = fold-roll-Stmt Tells Tells Tells Tells Tells Tells part_step stmt_step block_step else_step else_if_step if_step _
layer_tells (Stmt-F.Return k e) = fold-roll-Stmt Tells Tells Tells Tells Tells Tells part_step stmt_step block_step else_step else_if_step if_step _
layer_tells (Stmt-F.Break k) = fold-roll-Stmt Tells Tells Tells Tells Tells Tells part_step stmt_step block_step else_step else_if_step if_step _
layer_tells (Stmt-F.Continue k) = fold-roll-Stmt Tells Tells Tells Tells Tells Tells part_step stmt_step block_step else_step else_if_step if_step _

pub stmt_tells : (s : Stmt) (l : Layer) → out-Stmt s ≡ l → stmt_told s ≡ layer_told l
stmt_tells s l e = ap stmt_told (sym (roll-out-Stmt s)) ∙ layer_tells (out-Stmt s) ∙ ap layer_told e

-- a layer of a part of a block
abbrev pub PartLayer : Type 0
PartLayer = Part-F Part Stmt Block Else ElseIf If

abbrev pub part_layer_told : PartLayer → Tells
part_layer_told (Part-F.Variables v) = variables_told v
part_layer_told (Part-F.Stmt s) = stmt_told s

part_layer_tells : (l : PartLayer) → part_told (roll-Part l) ≡ part_layer_told l
part_layer_tells (Part-F.Variables v) = fold-roll-Part Tells Tells Tells Tells Tells Tells part_step stmt_step block_step else_step else_if_step if_step _
part_layer_tells (Part-F.Stmt s) = fold-roll-Part Tells Tells Tells Tells Tells Tells part_step stmt_step block_step else_step else_if_step if_step _

pub part_tells : (p : Part) (l : PartLayer) → out-Part p ≡ l → part_told p ≡ part_layer_told l
part_tells p l e = ap part_told (sym (roll-out-Part p)) ∙ part_layer_tells (out-Part p) ∙ ap part_layer_told e

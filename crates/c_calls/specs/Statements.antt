-- Refused calls in declarations and statements.
use Rattle.std.specs.Prelude.{ℕ, Option, Some, None, List, [], ◌++◌, map}
use Rattle.c_tree.specs.declared.expr.CExpr.{CExpr}
use Rattle.c_tree.specs.declared.declarations.Init.{Init}
use Rattle.c_tree.specs.declared.declarations.Init.TheVariants as inits
use Rattle.c_tree.specs.declared.declarations.Initializer.{Initializer}
use Rattle.c_tree.specs.declared.declarations.Declarator.{Declarator}
use Rattle.c_tree.specs.declared.declarations.Variables.{Variables}
use Rattle.c_tree.specs.declared.statements.Start.{Start}
use Rattle.c_tree.specs.declared.statements.Start.TheVariants as starts
use Rattle.c_tree.specs.declared.statements.Stmt.{Stmt, fold-Stmt}
use Rattle.c_tree.specs.declared.statements.Block.{Block, fold-Block}
use Rattle.c_tree.specs.declared.statements.Part.{Part, fold-Part}
use Rattle.c_tree.specs.declared.statements.Else.{Else, fold-Else}
use Rattle.c_tree.specs.declared.statements.ElseIf.{ElseIf, fold-ElseIf}
use Rattle.c_tree.specs.declared.statements.If.{If, fold-If}
use Rattle.c_tree.specs.declared.statements.Part.TheOpen.{Stmt-F, Block-F, Else-F, ElseIf-F, If-F, Part-F}
use Rattle.c_calls.specs.Refusals.{Rules}
use Rattle.c_calls.specs.Expressions.{Broken, all_of, where_there, in_expr, in_optional}

module _ (file : ℕ) (rules : Rules) where
  -- ---- declarations: their initialisers

  abbrev pub in_init : Init → Broken
  in_init (inits.Value e) = in_expr file rules e
  in_init (inits.List k es) = all_of (map (in_expr file rules) es)

  abbrev pub in_initializer : Option Initializer → Broken
  in_initializer None = []
  in_initializer (Some i) = in_init i.value

  abbrev pub in_declarator : Declarator → Broken
  in_declarator d = in_initializer d.initializer

  abbrev pub in_variables : Variables → Broken
  in_variables v = all_of (map in_declarator v.declarators)

  -- what a `for` begins with
  abbrev pub in_start : Start → Broken
  in_start (starts.Variables v) = in_variables v
  in_start (starts.Expr e) = in_optional file rules e

  -- the head of a `for`
  abbrev pub in_head : Start → Option CExpr → Option CExpr → Broken
  in_head a e c = in_start a ++ in_optional file rules e ++ in_optional file rules c

  -- a condition, and what stands behind it
  abbrev pub guarded : CExpr → Broken → Broken
  guarded e body = in_expr file rules e ++ body

  -- a `for`, and its body
  abbrev pub in_for : Start → Option CExpr → Option CExpr → Broken → Broken
  in_for a e c body = in_head a e c ++ body

  -- ---- statements, with what each part of theirs breaks

  abbrev pub stmt_step : Stmt-F Broken Broken Broken Broken Broken Broken → Broken
  stmt_step (Stmt-F.Empty k) = []
  stmt_step (Stmt-F.Block b) = b
  stmt_step (Stmt-F.Expr e) = in_expr file rules e
  stmt_step (Stmt-F.If i) = i
  stmt_step (Stmt-F.While k e s) = guarded e s
  stmt_step (Stmt-F.Do k s j e) = guarded e s
  stmt_step (Stmt-F.For k a e c s) = in_for a e c s
  stmt_step (Stmt-F.Return k e) = in_optional file rules e
  stmt_step (Stmt-F.Break k) = []
  stmt_step (Stmt-F.Continue k) = []

  abbrev pub block_step : Block-F Broken Broken Broken Broken Broken Broken → Broken
  block_step b = all_of b.parts

  abbrev pub part_step : Part-F Broken Broken Broken Broken Broken Broken → Broken
  part_step (Part-F.Variables v) = in_variables v
  part_step (Part-F.Stmt s) = s

  abbrev pub else_if_step : ElseIf-F Broken Broken Broken Broken Broken Broken → Broken
  else_if_step p = guarded p.condition p.body

  abbrev pub else_step : Else-F Broken Broken Broken Broken Broken Broken → Broken
  else_step e = e.body

  abbrev pub if_step : If-F Broken Broken Broken Broken Broken Broken → Broken
  if_step i = guarded i.condition i.body ++ all_of i.others ++ where_there i.last

  -- ---- the refused calls in each kind of statement

  abbrev pub in_stmt : Stmt → Broken
  in_stmt = fold-Stmt Broken Broken Broken Broken Broken Broken part_step stmt_step block_step else_step else_if_step if_step

  abbrev pub in_block : Block → Broken
  in_block = fold-Block Broken Broken Broken Broken Broken Broken part_step stmt_step block_step else_step else_if_step if_step

  abbrev pub in_part : Part → Broken
  in_part = fold-Part Broken Broken Broken Broken Broken Broken part_step stmt_step block_step else_step else_if_step if_step

  abbrev pub in_else_if : ElseIf → Broken
  in_else_if = fold-ElseIf Broken Broken Broken Broken Broken Broken part_step stmt_step block_step else_step else_if_step if_step

  abbrev pub in_else : Else → Broken
  in_else = fold-Else Broken Broken Broken Broken Broken Broken part_step stmt_step block_step else_step else_if_step if_step

  abbrev pub in_if : If → Broken
  in_if = fold-If Broken Broken Broken Broken Broken Broken part_step stmt_step block_step else_step else_if_step if_step

-- Statements (ISO C 6.8).
use Rattle.std.specs.Prelude.{false, Option, Some, None, List, [], ◌++◌, flat_map}
use Rattle.c_base.specs.declared.ctype.CType.{CType}
use Rattle.c_tree.specs.declared.expr.CExpr.{CExpr}
use Rattle.c_tree.specs.declared.statements.Start.{Start}
use Rattle.c_tree.specs.declared.statements.Start.TheVariants as starts
use Rattle.c_tree.specs.declared.statements.Stmt.{Stmt, fold-Stmt}
use Rattle.c_tree.specs.declared.statements.Block.{Block, fold-Block}
use Rattle.c_tree.specs.declared.statements.Part.{Part, fold-Part}
use Rattle.c_tree.specs.declared.statements.Else.{Else, fold-Else}
use Rattle.c_tree.specs.declared.statements.ElseIf.{ElseIf, fold-ElseIf}
use Rattle.c_tree.specs.declared.statements.If.{If, fold-If}
use Rattle.c_tree.specs.declared.statements.Part.TheOpen.{Stmt-F, Block-F, Else-F, ElseIf-F, If-F, Part-F}
use Rattle.c_judge.specs.Judge.{judge, value_violations, condition_violations}
use Rattle.c_walk.specs.Sight.{Walks, Breaks, stays, both, in_turn, scoped}
use Rattle.c_walk.specs.Around.{Around, env}
use Rattle.c_walk.specs.Declarations.{variables_walk}

-- what each of them breaks
abbrev pub each_of : List Breaks → Breaks
each_of bs names = flat_map (λ b. b names) bs

abbrev pub maybe_of : Option Breaks → Breaks
maybe_of None names = []
maybe_of (Some b) names = b names

-- ---- expressions in statements

abbrev pub expr_breaks : Around → CExpr → Breaks
expr_breaks a e names = (judge (env a names) e).found

abbrev pub condition_breaks : Around → CExpr → Breaks
condition_breaks a e names = condition_violations (env a names) e

abbrev pub maybe_expr : Around → Option CExpr → Breaks
maybe_expr a None names = []
maybe_expr a (Some e) names = expr_breaks a e names

abbrev pub maybe_condition : Around → Option CExpr → Breaks
maybe_condition a None names = []
maybe_condition a (Some e) names = condition_breaks a e names

-- a value that is converted to a type
abbrev pub value_breaks : Around → CExpr → Option CType → Breaks
value_breaks a e to names = value_violations (env a names) e to

-- a value that is returned is converted to the function's result
abbrev pub return_breaks : Around → Option CExpr → Breaks
return_breaks a None names = []
return_breaks a (Some e) names = value_breaks a e a.result names

-- what a `for` begins with
abbrev pub start_walk : Around → Start → Walks
start_walk a (starts.Variables v) = variables_walk a false v
start_walk a (starts.Expr e) = stays (maybe_expr a e)

-- the head of a `for`
abbrev pub head_walk : Around → Start → Option CExpr → Option CExpr → Walks
head_walk a start e c = both (both (start_walk a start) (stays (maybe_condition a e))) (stays (maybe_expr a c))

-- a `for`, by what its body breaks: what its head declares is in sight in the head and the body
abbrev pub for_walk : Around → Start → Option CExpr → Option CExpr → Breaks → Walks
for_walk a start e c body = both (head_walk a start e c) (stays body)

-- a condition and the body behind it
abbrev pub guarded : Around → CExpr → Breaks → Breaks
guarded a e body names = condition_breaks a e names ++ body names

module _ (a : Around) where
  -- ---- statements, with what each part of theirs breaks

  abbrev pub stmt_step : Stmt-F Walks Breaks Walks Breaks Breaks Breaks → Breaks
  stmt_step (Stmt-F.Empty k) names = []
  stmt_step (Stmt-F.Block b) names = scoped b names
  stmt_step (Stmt-F.Expr e) names = expr_breaks a e names
  stmt_step (Stmt-F.If i) names = i names
  stmt_step (Stmt-F.While k e s) names = guarded a e s names
  stmt_step (Stmt-F.Do k s j e) names = guarded a e s names
  stmt_step (Stmt-F.For k start e c s) names = scoped (for_walk a start e c s) names
  stmt_step (Stmt-F.Return k e) names = return_breaks a e names
  stmt_step (Stmt-F.Break k) names = []
  stmt_step (Stmt-F.Continue k) names = []

  abbrev pub block_step : Block-F Walks Breaks Walks Breaks Breaks Breaks → Walks
  block_step b = in_turn b.parts

  abbrev pub part_step : Part-F Walks Breaks Walks Breaks Breaks Breaks → Walks
  part_step (Part-F.Variables v) = variables_walk a false v
  part_step (Part-F.Stmt s) = stays s

  abbrev pub else_if_step : ElseIf-F Walks Breaks Walks Breaks Breaks Breaks → Breaks
  else_if_step p names = guarded a p.condition p.body names

  abbrev pub else_step : Else-F Walks Breaks Walks Breaks Breaks Breaks → Breaks
  else_step e names = e.body names

  abbrev pub if_step : If-F Walks Breaks Walks Breaks Breaks Breaks → Breaks
  if_step i names = each_of i.others names ++ guarded a i.condition i.body names ++ maybe_of i.last names

  -- ---- what each kind of statement breaks

  abbrev pub in_stmt : Stmt → Breaks
  in_stmt = fold-Stmt Walks Breaks Walks Breaks Breaks Breaks part_step stmt_step block_step else_step else_if_step if_step

  -- the parts of a block, in the scope that the block begins in
  abbrev pub in_block : Block → Walks
  in_block = fold-Block Walks Breaks Walks Breaks Breaks Breaks part_step stmt_step block_step else_step else_if_step if_step

  abbrev pub in_part : Part → Walks
  in_part = fold-Part Walks Breaks Walks Breaks Breaks Breaks part_step stmt_step block_step else_step else_if_step if_step

  abbrev pub in_else_if : ElseIf → Breaks
  in_else_if = fold-ElseIf Walks Breaks Walks Breaks Breaks Breaks part_step stmt_step block_step else_step else_if_step if_step

  abbrev pub in_else : Else → Breaks
  in_else = fold-Else Walks Breaks Walks Breaks Breaks Breaks part_step stmt_step block_step else_step else_if_step if_step

  abbrev pub in_if : If → Breaks
  in_if = fold-If Walks Breaks Walks Breaks Breaks Breaks part_step stmt_step block_step else_step else_if_step if_step

-- the `else if` parts
abbrev pub others_breaks : Around → List ElseIf → Breaks
others_breaks a ps names = flat_map (λ p. in_else_if a p names) ps

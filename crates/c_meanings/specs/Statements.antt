-- Statements, each where it stands (ISO C 6.8).
use Rattle.std.specs.Prelude.{false, Option, Some, None, List, [], ◌++◌, flat_map}
use Rattle.c_tree.specs.declared.expr.CExpr.{CExpr}
use Rattle.c_tree.specs.declared.statements.Start.{Start}
use Rattle.c_tree.specs.declared.statements.Start.TheVariants as starts
use Rattle.c_tree.specs.declared.statements.Stmt.{Stmt, fold-Stmt}
use Rattle.c_tree.specs.declared.statements.Block.{Block, fold-Block}
use Rattle.c_tree.specs.declared.statements.Part.{Part, fold-Part}
use Rattle.c_tree.specs.declared.statements.Else.{Else, fold-Else}
use Rattle.c_tree.specs.declared.statements.ElseIf.{ElseIf, fold-ElseIf}
use Rattle.c_tree.specs.declared.statements.If.{If, fold-If}
use Rattle.c_tree.specs.declared.statements.Part.TheOpen.{Stmt-F, Block-F, Else-F, ElseIf-F, If-F, Part-F}
use Rattle.c_walk.specs.Around.{Around}
use Rattle.c_meanings.specs.Places.{expr_at, maybe_at}
use Rattle.c_meanings.specs.Sight.{Tells, Says, stays, both, in_turn, scoped}
use Rattle.c_meanings.specs.Declarations.{variables_tell}

-- what each of them tells
abbrev pub each_of : List Says → Says
each_of bs names = flat_map (λ b. b names) bs

abbrev pub maybe_of : Option Says → Says
maybe_of None names = []
maybe_of (Some b) names = b names

abbrev pub expr_says : Around → CExpr → Says
expr_says a e names = expr_at a names e

abbrev pub maybe_says : Around → Option CExpr → Says
maybe_says a e names = maybe_at a names e

-- what a `for` begins with
abbrev pub start_tells : Around → Start → Tells
start_tells a (starts.Variables v) = variables_tell a false v
start_tells a (starts.Expr e) = stays (maybe_says a e)

-- the head of a `for`
abbrev pub head_tells : Around → Start → Option CExpr → Option CExpr → Tells
head_tells a start e c = both (both (start_tells a start) (stays (maybe_says a e))) (stays (maybe_says a c))

-- a `for`, by what its body tells: what its head declares is in sight in the head and the body
abbrev pub for_tells : Around → Start → Option CExpr → Option CExpr → Says → Tells
for_tells a start e c body = both (head_tells a start e c) (stays body)

-- a condition and the body behind it
abbrev pub guarded : Around → CExpr → Says → Says
guarded a e body names = expr_says a e names ++ body names

-- a body and the condition behind it
abbrev pub done_while : Around → CExpr → Says → Says
done_while a e body names = body names ++ expr_says a e names

module _ (a : Around) where
  -- ---- statements, with what each part of theirs tells, in text order

  abbrev pub stmt_step : Stmt-F Tells Says Tells Says Says Says → Says
  stmt_step (Stmt-F.Empty k) names = []
  stmt_step (Stmt-F.Block b) names = scoped b names
  stmt_step (Stmt-F.Expr e) names = expr_says a e names
  stmt_step (Stmt-F.If i) names = i names
  stmt_step (Stmt-F.While k e s) names = guarded a e s names
  stmt_step (Stmt-F.Do k s j e) names = done_while a e s names
  stmt_step (Stmt-F.For k start e c s) names = scoped (for_tells a start e c s) names
  stmt_step (Stmt-F.Return k e) names = maybe_says a e names
  stmt_step (Stmt-F.Break k) names = []
  stmt_step (Stmt-F.Continue k) names = []

  abbrev pub block_step : Block-F Tells Says Tells Says Says Says → Tells
  block_step b = in_turn b.parts

  abbrev pub part_step : Part-F Tells Says Tells Says Says Says → Tells
  part_step (Part-F.Variables v) = variables_tell a false v
  part_step (Part-F.Stmt s) = stays s

  abbrev pub else_if_step : ElseIf-F Tells Says Tells Says Says Says → Says
  else_if_step p names = guarded a p.condition p.body names

  abbrev pub else_step : Else-F Tells Says Tells Says Says Says → Says
  else_step e names = e.body names

  -- the `else if` parts, the first branch, and the last `else`
  abbrev pub if_step : If-F Tells Says Tells Says Says Says → Says
  if_step i names = each_of i.others names ++ guarded a i.condition i.body names ++ maybe_of i.last names

  -- ---- what each kind of statement tells

  abbrev pub in_stmt : Stmt → Says
  in_stmt = fold-Stmt Tells Says Tells Says Says Says part_step stmt_step block_step else_step else_if_step if_step

  -- the parts of a block, in the scope that the block begins in
  abbrev pub in_block : Block → Tells
  in_block = fold-Block Tells Says Tells Says Says Says part_step stmt_step block_step else_step else_if_step if_step

  abbrev pub in_part : Part → Tells
  in_part = fold-Part Tells Says Tells Says Says Says part_step stmt_step block_step else_step else_if_step if_step

  abbrev pub in_else_if : ElseIf → Says
  in_else_if = fold-ElseIf Tells Says Tells Says Says Says part_step stmt_step block_step else_step else_if_step if_step

  abbrev pub in_else : Else → Says
  in_else = fold-Else Tells Says Tells Says Says Says part_step stmt_step block_step else_step else_if_step if_step

  abbrev pub in_if : If → Says
  in_if = fold-If Tells Says Tells Says Says Says part_step stmt_step block_step else_step else_if_step if_step

-- the `else if` parts
abbrev pub others_say : Around → List ElseIf → Says
others_say a ps names = flat_map (λ p. in_else_if a p names) ps

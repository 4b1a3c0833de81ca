-- Jumps, `return` and declarations in statements.
use Rattle.std.specs.Prelude.{ℕ, Bool, true, false, if◌then◌else◌, Option, Some, None, List, [], ◌∷◌, ◌++◌, flat_map}
use Rattle.dpi_rules.specs.Order.{violation}
use Rattle.c_tree.specs.declared.expr.CExpr.{CExpr}
use Rattle.c_tree.specs.declared.statements.Start.{Start}
use Rattle.c_tree.specs.declared.statements.Start.TheVariants as starts
use Rattle.c_tree.specs.declared.statements.Stmt.{Stmt, fold-Stmt}
use Rattle.c_tree.specs.declared.statements.Block.{Block, fold-Block}
use Rattle.c_tree.specs.declared.statements.Part.{Part, fold-Part}
use Rattle.c_tree.specs.declared.statements.Else.{Else, fold-Else}
use Rattle.c_tree.specs.declared.statements.ElseIf.{ElseIf, fold-ElseIf}
use Rattle.c_tree.specs.declared.statements.If.{If, fold-If}
use Rattle.c_tree.specs.declared.statements.Part.TheOpen.{Stmt-F, Block-F, Else-F, ElseIf-F, If-F, Part-F}
use Rattle.c_forms.specs.declared.around.Around.{Around}
use Rattle.c_forms.specs.Declarations.{Broken, variables_violations}

-- a jump out of a loop breaks the rule outside one
abbrev pub jump_violations : ℕ → Around → ℕ → Broken
jump_violations file around token = if around.looped then [] else violation file token 15 ∷ []

-- a value where the function has no result, or none where it has one
abbrev pub return_violations : ℕ → Around → ℕ → Option CExpr → Broken
return_violations file around token None = if around.valued then violation file token 16 ∷ [] else []
return_violations file around token (Some e) = if around.valued then [] else violation file token 16 ∷ []

-- inside a loop
abbrev pub in_loop : Around → Around
in_loop around = record around { looped = true }

-- what a part breaks where it stands
abbrev pub Breaks : Type 0
Breaks = Around → Broken

-- what each of them breaks there
abbrev pub each_at : Around → List Breaks → Broken
each_at around = flat_map (λ b. b around)

abbrev pub maybe_at : Around → Option Breaks → Broken
maybe_at around None = []
maybe_at around (Some b) = b around

-- what a `for` begins with
abbrev pub start_violations : ℕ → Start → Broken
start_violations file (starts.Variables v) = variables_violations file v
start_violations file (starts.Expr e) = []

-- a `for`, with what its body breaks
abbrev pub for_violations : ℕ → Start → Breaks → Breaks
for_violations file start body around = start_violations file start ++ body (in_loop around)

module _ (file : ℕ) where
  -- ---- statements, with what each part of theirs breaks

  abbrev pub stmt_step : Stmt-F Breaks Breaks Breaks Breaks Breaks Breaks → Breaks
  stmt_step (Stmt-F.Empty k) around = []
  stmt_step (Stmt-F.Block b) around = b around
  stmt_step (Stmt-F.Expr e) around = []
  stmt_step (Stmt-F.If i) around = i around
  stmt_step (Stmt-F.While k e s) around = s (in_loop around)
  stmt_step (Stmt-F.Do k s j e) around = s (in_loop around)
  stmt_step (Stmt-F.For k a e c s) around = for_violations file a s around
  stmt_step (Stmt-F.Return k e) around = return_violations file around k e
  stmt_step (Stmt-F.Break k) around = jump_violations file around k
  stmt_step (Stmt-F.Continue k) around = jump_violations file around k

  abbrev pub block_step : Block-F Breaks Breaks Breaks Breaks Breaks Breaks → Breaks
  block_step b around = each_at around b.parts

  abbrev pub part_step : Part-F Breaks Breaks Breaks Breaks Breaks Breaks → Breaks
  part_step (Part-F.Variables v) around = variables_violations file v
  part_step (Part-F.Stmt s) around = s around

  abbrev pub else_if_step : ElseIf-F Breaks Breaks Breaks Breaks Breaks Breaks → Breaks
  else_if_step p around = p.body around

  abbrev pub else_step : Else-F Breaks Breaks Breaks Breaks Breaks Breaks → Breaks
  else_step e around = e.body around

  abbrev pub if_step : If-F Breaks Breaks Breaks Breaks Breaks Breaks → Breaks
  if_step i around = i.body around ++ each_at around i.others ++ maybe_at around i.last

  -- ---- what each kind of statement breaks

  abbrev pub in_stmt : Stmt → Breaks
  in_stmt = fold-Stmt Breaks Breaks Breaks Breaks Breaks Breaks part_step stmt_step block_step else_step else_if_step if_step

  abbrev pub in_block : Block → Breaks
  in_block = fold-Block Breaks Breaks Breaks Breaks Breaks Breaks part_step stmt_step block_step else_step else_if_step if_step

  abbrev pub in_part : Part → Breaks
  in_part = fold-Part Breaks Breaks Breaks Breaks Breaks Breaks part_step stmt_step block_step else_step else_if_step if_step

  abbrev pub in_else_if : ElseIf → Breaks
  in_else_if = fold-ElseIf Breaks Breaks Breaks Breaks Breaks Breaks part_step stmt_step block_step else_step else_if_step if_step

  abbrev pub in_else : Else → Breaks
  in_else = fold-Else Breaks Breaks Breaks Breaks Breaks Breaks part_step stmt_step block_step else_step else_if_step if_step

  abbrev pub in_if : If → Breaks
  in_if = fold-If Breaks Breaks Breaks Breaks Breaks Breaks part_step stmt_step block_step else_step else_if_step if_step

  -- ---- the same, where they stand

  abbrev pub part_at : Around → Part → Broken
  part_at around p = in_part p around

  abbrev pub else_if_at : Around → ElseIf → Broken
  else_if_at around p = in_else_if p around

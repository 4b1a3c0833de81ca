-- Labels, jumps and initialised locals in statements.
use Rattle.std.specs.Prelude.{ℕ, Bool, true, false, not, if◌then◌else◌, Option, Some, None, List, [], ◌∷◌, ◌++◌, map}
use Rattle.dpi_rules.specs.declared.violation.Violation.{Violation}
use Rattle.dpi_rules.specs.Order.{violation}
use Rattle.sv_tree.specs.declared.expr.Expr.{Expr}
use Rattle.sv_tree.specs.declared.statements.Label.{Label}
use Rattle.sv_tree.specs.declared.statements.Declarator.{Declarator}
use Rattle.sv_tree.specs.declared.statements.Initializer.{Initializer}
use Rattle.sv_tree.specs.declared.statements.Variables.{Variables}
use Rattle.sv_tree.specs.declared.statements.Stmt.{Stmt, fold-Stmt}
use Rattle.sv_tree.specs.declared.statements.Block.{Block, fold-Block}
use Rattle.sv_tree.specs.declared.statements.CaseItem.{CaseItem, fold-CaseItem}
use Rattle.sv_tree.specs.declared.statements.Else.{Else, fold-Else}
use Rattle.sv_tree.specs.declared.statements.ElseIf.{ElseIf, fold-ElseIf}
use Rattle.sv_tree.specs.declared.statements.If.{If, fold-If}
use Rattle.sv_tree.specs.declared.statements.Stmt.TheOpen.{Stmt-F, Block-F, CaseItem-F, Else-F, ElseIf-F, If-F}
use Rattle.sv_forms.specs.declared.around.Around.{Around}
use Rattle.sv_forms.specs.declared.around.Surroundings.{Surroundings}
use Rattle.sv_forms.specs.declared.around.Surroundings.TheVariants.{Initial, Plain, Valued}
use Rattle.sv_forms.specs.Calls.{Broken, all_of}
use Rattle.sv_forms.specs.Labels.{block_end_violations}

-- a jump out of a loop breaks the rule outside one
abbrev pub jump_violations : ℕ → Around → ℕ → Broken
jump_violations file around token = if around.looped then [] else violation file token 20 ∷ []

-- a `return` is right in this body: in a subroutine, with a value exactly where it gives one
abbrev pub may_return : Surroundings → Option Expr → Bool
may_return Initial value = false
may_return Plain None = true
may_return Plain (Some e) = false
may_return Valued None = false
may_return Valued (Some e) = true

abbrev pub return_violations : ℕ → Around → ℕ → Option Expr → Broken
return_violations file around token value = if may_return around.body value then [] else violation file token 21 ∷ []

-- an initialised local breaks the rule at its `=` where the body isn't automatic
abbrev pub initial_violations : ℕ → Around → Option Initializer → Broken
initial_violations file around None = []
initial_violations file around (Some i) = if around.automatic then [] else violation file i.token 26 ∷ []

abbrev pub declarator_violations : ℕ → Around → Declarator → Broken
declarator_violations file around d = initial_violations file around d.initializer

-- what locals of one type break
abbrev pub locals_violations : ℕ → Around → Variables → Broken
locals_violations file around v = all_of (map (declarator_violations file around) v.declarators)

-- inside a loop
abbrev pub in_loop : Around → Around
in_loop around = record around { looped = true }

-- what a part breaks where it stands
abbrev pub Breaks : Type 0
Breaks = Around → Broken

-- what each of them breaks there
abbrev pub each_at : Around → List Breaks → Broken
each_at around [] = []
each_at around (b ∷ bs) = b around ++ each_at around bs

abbrev pub maybe_at : Around → Option Breaks → Broken
maybe_at around None = []
maybe_at around (Some b) = b around

module _ (file : ℕ) where
  -- ---- statements, with what each part of theirs breaks

  abbrev pub stmt_step : Stmt-F Breaks Breaks Breaks Breaks Breaks Breaks → Breaks
  stmt_step (Stmt-F.Empty k) around = []
  stmt_step (Stmt-F.Block b) around = b around
  stmt_step (Stmt-F.If i) around = i around
  stmt_step (Stmt-F.Case k e is) around = each_at around is
  stmt_step (Stmt-F.While k e s) around = s (in_loop around)
  stmt_step (Stmt-F.Repeat k e s) around = s (in_loop around)
  stmt_step (Stmt-F.Forever k s) around = s (in_loop around)
  stmt_step (Stmt-F.For k a e c s) around = s (in_loop around)
  stmt_step (Stmt-F.Return k e) around = return_violations file around k e
  stmt_step (Stmt-F.Break k) around = jump_violations file around k
  stmt_step (Stmt-F.Continue k) around = jump_violations file around k
  stmt_step (Stmt-F.Disable k n) around = []
  stmt_step (Stmt-F.Finish k n) around = []
  stmt_step (Stmt-F.Show k w) around = []
  stmt_step (Stmt-F.ShowActuals k w o f) around = []
  stmt_step (Stmt-F.Void k c) around = []
  stmt_step (Stmt-F.Call c) around = []
  stmt_step (Stmt-F.Name n) around = []
  stmt_step (Stmt-F.Change c) around = []

  -- locals, statements and the closing label
  abbrev pub block_step : Block-F Breaks Breaks Breaks Breaks Breaks Breaks → Breaks
  block_step b around =
      all_of (map (locals_violations file around) b.variables)
      ++ each_at around b.statements
      ++ block_end_violations file b.label b.end

  abbrev pub item_step : CaseItem-F Breaks Breaks Breaks Breaks Breaks Breaks → Breaks
  item_step i around = i.body around

  abbrev pub else_if_step : ElseIf-F Breaks Breaks Breaks Breaks Breaks Breaks → Breaks
  else_if_step p around = p.body around

  abbrev pub else_step : Else-F Breaks Breaks Breaks Breaks Breaks Breaks → Breaks
  else_step e around = e.body around

  abbrev pub if_step : If-F Breaks Breaks Breaks Breaks Breaks Breaks → Breaks
  if_step i around = i.body around ++ each_at around i.others ++ maybe_at around i.last

  -- ---- what each kind of statement breaks

  abbrev pub in_stmt : Stmt → Breaks
  in_stmt = fold-Stmt Breaks Breaks Breaks Breaks Breaks Breaks stmt_step block_step item_step else_step else_if_step if_step

  abbrev pub in_block : Block → Breaks
  in_block = fold-Block Breaks Breaks Breaks Breaks Breaks Breaks stmt_step block_step item_step else_step else_if_step if_step

  abbrev pub in_item : CaseItem → Breaks
  in_item = fold-CaseItem Breaks Breaks Breaks Breaks Breaks Breaks stmt_step block_step item_step else_step else_if_step if_step

  abbrev pub in_else_if : ElseIf → Breaks
  in_else_if = fold-ElseIf Breaks Breaks Breaks Breaks Breaks Breaks stmt_step block_step item_step else_step else_if_step if_step

  abbrev pub in_else : Else → Breaks
  in_else = fold-Else Breaks Breaks Breaks Breaks Breaks Breaks stmt_step block_step item_step else_step else_if_step if_step

  abbrev pub in_if : If → Breaks
  in_if = fold-If Breaks Breaks Breaks Breaks Breaks Breaks stmt_step block_step item_step else_step else_if_step if_step

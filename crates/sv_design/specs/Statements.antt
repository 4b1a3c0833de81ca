-- Declarations in statements.
use Rattle.std.specs.Prelude.{ℕ, Option, Some, None, unwrap_or, List, [], ◌++◌, flat_map}
use Rattle.sv_tree.specs.declared.statements.Start.{Start}
use Rattle.sv_tree.specs.declared.statements.Stmt.{Stmt, fold-Stmt}
use Rattle.sv_tree.specs.declared.statements.Block.{Block, fold-Block}
use Rattle.sv_tree.specs.declared.statements.If.{If, fold-If}
use Rattle.sv_tree.specs.declared.statements.Else.{Else, fold-Else}
use Rattle.sv_tree.specs.declared.statements.ElseIf.{ElseIf, fold-ElseIf}
use Rattle.sv_tree.specs.declared.statements.CaseItem.{CaseItem, fold-CaseItem}
use Rattle.sv_tree.specs.declared.statements.Stmt.TheOpen.{Stmt-F, Block-F, CaseItem-F, Else-F, ElseIf-F, If-F}
use Rattle.sv_design.specs.declared.declarations.Declaration.{Declaration}
use Rattle.sv_design.specs.declared.declarations.Owner.{Owner}
use Rattle.sv_design.specs.Declarations.{variables_declarations, start_declarations}

-- what the parts of a statement declare
abbrev pub Ds : Type 0
Ds = List Declaration

-- in turn
abbrev pub in_turn : List Ds → Ds
in_turn = flat_map (λ ds. ds)

module _ (file : ℕ) (owner : Owner) where
  -- a statement declares what its parts do; the variable of a `for` stands before those of its body
  abbrev pub stmt_step : Stmt-F Ds Ds Ds Ds Ds Ds → Ds
  stmt_step (Stmt-F.Empty k) = []
  stmt_step (Stmt-F.Block b) = b
  stmt_step (Stmt-F.If i) = i
  stmt_step (Stmt-F.Case k e is) = in_turn is
  stmt_step (Stmt-F.While k e s) = s
  stmt_step (Stmt-F.Repeat k e s) = s
  stmt_step (Stmt-F.Forever k s) = s
  stmt_step (Stmt-F.For k a e c s) = start_declarations file a ++ s
  stmt_step (Stmt-F.Return k e) = []
  stmt_step (Stmt-F.Break k) = []
  stmt_step (Stmt-F.Continue k) = []
  stmt_step (Stmt-F.Disable k n) = []
  stmt_step (Stmt-F.Finish k n) = []
  stmt_step (Stmt-F.Show k w) = []
  stmt_step (Stmt-F.ShowActuals k w o f) = []
  stmt_step (Stmt-F.Void k c) = []
  stmt_step (Stmt-F.Call c) = []
  stmt_step (Stmt-F.Name n) = []
  stmt_step (Stmt-F.Change c) = []

  -- the variables of a block stand before those in its statements
  abbrev pub block_step : Block-F Ds Ds Ds Ds Ds Ds → Ds
  block_step b = flat_map (variables_declarations file owner) b.variables ++ in_turn b.statements

  abbrev pub item_step : CaseItem-F Ds Ds Ds Ds Ds Ds → Ds
  item_step i = i.body

  abbrev pub else_step : Else-F Ds Ds Ds Ds Ds Ds → Ds
  else_step e = e.body

  abbrev pub else_if_step : ElseIf-F Ds Ds Ds Ds Ds Ds → Ds
  else_if_step p = p.body

  -- the branches in text order
  abbrev pub if_step : If-F Ds Ds Ds Ds Ds Ds → Ds
  if_step i = i.body ++ in_turn i.others ++ unwrap_or i.last []

  -- ---- the declarations in each kind of part, in text order

  abbrev pub in_stmt : Stmt → Ds
  in_stmt = fold-Stmt Ds Ds Ds Ds Ds Ds stmt_step block_step item_step else_step else_if_step if_step

  abbrev pub in_block : Block → Ds
  in_block = fold-Block Ds Ds Ds Ds Ds Ds stmt_step block_step item_step else_step else_if_step if_step

  abbrev pub in_if : If → Ds
  in_if = fold-If Ds Ds Ds Ds Ds Ds stmt_step block_step item_step else_step else_if_step if_step

  abbrev pub in_item : CaseItem → Ds
  in_item = fold-CaseItem Ds Ds Ds Ds Ds Ds stmt_step block_step item_step else_step else_if_step if_step

  abbrev pub in_else_if : ElseIf → Ds
  in_else_if = fold-ElseIf Ds Ds Ds Ds Ds Ds stmt_step block_step item_step else_step else_if_step if_step

  abbrev pub in_else : Else → Ds
  in_else = fold-Else Ds Ds Ds Ds Ds Ds stmt_step block_step item_step else_step else_if_step if_step

  -- the last `else`, if there is one
  abbrev pub in_last : Option Else → Ds
  in_last None = []
  in_last (Some e) = in_else e

  -- a `for` that begins so, and its body
  abbrev pub in_for : Start → Stmt → Ds
  in_for a s = start_declarations file a ++ in_stmt s

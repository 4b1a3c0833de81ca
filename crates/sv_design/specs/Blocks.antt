-- Named blocks in statements.
use Rattle.std.specs.Prelude.{ℕ, Option, Some, None, unwrap_or, List, [], ◌∷◌, ◌++◌, flat_map}
use Rattle.sv_tree.specs.declared.statements.Label.{Label}
use Rattle.sv_tree.specs.declared.statements.Stmt.{Stmt, fold-Stmt}
use Rattle.sv_tree.specs.declared.statements.Block.{Block, fold-Block}
use Rattle.sv_tree.specs.declared.statements.If.{If, fold-If}
use Rattle.sv_tree.specs.declared.statements.Else.{Else, fold-Else}
use Rattle.sv_tree.specs.declared.statements.ElseIf.{ElseIf, fold-ElseIf}
use Rattle.sv_tree.specs.declared.statements.CaseItem.{CaseItem, fold-CaseItem}
use Rattle.sv_tree.specs.declared.statements.Stmt.TheOpen.{Stmt-F, Block-F, CaseItem-F, Else-F, ElseIf-F, If-F}
use Rattle.sv_design.specs.declared.places.Place.{Place}

-- the blocks of the parts of a statement
abbrev pub Ps : Type 0
Ps = List Place

-- in turn
abbrev pub in_turn : List Ps → Ps
in_turn = flat_map (λ ps. ps)

-- a label behind `begin` names the block
abbrev pub label_place : ℕ → Option Label → Ps
label_place file None = []
label_place file (Some label) = record { file = file; token = label.name.token } ∷ []

module _ (file : ℕ) where
  -- a statement has the blocks of its parts
  abbrev pub stmt_step : Stmt-F Ps Ps Ps Ps Ps Ps → Ps
  stmt_step (Stmt-F.Empty k) = []
  stmt_step (Stmt-F.Block b) = b
  stmt_step (Stmt-F.If i) = i
  stmt_step (Stmt-F.Case k e is) = in_turn is
  stmt_step (Stmt-F.While k e s) = s
  stmt_step (Stmt-F.Repeat k e s) = s
  stmt_step (Stmt-F.Forever k s) = s
  stmt_step (Stmt-F.For k a e c s) = s
  stmt_step (Stmt-F.Return k e) = []
  stmt_step (Stmt-F.Break k) = []
  stmt_step (Stmt-F.Continue k) = []
  stmt_step (Stmt-F.Disable k n) = []
  stmt_step (Stmt-F.Finish k n) = []
  stmt_step (Stmt-F.Show k w) = []
  stmt_step (Stmt-F.ShowActuals k w o f) = []
  stmt_step (Stmt-F.Void k c) = []
  stmt_step (Stmt-F.Call c) = []
  stmt_step (Stmt-F.Name n) = []
  stmt_step (Stmt-F.Change c) = []

  -- a block stands before those in its statements
  abbrev pub block_step : Block-F Ps Ps Ps Ps Ps Ps → Ps
  block_step b = label_place file b.label ++ in_turn b.statements

  abbrev pub item_step : CaseItem-F Ps Ps Ps Ps Ps Ps → Ps
  item_step i = i.body

  abbrev pub else_step : Else-F Ps Ps Ps Ps Ps Ps → Ps
  else_step e = e.body

  abbrev pub else_if_step : ElseIf-F Ps Ps Ps Ps Ps Ps → Ps
  else_if_step p = p.body

  -- the branches in text order
  abbrev pub if_step : If-F Ps Ps Ps Ps Ps Ps → Ps
  if_step i = i.body ++ in_turn i.others ++ unwrap_or i.last []

  -- ---- the named blocks in each kind of part, in text order

  abbrev pub in_stmt : Stmt → Ps
  in_stmt = fold-Stmt Ps Ps Ps Ps Ps Ps stmt_step block_step item_step else_step else_if_step if_step

  abbrev pub in_block : Block → Ps
  in_block = fold-Block Ps Ps Ps Ps Ps Ps stmt_step block_step item_step else_step else_if_step if_step

  abbrev pub in_if : If → Ps
  in_if = fold-If Ps Ps Ps Ps Ps Ps stmt_step block_step item_step else_step else_if_step if_step

  abbrev pub in_item : CaseItem → Ps
  in_item = fold-CaseItem Ps Ps Ps Ps Ps Ps stmt_step block_step item_step else_step else_if_step if_step

  abbrev pub in_else_if : ElseIf → Ps
  in_else_if = fold-ElseIf Ps Ps Ps Ps Ps Ps stmt_step block_step item_step else_step else_if_step if_step

  abbrev pub in_else : Else → Ps
  in_else = fold-Else Ps Ps Ps Ps Ps Ps stmt_step block_step item_step else_step else_if_step if_step

  -- the last `else`, if there is one
  abbrev pub in_last : Option Else → Ps
  in_last None = []
  in_last (Some e) = in_else e

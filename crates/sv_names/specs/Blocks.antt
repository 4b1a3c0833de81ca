-- The named blocks that a statement declares in the scope around it.
use Rattle.std.specs.Prelude.{Option, Some, None, unwrap_or, List, [], ◌∷◌, ◌++◌, flat_map}
use Rattle.sv_tree.specs.declared.statements.Label.{Label}
use Rattle.sv_tree.specs.declared.statements.Stmt.{Stmt, fold-Stmt}
use Rattle.sv_tree.specs.declared.statements.If.{If, fold-If}
use Rattle.sv_tree.specs.declared.statements.Else.{Else, fold-Else}
use Rattle.sv_tree.specs.declared.statements.ElseIf.{ElseIf, fold-ElseIf}
use Rattle.sv_tree.specs.declared.statements.CaseItem.{CaseItem, fold-CaseItem}
use Rattle.sv_tree.specs.declared.statements.Stmt.TheOpen.{Stmt-F, Block-F, CaseItem-F, Else-F, ElseIf-F, If-F}
use Rattle.sv_names.specs.declared.entry.Thing.TheVariants as things
use Rattle.sv_names.specs.Declaring.{Declared, declared}

-- what the parts of a statement declare
abbrev pub Ds : Type 0
Ds = List Declared

-- in turn
abbrev pub in_turn : List Ds → Ds
in_turn = flat_map (λ ds. ds)

-- a label behind `begin` declares the block
abbrev pub label_declares : Option Label → Ds
label_declares None = []
label_declares (Some label) = declared label.name things.Block ∷ []

-- a statement declares what its parts do
abbrev pub stmt_step : Stmt-F Ds Ds Ds Ds Ds Ds → Ds
stmt_step (Stmt-F.Empty k) = []
stmt_step (Stmt-F.Block b) = b
stmt_step (Stmt-F.If i) = i
stmt_step (Stmt-F.Case k e is) = in_turn is
stmt_step (Stmt-F.While k e s) = s
stmt_step (Stmt-F.Repeat k e s) = s
stmt_step (Stmt-F.Forever k s) = s
stmt_step (Stmt-F.For k a e c s) = s
stmt_step (Stmt-F.Return k e) = []
stmt_step (Stmt-F.Break k) = []
stmt_step (Stmt-F.Continue k) = []
stmt_step (Stmt-F.Disable k n) = []
stmt_step (Stmt-F.Finish k n) = []
stmt_step (Stmt-F.Show k w) = []
stmt_step (Stmt-F.ShowActuals k w o f) = []
stmt_step (Stmt-F.Void k c) = []
stmt_step (Stmt-F.Call c) = []
stmt_step (Stmt-F.Name n) = []
stmt_step (Stmt-F.Change c) = []

-- a block declares itself: what its statements declare belongs to the block's own scope
abbrev pub block_step : Block-F Ds Ds Ds Ds Ds Ds → Ds
block_step b = label_declares b.label

abbrev pub item_step : CaseItem-F Ds Ds Ds Ds Ds Ds → Ds
item_step i = i.body

abbrev pub else_step : Else-F Ds Ds Ds Ds Ds Ds → Ds
else_step e = e.body

abbrev pub else_if_step : ElseIf-F Ds Ds Ds Ds Ds Ds → Ds
else_if_step p = p.body

-- the branches in text order
abbrev pub if_step : If-F Ds Ds Ds Ds Ds Ds → Ds
if_step i = i.body ++ in_turn i.others ++ unwrap_or i.last []

-- the named blocks of a statement that no other block of it encloses, in text order
abbrev pub stmt_blocks : Stmt → Ds
stmt_blocks = fold-Stmt Ds Ds Ds Ds Ds Ds stmt_step block_step item_step else_step else_if_step if_step

-- the same of an `if`
abbrev pub if_blocks : If → Ds
if_blocks = fold-If Ds Ds Ds Ds Ds Ds stmt_step block_step item_step else_step else_if_step if_step

-- the same of an item of a `case`
abbrev pub item_blocks : CaseItem → Ds
item_blocks = fold-CaseItem Ds Ds Ds Ds Ds Ds stmt_step block_step item_step else_step else_if_step if_step

-- the same of an `else if` part
abbrev pub else_if_blocks : ElseIf → Ds
else_if_blocks = fold-ElseIf Ds Ds Ds Ds Ds Ds stmt_step block_step item_step else_step else_if_step if_step

-- the same of the last `else`
abbrev pub else_blocks : Else → Ds
else_blocks = fold-Else Ds Ds Ds Ds Ds Ds stmt_step block_step item_step else_step else_if_step if_step

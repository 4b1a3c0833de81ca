-- The declarations of variables inside of functions (ISO C 6.8.2 and 6.8.5.3).
use Rattle.std.specs.Prelude.{unwrap_or, [], ◌∷◌, ◌++◌}
use Rattle.c_tree.specs.declared.statements.Start.{Start}
use Rattle.c_tree.specs.declared.statements.Start.TheVariants as starts
use Rattle.c_tree.specs.declared.statements.Stmt.{Stmt, fold-Stmt}
use Rattle.c_tree.specs.declared.statements.Block.{Block, fold-Block}
use Rattle.c_tree.specs.declared.statements.Part.{Part, fold-Part}
use Rattle.c_tree.specs.declared.statements.Else.{Else, fold-Else}
use Rattle.c_tree.specs.declared.statements.ElseIf.{ElseIf, fold-ElseIf}
use Rattle.c_tree.specs.declared.statements.If.{If, fold-If}
use Rattle.c_tree.specs.declared.statements.Part.TheOpen.{Stmt-F, Block-F, Else-F, ElseIf-F, If-F, Part-F}
use Rattle.c_functions.specs.Inner.{Vs, in_turn}

-- what a `for` begins with
abbrev pub start_variables : Start → Vs
start_variables (starts.Variables v) = v ∷ []
start_variables (starts.Expr e) = []

-- ---- statements, with what is inside each part of theirs

abbrev pub stmt_step : Stmt-F Vs Vs Vs Vs Vs Vs → Vs
stmt_step (Stmt-F.Empty k) = []
stmt_step (Stmt-F.Block b) = b
stmt_step (Stmt-F.Expr e) = []
stmt_step (Stmt-F.If i) = i
stmt_step (Stmt-F.While k e s) = s
stmt_step (Stmt-F.Do k s j e) = s
stmt_step (Stmt-F.For k a e c s) = start_variables a ++ s
stmt_step (Stmt-F.Return k e) = []
stmt_step (Stmt-F.Break k) = []
stmt_step (Stmt-F.Continue k) = []

abbrev pub block_step : Block-F Vs Vs Vs Vs Vs Vs → Vs
block_step b = in_turn b.parts

abbrev pub part_step : Part-F Vs Vs Vs Vs Vs Vs → Vs
part_step (Part-F.Variables v) = v ∷ []
part_step (Part-F.Stmt s) = s

abbrev pub else_if_step : ElseIf-F Vs Vs Vs Vs Vs Vs → Vs
else_if_step p = p.body

abbrev pub else_step : Else-F Vs Vs Vs Vs Vs Vs → Vs
else_step e = e.body

abbrev pub if_step : If-F Vs Vs Vs Vs Vs Vs → Vs
if_step i = i.body ++ in_turn i.others ++ unwrap_or i.last []

-- ---- the declarations inside of each kind of statement

abbrev pub in_stmt : Stmt → Vs
in_stmt = fold-Stmt Vs Vs Vs Vs Vs Vs part_step stmt_step block_step else_step else_if_step if_step

abbrev pub in_block : Block → Vs
in_block = fold-Block Vs Vs Vs Vs Vs Vs part_step stmt_step block_step else_step else_if_step if_step

abbrev pub in_part : Part → Vs
in_part = fold-Part Vs Vs Vs Vs Vs Vs part_step stmt_step block_step else_step else_if_step if_step

abbrev pub in_else_if : ElseIf → Vs
in_else_if = fold-ElseIf Vs Vs Vs Vs Vs Vs part_step stmt_step block_step else_step else_if_step if_step

abbrev pub in_else : Else → Vs
in_else = fold-Else Vs Vs Vs Vs Vs Vs part_step stmt_step block_step else_step else_if_step if_step

abbrev pub in_if : If → Vs
in_if = fold-If Vs Vs Vs Vs Vs Vs part_step stmt_step block_step else_step else_if_step if_step

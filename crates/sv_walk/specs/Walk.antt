-- What statements violate by the names, shapes and types in them.
use Rattle.std.specs.Prelude.{ℕ, Option, Some, None, List, [], ◌++◌, map, flat_map}
use Rattle.dpi_rules.specs.declared.violation.Violation.{Violation}
use Rattle.sv_tree.specs.declared.expr.Expr.{Expr}
use Rattle.sv_tree.specs.declared.statements.Variables.{Variables}
use Rattle.sv_tree.specs.declared.statements.Start.{Start}
use Rattle.sv_tree.specs.declared.statements.Change.{Change}
use Rattle.sv_tree.specs.declared.statements.Stmt.{Stmt}
use Rattle.sv_tree.specs.declared.statements.Block.{Block}
use Rattle.sv_tree.specs.declared.statements.CaseItem.{CaseItem}
use Rattle.sv_tree.specs.declared.statements.Else.{Else}
use Rattle.sv_tree.specs.declared.statements.ElseIf.{ElseIf}
use Rattle.sv_tree.specs.declared.statements.If.{If}
use Rattle.sv_tree.specs.declared.statements.Stmt.TheFolds.{para-Stmt, para-Block, para-CaseItem, para-Else, para-ElseIf, para-If}
use Rattle.sv_tree.specs.declared.statements.Stmt.TheOpen.{Stmt-F, Block-F, CaseItem-F, Else-F, ElseIf-F, If-F}
use Rattle.sv_names.specs.Names.{no_names}
use Rattle.sv_names.specs.Declaring.{seconds}
use Rattle.sv_names.specs.Declarations.{body_declares, start_declares}
use Rattle.sv_walk.specs.Around.{Inside, env, within}
use Rattle.sv_walk.specs.Declarations.{variables_violations}
use Rattle.sv_walk.specs.Changes.{change_violations, head_violations}
use Rattle.sv_walk.specs.Heads.{condition_violations, count_violations, compared, compared_violations}
use Rattle.sv_walk.specs.Plain.{return_violations, disable_violations, show_violations, call_violations, name_violations}

-- what a part violates where it stands
abbrev pub Breaks : Type 0
Breaks = Inside → List Violation

-- a part, with what it violates
abbrev pub Part : Type 0 → Type 0
Part A = A × Breaks

-- what each of them violates there
abbrev pub each_at : {A : Type 0} → Inside → List (Part A) → List Violation
each_at i ps = flat_map (λ p. p.1 i) ps

abbrev pub maybe_at : {A : Type 0} → Inside → Option (Part A) → List Violation
maybe_at i None = []
maybe_at i (Some p) = p.1 i

-- the parts alone
abbrev pub parts : {A : Type 0} → List (Part A) → List A
parts ps = map (λ p. p.0) ps

-- conditions, values and names in a statement, and what its parts violate; the scope of a `for` holds all of it
abbrev pub stmt_step : Stmt-F (Part Stmt) (Part Block) (Part CaseItem) (Part Else) (Part ElseIf) (Part If) → Breaks
stmt_step (Stmt-F.Empty k) i = []
stmt_step (Stmt-F.Block b) i = b.1 i
stmt_step (Stmt-F.If f) i = f.1 i
stmt_step (Stmt-F.Case k e items) i = compared_violations (env i) k (compared e (parts items)) ++ each_at i items
stmt_step (Stmt-F.While k e s) i = condition_violations (env i) e ++ s.1 i
stmt_step (Stmt-F.Repeat k e s) i = count_violations (env i) e ++ s.1 i
stmt_step (Stmt-F.Forever k s) i = s.1 i
stmt_step (Stmt-F.For k a e c s) i =
    head_violations (env (within i (start_declares a))) a e c ++ s.1 (within i (start_declares a))
stmt_step (Stmt-F.Return k e) i = return_violations (env i) i.result e
stmt_step (Stmt-F.Break k) i = []
stmt_step (Stmt-F.Continue k) i = []
stmt_step (Stmt-F.Disable k n) i = disable_violations (env i) n
stmt_step (Stmt-F.Finish k n) i = []
stmt_step (Stmt-F.Show k w) i = []
stmt_step (Stmt-F.ShowActuals k w o f) i = show_violations (env i) f
stmt_step (Stmt-F.Void k c) i = call_violations (env i) c
stmt_step (Stmt-F.Call c) i = call_violations (env i) c
stmt_step (Stmt-F.Name n) i = name_violations (env i) n
stmt_step (Stmt-F.Change c) i = change_violations (env i) c

-- variables, then statements
abbrev pub all_in : {A : Type 0} → Inside → List Variables → List (Part A) → List Violation
all_in i vs ps = flat_map (variables_violations (env i)) vs ++ each_at i ps

-- second declarations in the scope of a block, and what stands inside it
abbrev pub block_step : Block-F (Part Stmt) (Part Block) (Part CaseItem) (Part Else) (Part ElseIf) (Part If) → Breaks
block_step b i =
    let ds = body_declares b.variables (parts b.statements) in
    seconds i.file no_names ds ++ all_in (within i ds) b.variables b.statements

abbrev pub item_step : CaseItem-F (Part Stmt) (Part Block) (Part CaseItem) (Part Else) (Part ElseIf) (Part If) → Breaks
item_step item i = item.body.1 i

abbrev pub else_step : Else-F (Part Stmt) (Part Block) (Part CaseItem) (Part Else) (Part ElseIf) (Part If) → Breaks
else_step e i = e.body.1 i

abbrev pub else_if_step : ElseIf-F (Part Stmt) (Part Block) (Part CaseItem) (Part Else) (Part ElseIf) (Part If) → Breaks
else_if_step p i = condition_violations (env i) p.condition ++ p.body.1 i

abbrev pub if_step : If-F (Part Stmt) (Part Block) (Part CaseItem) (Part Else) (Part ElseIf) (Part If) → Breaks
if_step f i = condition_violations (env i) f.condition ++ f.body.1 i ++ each_at i f.others ++ maybe_at i f.last

-- what a statement violates where it stands
abbrev pub in_stmt : Stmt → Breaks
in_stmt = para-Stmt Breaks Breaks Breaks Breaks Breaks Breaks stmt_step block_step item_step else_step else_if_step if_step

abbrev pub in_block : Block → Breaks
in_block = para-Block Breaks Breaks Breaks Breaks Breaks Breaks stmt_step block_step item_step else_step else_if_step if_step

abbrev pub in_item : CaseItem → Breaks
in_item = para-CaseItem Breaks Breaks Breaks Breaks Breaks Breaks stmt_step block_step item_step else_step else_if_step if_step

abbrev pub in_else : Else → Breaks
in_else = para-Else Breaks Breaks Breaks Breaks Breaks Breaks stmt_step block_step item_step else_step else_if_step if_step

abbrev pub in_else_if : ElseIf → Breaks
in_else_if = para-ElseIf Breaks Breaks Breaks Breaks Breaks Breaks stmt_step block_step item_step else_step else_if_step if_step

abbrev pub in_if : If → Breaks
in_if = para-If Breaks Breaks Breaks Breaks Breaks Breaks stmt_step block_step item_step else_step else_if_step if_step

-- what statements violate, each where it stands
abbrev pub in_stmts : List Stmt → Breaks
in_stmts ss i = flat_map (λ s. in_stmt s i) ss

-- the variables and statements of a body, inside its scope
abbrev pub in_body : List Variables → List Stmt → Breaks
in_body vs ss i = flat_map (variables_violations (env i)) vs ++ in_stmts ss i

-- the last `else`, if there is one
abbrev pub last_violations : Option Else → Breaks
last_violations None i = []
last_violations (Some l) i = in_else l i

-- a condition, and the statement behind it
abbrev pub while_violations : Expr → Stmt → Breaks
while_violations e s i = condition_violations (env i) e ++ in_stmt s i

-- a count, and the statement behind it
abbrev pub repeat_violations : Expr → Stmt → Breaks
repeat_violations e s i = count_violations (env i) e ++ in_stmt s i

-- a `case` at this keyword
abbrev pub case_violations : ℕ → Expr → List CaseItem → Breaks
case_violations k e items i =
    compared_violations (env i) k (compared e items) ++ flat_map (λ item. in_item item i) items

-- a `for`, whose scope holds its head and its body
abbrev pub for_violations : Start → Expr → Change → Stmt → Breaks
for_violations a e c s i =
    let inner = within i (start_declares a) in head_violations (env inner) a e c ++ in_stmt s inner

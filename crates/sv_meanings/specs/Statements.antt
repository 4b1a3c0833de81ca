-- What statements tell, each where it stands.
use Rattle.std.specs.Prelude.{Option, Some, None, List, [], ◌++◌, map, flat_map}
use Rattle.sv_tree.specs.declared.expr.Expr.{Expr}
use Rattle.sv_tree.specs.declared.statements.Label.{Label}
use Rattle.sv_tree.specs.declared.statements.Format.{Format}
use Rattle.sv_tree.specs.declared.statements.Variables.{Variables}
use Rattle.sv_tree.specs.declared.statements.Start.{Start}
use Rattle.sv_tree.specs.declared.statements.Change.{Change}
use Rattle.sv_tree.specs.declared.statements.Stmt.{Stmt}
use Rattle.sv_tree.specs.declared.statements.Block.{Block}
use Rattle.sv_tree.specs.declared.statements.CaseItem.{CaseItem}
use Rattle.sv_tree.specs.declared.statements.Else.{Else}
use Rattle.sv_tree.specs.declared.statements.ElseIf.{ElseIf}
use Rattle.sv_tree.specs.declared.statements.If.{If}
use Rattle.sv_tree.specs.declared.statements.Stmt.TheFolds.{para-Stmt, para-Block, para-CaseItem, para-Else, para-ElseIf, para-If}
use Rattle.sv_tree.specs.declared.statements.Stmt.TheOpen.{Stmt-F, Block-F, CaseItem-F, Else-F, ElseIf-F, If-F}
use Rattle.sv_names.specs.Declarations.{body_declares, start_declares}
use Rattle.sv_judge.specs.Calls.{Env}
use Rattle.sv_walk.specs.Around.{Inside, env, within}
use Rattle.sv_facts.specs.declared.facts.Meant.TheVariants as meanings
use Rattle.sv_facts.specs.Facts.{called_facts}
use Rattle.sv_facts.specs.Exprs.{expr_facts, call_facts}
use Rattle.sv_meanings.specs.Places.{Facts, exprs_facts, maybe_facts}
use Rattle.sv_meanings.specs.Declarations.{means, variables_facts}
use Rattle.sv_meanings.specs.Changes.{change_facts, head_facts}

-- what a part tells where it stands
abbrev pub Tells : Type 0
Tells = Inside → Facts

-- a part, and what it tells
abbrev pub Part : Type 0 → Type 0
Part A = A × Tells

-- what each of them tells there
abbrev pub each_at : {A : Type 0} → Inside → List (Part A) → Facts
each_at i ps = flat_map (λ p. p.1 i) ps

abbrev pub maybe_at : {A : Type 0} → Inside → Option (Part A) → Facts
maybe_at i None = []
maybe_at i (Some p) = p.1 i

-- the parts alone
abbrev pub parts : {A : Type 0} → List (Part A) → List A
parts ps = map (λ p. p.0) ps

-- a label behind `begin` means the block
abbrev pub label_facts : Option Label → Facts
label_facts None = []
label_facts (Some label) = means label.name (meanings.Block label.name.token)

-- what a format shows
abbrev pub show_facts : Env → Option Format → Facts
show_facts env None = []
show_facts env (Some f) = exprs_facts env f.actuals

-- the values of an item of a `case`; `default` has none
abbrev pub values_facts : Env → Option (List Expr) → Facts
values_facts env None = []
values_facts env (Some es) = exprs_facts env es

-- expressions and names in a statement, and what its parts tell, in text order; the scope of a `for` holds all of it
abbrev pub stmt_step : Stmt-F (Part Stmt) (Part Block) (Part CaseItem) (Part Else) (Part ElseIf) (Part If) → Tells
stmt_step (Stmt-F.Empty k) i = []
stmt_step (Stmt-F.Block b) i = b.1 i
stmt_step (Stmt-F.If f) i = f.1 i
stmt_step (Stmt-F.Case k e items) i = expr_facts (env i) e ++ each_at i items
stmt_step (Stmt-F.While k e s) i = expr_facts (env i) e ++ s.1 i
stmt_step (Stmt-F.Repeat k e s) i = expr_facts (env i) e ++ s.1 i
stmt_step (Stmt-F.Forever k s) i = s.1 i
stmt_step (Stmt-F.For k a e c s) i =
    head_facts (env (within i (start_declares a))) a e c ++ s.1 (within i (start_declares a))
stmt_step (Stmt-F.Return k e) i = maybe_facts (env i) e
stmt_step (Stmt-F.Break k) i = []
stmt_step (Stmt-F.Continue k) i = []
stmt_step (Stmt-F.Disable k n) i = called_facts (env i) n
stmt_step (Stmt-F.Finish k n) i = []
stmt_step (Stmt-F.Show k w) i = []
stmt_step (Stmt-F.ShowActuals k w o f) i = show_facts (env i) f
stmt_step (Stmt-F.Void k c) i = call_facts (env i) c
stmt_step (Stmt-F.Call c) i = call_facts (env i) c
stmt_step (Stmt-F.Name n) i = called_facts (env i) n
stmt_step (Stmt-F.Change c) i = change_facts (env i) c

-- variables, then statements
abbrev pub all_in : {A : Type 0} → Inside → List Variables → List (Part A) → Facts
all_in i vs ps = flat_map (variables_facts (env i)) vs ++ each_at i ps

-- a block: its label, and what stands inside its scope
abbrev pub block_step : Block-F (Part Stmt) (Part Block) (Part CaseItem) (Part Else) (Part ElseIf) (Part If) → Tells
block_step b i =
    label_facts b.label ++ all_in (within i (body_declares b.variables (parts b.statements))) b.variables b.statements

abbrev pub item_step : CaseItem-F (Part Stmt) (Part Block) (Part CaseItem) (Part Else) (Part ElseIf) (Part If) → Tells
item_step item i = values_facts (env i) item.values ++ item.body.1 i

abbrev pub else_step : Else-F (Part Stmt) (Part Block) (Part CaseItem) (Part Else) (Part ElseIf) (Part If) → Tells
else_step e i = e.body.1 i

abbrev pub else_if_step : ElseIf-F (Part Stmt) (Part Block) (Part CaseItem) (Part Else) (Part ElseIf) (Part If) → Tells
else_if_step p i = expr_facts (env i) p.condition ++ p.body.1 i

abbrev pub if_step : If-F (Part Stmt) (Part Block) (Part CaseItem) (Part Else) (Part ElseIf) (Part If) → Tells
if_step f i = expr_facts (env i) f.condition ++ f.body.1 i ++ each_at i f.others ++ maybe_at i f.last

-- ---- what each kind of part tells where it stands

abbrev pub in_stmt : Stmt → Tells
in_stmt = para-Stmt Tells Tells Tells Tells Tells Tells stmt_step block_step item_step else_step else_if_step if_step

abbrev pub in_block : Block → Tells
in_block = para-Block Tells Tells Tells Tells Tells Tells stmt_step block_step item_step else_step else_if_step if_step

abbrev pub in_item : CaseItem → Tells
in_item = para-CaseItem Tells Tells Tells Tells Tells Tells stmt_step block_step item_step else_step else_if_step if_step

abbrev pub in_else : Else → Tells
in_else = para-Else Tells Tells Tells Tells Tells Tells stmt_step block_step item_step else_step else_if_step if_step

abbrev pub in_else_if : ElseIf → Tells
in_else_if = para-ElseIf Tells Tells Tells Tells Tells Tells stmt_step block_step item_step else_step else_if_step if_step

abbrev pub in_if : If → Tells
in_if = para-If Tells Tells Tells Tells Tells Tells stmt_step block_step item_step else_step else_if_step if_step

-- statements, each where it stands
abbrev pub in_stmts : List Stmt → Tells
in_stmts ss i = flat_map (λ s. in_stmt s i) ss

-- the variables and statements of a body, inside its scope
abbrev pub in_body : List Variables → List Stmt → Tells
in_body vs ss i = flat_map (variables_facts (env i)) vs ++ in_stmts ss i

-- the last `else`, if there is one
abbrev pub in_last : Option Else → Tells
in_last None i = []
in_last (Some l) i = in_else l i

-- a condition or a count, and the statement behind it
abbrev pub in_guarded : Expr → Stmt → Tells
in_guarded e s i = expr_facts (env i) e ++ in_stmt s i

-- a `case`, and its items
abbrev pub in_case : Expr → List CaseItem → Tells
in_case e items i = expr_facts (env i) e ++ flat_map (λ item. in_item item i) items

-- a `for`, whose scope holds its head and its body
abbrev pub in_for : Start → Expr → Change → Stmt → Tells
in_for a e c s i =
    head_facts (env (within i (start_declares a))) a e c ++ in_stmt s (within i (start_declares a))

-- What each kind of statement tells, by its own parts.
use Rattle.std.proofs.Common.{◌≡◌, ℕ, List, [], ◌∷◌, ◌++◌, map, flat_map, refl, sym, ap, ◌∙◌, Option, Some, None}
use Rattle.std.proofs.lemmas.List.Folds.{flat_map-map}
use Rattle.sv_tree.specs.declared.kinds.ShowKind.{ShowKind}
use Rattle.sv_tree.specs.declared.leaves.Name.{Name}
use Rattle.sv_tree.specs.declared.leaves.Number.{Number}
use Rattle.sv_tree.specs.declared.expr.Expr.{Expr}
use Rattle.sv_tree.specs.declared.expr.Call.{Call}
use Rattle.sv_tree.specs.declared.statements.Format.{Format}
use Rattle.sv_tree.specs.declared.statements.Change.{Change}
use Rattle.sv_tree.specs.declared.statements.Start.{Start}
use Rattle.sv_tree.specs.declared.statements.Stmt.{Stmt}
use Rattle.sv_tree.specs.declared.statements.Stmt.TheVariants as stmts
use Rattle.sv_tree.specs.declared.statements.Block.{Block, out-Block, roll-out-Block}
use Rattle.sv_tree.specs.declared.statements.CaseItem.{CaseItem, out-CaseItem, roll-out-CaseItem}
use Rattle.sv_tree.specs.declared.statements.Else.{Else, out-Else, roll-out-Else}
use Rattle.sv_tree.specs.declared.statements.ElseIf.{ElseIf, out-ElseIf, roll-out-ElseIf}
use Rattle.sv_tree.specs.declared.statements.If.{If, out-If, roll-If, roll-out-If}
use Rattle.sv_tree.specs.declared.statements.Stmt.TheFolds.{para-roll-Stmt, para-roll-Block, para-roll-CaseItem, para-roll-Else, para-roll-ElseIf, para-roll-If}
use Rattle.sv_tree.specs.declared.statements.Stmt.TheOpen.{Stmt-F}
use Rattle.sv_tree.specs.declared.statements.Init.{Init, fold-roll-Init}
use Rattle.sv_tree.specs.declared.statements.Init.TheVariants as inits
use Rattle.sv_tree.specs.declared.statements.Init.TheOpen.{Init-F}
use Rattle.sv_names.specs.Declarations.{body_declares, block_declares, start_declares}
use Rattle.sv_judge.specs.Calls.{Env}
use Rattle.sv_walk.specs.Around.{Inside, env, within}
use Rattle.sv_facts.specs.Facts.{called_facts}
use Rattle.sv_facts.specs.Exprs.{expr_facts, call_facts}
use Rattle.sv_meanings.specs.Places.{Facts, maybe_facts}
use Rattle.sv_meanings.specs.Declarations.{init_step, init_facts, variables_facts}
use Rattle.sv_meanings.specs.Changes.{change_facts, head_facts}
use Rattle.sv_meanings.specs.Statements.{Tells, Part, each_at, parts, all_in, label_facts, show_facts, values_facts, stmt_step, block_step, item_step, else_step, else_if_step, if_step, in_stmt, in_block, in_item, in_else, in_else_if, in_if, in_body, in_last}

-- each of a list beside what it tells
beside : {A : Type 0} → (A → Tells) → List A → List (Part A)
beside of xs = map (λ x. (x, of x)) xs

parts_beside : {A : Type 0} (of : A → Tells) (xs : List A) → parts (map (λ (x : A). (x, of x)) xs) ≡ xs
parts_beside of [] = refl
parts_beside of (x ∷ xs) = ap (λ ys. x ∷ ys) (parts_beside of xs)

each_beside : {A : Type 0} (of : A → Tells) (i : Inside) (xs : List A) → each_at i (map (λ (x : A). (x, of x)) xs) ≡ flat_map (λ x. of x i) xs
each_beside of i [] = refl
each_beside of i (x ∷ xs) = ap (λ fs. of x i ++ fs) (each_beside of i xs)

pub empty_is : (k : ℕ) (i : Inside) → in_stmt (stmts.Empty k) i ≡ []
empty_is k i =
    ap (λ f. f i) (ap in_stmt (sym (stmts.rolls-Empty k)) ∙ para-roll-Stmt Tells Tells Tells Tells Tells Tells stmt_step block_step item_step else_step else_if_step if_step (Stmt-F.Empty k))

pub of_block : (b : Block) (i : Inside) → in_stmt (stmts.Block b) i ≡ in_block b i
of_block b i =
    ap (λ f. f i) (ap in_stmt (sym (stmts.rolls-Block b)) ∙ para-roll-Stmt Tells Tells Tells Tells Tells Tells stmt_step block_step item_step else_step else_if_step if_step (Stmt-F.Block b))

pub of_if : (f : If) (i : Inside) → in_stmt (stmts.If f) i ≡ in_if f i
of_if f i =
    ap (λ f. f i) (ap in_stmt (sym (stmts.rolls-If f)) ∙ para-roll-Stmt Tells Tells Tells Tells Tells Tells stmt_step block_step item_step else_step else_if_step if_step (Stmt-F.If f))

pub case_is : (k : ℕ) (e : Expr) (items : List CaseItem) (i : Inside) → in_stmt (stmts.Case k e items) i ≡ expr_facts (env i) e ++ flat_map (λ x. in_item x i) items
case_is k e items i =
    ap (λ f. f i) (ap in_stmt (sym (stmts.rolls-Case k e items)) ∙ para-roll-Stmt Tells Tells Tells Tells Tells Tells stmt_step block_step item_step else_step else_if_step if_step (Stmt-F.Case k e items))
    ∙ ap (λ fs. expr_facts (env i) e ++ fs) (each_beside in_item i items)

pub while_is : (k : ℕ) (e : Expr) (s : Stmt) (i : Inside) → in_stmt (stmts.While k e s) i ≡ expr_facts (env i) e ++ in_stmt s i
while_is k e s i =
    ap (λ f. f i) (ap in_stmt (sym (stmts.rolls-While k e s)) ∙ para-roll-Stmt Tells Tells Tells Tells Tells Tells stmt_step block_step item_step else_step else_if_step if_step (Stmt-F.While k e s))

pub repeat_is : (k : ℕ) (e : Expr) (s : Stmt) (i : Inside) → in_stmt (stmts.Repeat k e s) i ≡ expr_facts (env i) e ++ in_stmt s i
repeat_is k e s i =
    ap (λ f. f i) (ap in_stmt (sym (stmts.rolls-Repeat k e s)) ∙ para-roll-Stmt Tells Tells Tells Tells Tells Tells stmt_step block_step item_step else_step else_if_step if_step (Stmt-F.Repeat k e s))

pub forever_is : (k : ℕ) (s : Stmt) (i : Inside) → in_stmt (stmts.Forever k s) i ≡ in_stmt s i
forever_is k s i =
    ap (λ f. f i) (ap in_stmt (sym (stmts.rolls-Forever k s)) ∙ para-roll-Stmt Tells Tells Tells Tells Tells Tells stmt_step block_step item_step else_step else_if_step if_step (Stmt-F.Forever k s))

pub for_is : (k : ℕ) (a : Start) (e : Expr) (c : Change) (s : Stmt) (i : Inside) → in_stmt (stmts.For k a e c s) i ≡ head_facts (env (within i (start_declares a))) a e c ++ in_stmt s (within i (start_declares a))
for_is k a e c s i =
    ap (λ f. f i) (ap in_stmt (sym (stmts.rolls-For k a e c s)) ∙ para-roll-Stmt Tells Tells Tells Tells Tells Tells stmt_step block_step item_step else_step else_if_step if_step (Stmt-F.For k a e c s))

pub return_is : (k : ℕ) (e : Option Expr) (i : Inside) → in_stmt (stmts.Return k e) i ≡ maybe_facts (env i) e
return_is k e i =
    ap (λ f. f i) (ap in_stmt (sym (stmts.rolls-Return k e)) ∙ para-roll-Stmt Tells Tells Tells Tells Tells Tells stmt_step block_step item_step else_step else_if_step if_step (Stmt-F.Return k e))

pub break_is : (k : ℕ) (i : Inside) → in_stmt (stmts.Break k) i ≡ []
break_is k i =
    ap (λ f. f i) (ap in_stmt (sym (stmts.rolls-Break k)) ∙ para-roll-Stmt Tells Tells Tells Tells Tells Tells stmt_step block_step item_step else_step else_if_step if_step (Stmt-F.Break k))

pub continue_is : (k : ℕ) (i : Inside) → in_stmt (stmts.Continue k) i ≡ []
continue_is k i =
    ap (λ f. f i) (ap in_stmt (sym (stmts.rolls-Continue k)) ∙ para-roll-Stmt Tells Tells Tells Tells Tells Tells stmt_step block_step item_step else_step else_if_step if_step (Stmt-F.Continue k))

pub disable_is : (k : ℕ) (n : Name) (i : Inside) → in_stmt (stmts.Disable k n) i ≡ called_facts (env i) n
disable_is k n i =
    ap (λ f. f i) (ap in_stmt (sym (stmts.rolls-Disable k n)) ∙ para-roll-Stmt Tells Tells Tells Tells Tells Tells stmt_step block_step item_step else_step else_if_step if_step (Stmt-F.Disable k n))

pub finish_is : (k : ℕ) (n : Option Number) (i : Inside) → in_stmt (stmts.Finish k n) i ≡ []
finish_is k n i =
    ap (λ f. f i) (ap in_stmt (sym (stmts.rolls-Finish k n)) ∙ para-roll-Stmt Tells Tells Tells Tells Tells Tells stmt_step block_step item_step else_step else_if_step if_step (Stmt-F.Finish k n))

pub show_is : (k : ℕ) (w : ShowKind) (i : Inside) → in_stmt (stmts.Show k w) i ≡ []
show_is k w i =
    ap (λ f. f i) (ap in_stmt (sym (stmts.rolls-Show k w)) ∙ para-roll-Stmt Tells Tells Tells Tells Tells Tells stmt_step block_step item_step else_step else_if_step if_step (Stmt-F.Show k w))

pub shown_is : (k : ℕ) (w : ShowKind) (o : ℕ) (f : Option Format) (i : Inside) → in_stmt (stmts.ShowActuals k w o f) i ≡ show_facts (env i) f
shown_is k w o f i =
    ap (λ f. f i) (ap in_stmt (sym (stmts.rolls-ShowActuals k w o f)) ∙ para-roll-Stmt Tells Tells Tells Tells Tells Tells stmt_step block_step item_step else_step else_if_step if_step (Stmt-F.ShowActuals k w o f))

pub void_is : (k : ℕ) (c : Call) (i : Inside) → in_stmt (stmts.Void k c) i ≡ call_facts (env i) c
void_is k c i =
    ap (λ f. f i) (ap in_stmt (sym (stmts.rolls-Void k c)) ∙ para-roll-Stmt Tells Tells Tells Tells Tells Tells stmt_step block_step item_step else_step else_if_step if_step (Stmt-F.Void k c))

pub call_is : (c : Call) (i : Inside) → in_stmt (stmts.Call c) i ≡ call_facts (env i) c
call_is c i =
    ap (λ f. f i) (ap in_stmt (sym (stmts.rolls-Call c)) ∙ para-roll-Stmt Tells Tells Tells Tells Tells Tells stmt_step block_step item_step else_step else_if_step if_step (Stmt-F.Call c))

pub name_is : (n : Name) (i : Inside) → in_stmt (stmts.Name n) i ≡ called_facts (env i) n
name_is n i =
    ap (λ f. f i) (ap in_stmt (sym (stmts.rolls-Name n)) ∙ para-roll-Stmt Tells Tells Tells Tells Tells Tells stmt_step block_step item_step else_step else_if_step if_step (Stmt-F.Name n))

pub change_is : (c : Change) (i : Inside) → in_stmt (stmts.Change c) i ≡ change_facts (env i) c
change_is c i =
    ap (λ f. f i) (ap in_stmt (sym (stmts.rolls-Change c)) ∙ para-roll-Stmt Tells Tells Tells Tells Tells Tells stmt_step block_step item_step else_step else_if_step if_step (Stmt-F.Change c))

pub block_is : (b : Block) (i : Inside) → in_block b i ≡ label_facts (out-Block b).label ++ in_body (out-Block b).variables (out-Block b).statements (within i (block_declares b))
block_is b i =
    let o = out-Block b in
    ap (λ x. in_block x i) (sym (roll-out-Block b))
    ∙ ap (λ f. f i) (para-roll-Block Tells Tells Tells Tells Tells Tells stmt_step block_step item_step else_step else_if_step if_step o)
    ∙ ap (λ ss. label_facts o.label ++ all_in (within i (body_declares o.variables ss)) o.variables (map (λ (x : Stmt). (x, in_stmt x)) o.statements)) (parts_beside in_stmt o.statements)
    ∙ ap (λ fs. label_facts o.label ++ (flat_map (variables_facts (env (within i (block_declares b)))) o.variables ++ fs)) (each_beside in_stmt (within i (block_declares b)) o.statements)

pub item_is : (x : CaseItem) (i : Inside) → in_item x i ≡ values_facts (env i) (out-CaseItem x).values ++ in_stmt (out-CaseItem x).body i
item_is x i = ap (λ y. in_item y i) (sym (roll-out-CaseItem x)) ∙ ap (λ f. f i) (para-roll-CaseItem Tells Tells Tells Tells Tells Tells stmt_step block_step item_step else_step else_if_step if_step (out-CaseItem x))

pub else_is : (x : Else) (i : Inside) → in_else x i ≡ in_stmt (out-Else x).body i
else_is x i = ap (λ y. in_else y i) (sym (roll-out-Else x)) ∙ ap (λ f. f i) (para-roll-Else Tells Tells Tells Tells Tells Tells stmt_step block_step item_step else_step else_if_step if_step (out-Else x))

pub else_if_is : (x : ElseIf) (i : Inside) → in_else_if x i ≡ expr_facts (env i) (out-ElseIf x).condition ++ in_stmt (out-ElseIf x).body i
else_if_is x i = ap (λ y. in_else_if y i) (sym (roll-out-ElseIf x)) ∙ ap (λ f. f i) (para-roll-ElseIf Tells Tells Tells Tells Tells Tells stmt_step block_step item_step else_step else_if_step if_step (out-ElseIf x))

if_at : (k : ℕ) (e : Expr) (s : Stmt) (ps : List ElseIf) (l : Option Else) (i : Inside) → in_if (roll-If (record { token = k; condition = e; body = s; others = ps; last = l })) i ≡ expr_facts (env i) e ++ in_stmt s i ++ flat_map (λ p. in_else_if p i) ps ++ in_last l i
if_at k e s ps None i =
    ap (λ f. f i) (para-roll-If Tells Tells Tells Tells Tells Tells stmt_step block_step item_step else_step else_if_step if_step _)
    ∙ ap (λ fs. expr_facts (env i) e ++ in_stmt s i ++ fs ++ []) (each_beside in_else_if i ps)
if_at k e s ps (Some l) i =
    ap (λ f. f i) (para-roll-If Tells Tells Tells Tells Tells Tells stmt_step block_step item_step else_step else_if_step if_step _)
    ∙ ap (λ fs. expr_facts (env i) e ++ in_stmt s i ++ fs ++ in_else l i) (each_beside in_else_if i ps)

pub if_is : (f : If) (i : Inside) → in_if f i ≡ expr_facts (env i) (out-If f).condition ++ in_stmt (out-If f).body i ++ flat_map (λ p. in_else_if p i) (out-If f).others ++ in_last (out-If f).last i
if_is f i =
    let o = out-If f in
    ap (λ x. in_if x i) (sym (roll-out-If f)) ∙ if_at o.token o.condition o.body o.others o.last i

-- a pattern tells what its parts do
pub pattern_is : (e : Env) (k : ℕ) (ps : List Init) → init_facts e (inits.Pattern k ps) ≡ flat_map (init_facts e) ps
pattern_is e k ps =
    ap (init_facts e) (sym (inits.rolls-Pattern k ps)) ∙ fold-roll-Init Facts (init_step e) (Init-F.Pattern k ps) ∙ flat_map-map (λ fs. fs) (init_facts e) ps

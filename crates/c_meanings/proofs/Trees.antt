-- What statements of several parts tell.
use Rattle.std.proofs.Common.{◌≡◌, ℕ, map, List, [], ◌++◌, sym, ap, ◌∙◌, Option, Some, None}
use Rattle.std.specs.Prelude.{option_map}
use Rattle.std.proofs.lemmas.List.Folds.{flat_map-map}
use Rattle.c_tree.specs.declared.expr.CExpr.{CExpr}
use Rattle.c_tree.specs.declared.statements.Block.{Block, out-Block, roll-out-Block, fold-roll-Block}
use Rattle.c_tree.specs.declared.statements.Else.{Else}
use Rattle.c_tree.specs.declared.statements.ElseIf.{ElseIf, out-ElseIf, roll-out-ElseIf, fold-roll-ElseIf}
use Rattle.c_tree.specs.declared.statements.If.{If, out-If, roll-If, roll-out-If, fold-roll-If}
use Rattle.c_tree.specs.declared.statements.Stmt.{Stmt, fold-roll-Stmt}
use Rattle.c_tree.specs.declared.statements.Stmt.TheVariants as stmts
use Rattle.c_tree.specs.declared.statements.Part.TheOpen.{Stmt-F}
use Rattle.c_names.specs.Names.{Names}
use Rattle.c_meanings.specs.Sight.{Tells, Says, in_turn}
use Rattle.c_walk.specs.Around.{Around}
use Rattle.c_meanings.specs.Statements.{each_of, maybe_of, expr_says, maybe_says, guarded, done_while, others_say, part_step, stmt_step, block_step, else_step, else_if_step, if_step, in_stmt, in_block, in_part, in_else, in_else_if, in_if}

pub empty_is : (a : Around) (k : ℕ) → in_stmt a (stmts.Empty k) ≡ (λ names. [])
empty_is a k =
    ap (in_stmt a) (sym (stmts.rolls-Empty k))
    ∙ fold-roll-Stmt Tells Says Tells Says Says Says (part_step a) (stmt_step a) (block_step a) (else_step a) (else_if_step a) (if_step a) (Stmt-F.Empty k)

pub break_is : (a : Around) (k : ℕ) → in_stmt a (stmts.Break k) ≡ (λ names. [])
break_is a k =
    ap (in_stmt a) (sym (stmts.rolls-Break k))
    ∙ fold-roll-Stmt Tells Says Tells Says Says Says (part_step a) (stmt_step a) (block_step a) (else_step a) (else_if_step a) (if_step a) (Stmt-F.Break k)

pub continue_is : (a : Around) (k : ℕ) → in_stmt a (stmts.Continue k) ≡ (λ names. [])
continue_is a k =
    ap (in_stmt a) (sym (stmts.rolls-Continue k))
    ∙ fold-roll-Stmt Tells Says Tells Says Says Says (part_step a) (stmt_step a) (block_step a) (else_step a) (else_if_step a) (if_step a) (Stmt-F.Continue k)

pub expr_is : (a : Around) (e : CExpr) → in_stmt a (stmts.Expr e) ≡ expr_says a e
expr_is a e =
    ap (in_stmt a) (sym (stmts.rolls-Expr e))
    ∙ fold-roll-Stmt Tells Says Tells Says Says Says (part_step a) (stmt_step a) (block_step a) (else_step a) (else_if_step a) (if_step a) (Stmt-F.Expr e)

pub return_is : (a : Around) (k : ℕ) (e : Option CExpr) → in_stmt a (stmts.Return k e) ≡ maybe_says a e
return_is a k e =
    ap (in_stmt a) (sym (stmts.rolls-Return k e))
    ∙ fold-roll-Stmt Tells Says Tells Says Says Says (part_step a) (stmt_step a) (block_step a) (else_step a) (else_if_step a) (if_step a) (Stmt-F.Return k e)

pub while_is : (a : Around) (k : ℕ) (e : CExpr) (s : Stmt) → in_stmt a (stmts.While k e s) ≡ guarded a e (in_stmt a s)
while_is a k e s =
    ap (in_stmt a) (sym (stmts.rolls-While k e s))
    ∙ fold-roll-Stmt Tells Says Tells Says Says Says (part_step a) (stmt_step a) (block_step a) (else_step a) (else_if_step a) (if_step a) (Stmt-F.While k e s)

pub do_is : (a : Around) (k j : ℕ) (e : CExpr) (s : Stmt) → in_stmt a (stmts.Do k s j e) ≡ done_while a e (in_stmt a s)
do_is a k j e s =
    ap (in_stmt a) (sym (stmts.rolls-Do k s j e))
    ∙ fold-roll-Stmt Tells Says Tells Says Says Says (part_step a) (stmt_step a) (block_step a) (else_step a) (else_if_step a) (if_step a) (Stmt-F.Do k s j e)

pub block_is : (a : Around) (b : Block) → in_block a b ≡ in_turn (map (in_part a) (out-Block b).parts)
block_is a b =
    ap (in_block a) (sym (roll-out-Block b))
    ∙ fold-roll-Block Tells Says Tells Says Says Says (part_step a) (stmt_step a) (block_step a) (else_step a) (else_if_step a) (if_step a) (out-Block b)

pub else_if_is : (a : Around) (p : ElseIf) (names : List Names) → in_else_if a p names ≡ guarded a (out-ElseIf p).condition (in_stmt a (out-ElseIf p).body) names
else_if_is a p names =
    ap (λ x. in_else_if a x names) (sym (roll-out-ElseIf p))
    ∙ ap (λ f. f names) (fold-roll-ElseIf Tells Says Tells Says Says Says (part_step a) (stmt_step a) (block_step a) (else_step a) (else_if_step a) (if_step a) (out-ElseIf p))

if_at : (a : Around) (k : ℕ) (e : CExpr) (s : Stmt) (ps : List ElseIf) (l : Option Else) (names : List Names) → in_if a (roll-If (record { token = k; condition = e; body = s; others = ps; last = l })) names ≡ each_of (map (in_else_if a) ps) names ++ guarded a e (in_stmt a s) names ++ maybe_of (option_map (in_else a) l) names
if_at a k e s ps None names = ap (λ f. f names) (fold-roll-If Tells Says Tells Says Says Says (part_step a) (stmt_step a) (block_step a) (else_step a) (else_if_step a) (if_step a) _)
if_at a k e s ps (Some l) names = ap (λ f. f names) (fold-roll-If Tells Says Tells Says Says Says (part_step a) (stmt_step a) (block_step a) (else_step a) (else_if_step a) (if_step a) _)

pub if_is : (a : Around) (i : If) (names : List Names) → in_if a i names ≡ others_say a (out-If i).others names ++ guarded a (out-If i).condition (in_stmt a (out-If i).body) names ++ maybe_of (option_map (in_else a) (out-If i).last) names
if_is a i names =
    let o = out-If i in
    ap (λ x. in_if a x names) (sym (roll-out-If i))
    ∙ if_at a o.token o.condition o.body o.others o.last names
    ∙ ap (λ fs. fs ++ guarded a o.condition (in_stmt a o.body) names ++ maybe_of (option_map (in_else a) o.last) names) (flat_map-map (λ f. f names) (in_else_if a) o.others)

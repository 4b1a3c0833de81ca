-- What statements of several parts break.
use Rattle.std.proofs.Common.{◌≡◌, ℕ, map, List, ◌++◌, sym, ap, ◌∙◌, Option, Some, None}
use Rattle.std.specs.Prelude.{option_map}
use Rattle.c_tree.specs.declared.expr.CExpr.{CExpr}
use Rattle.c_tree.specs.declared.statements.Block.{Block, out-Block, roll-out-Block, fold-roll-Block}
use Rattle.c_tree.specs.declared.statements.Else.{Else}
use Rattle.c_tree.specs.declared.statements.ElseIf.{ElseIf}
use Rattle.c_tree.specs.declared.statements.If.{If, out-If, roll-If, roll-out-If, fold-roll-If}
use Rattle.c_tree.specs.declared.statements.Stmt.{Stmt}
use Rattle.c_calls.specs.Refusals.{Rules}
use Rattle.c_calls.specs.Expressions.{Broken, all_of, where_there}
use Rattle.c_calls.specs.Statements.{part_step, stmt_step, block_step, else_step, else_if_step, if_step, guarded, in_stmt, in_block, in_part, in_else, in_else_if, in_if}

pub block_is : (file : ℕ) (rules : Rules) (b : Block) → in_block file rules b ≡ all_of (map (in_part file rules) (out-Block b).parts)
block_is file rules b = ap (in_block file rules) (sym (roll-out-Block b)) ∙ fold-roll-Block Broken Broken Broken Broken Broken Broken (part_step file rules) (stmt_step file rules) (block_step file rules) (else_step file rules) (else_if_step file rules) (if_step file rules) (out-Block b)

if_at : (file : ℕ) (rules : Rules) (k : ℕ) (e : CExpr) (s : Stmt) (ps : List ElseIf) (l : Option Else) → in_if file rules (roll-If (record { token = k; condition = e; body = s; others = ps; last = l })) ≡ guarded file rules e (in_stmt file rules s) ++ all_of (map (in_else_if file rules) ps) ++ where_there (option_map (in_else file rules) l)
if_at file rules k e s ps None = fold-roll-If Broken Broken Broken Broken Broken Broken (part_step file rules) (stmt_step file rules) (block_step file rules) (else_step file rules) (else_if_step file rules) (if_step file rules) _
if_at file rules k e s ps (Some l) = fold-roll-If Broken Broken Broken Broken Broken Broken (part_step file rules) (stmt_step file rules) (block_step file rules) (else_step file rules) (else_if_step file rules) (if_step file rules) _

pub if_is : (file : ℕ) (rules : Rules) (i : If) → in_if file rules i ≡ guarded file rules (out-If i).condition (in_stmt file rules (out-If i).body) ++ all_of (map (in_else_if file rules) (out-If i).others) ++ where_there (option_map (in_else file rules) (out-If i).last)
if_is file rules i =
    let o = out-If i in
    ap (in_if file rules) (sym (roll-out-If i)) ∙ if_at file rules o.token o.condition o.body o.others o.last

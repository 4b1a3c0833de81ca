-- What statements of several parts break.
use Rattle.std.proofs.Common.{◌≡◌, ℕ, map, List, ◌++◌, sym, ap, ◌∙◌, Option, Some, None}
use Rattle.std.specs.Prelude.{option_map}
use Rattle.sv_tree.specs.declared.expr.Expr.{Expr}
use Rattle.sv_tree.specs.declared.statements.Block.{Block, out-Block, roll-out-Block, fold-roll-Block}
use Rattle.sv_tree.specs.declared.statements.Else.{Else}
use Rattle.sv_tree.specs.declared.statements.ElseIf.{ElseIf}
use Rattle.sv_tree.specs.declared.statements.If.{If, out-If, roll-If, roll-out-If, fold-roll-If}
use Rattle.sv_tree.specs.declared.statements.Stmt.{Stmt}
use Rattle.sv_forms.specs.declared.around.Around.{Around}
use Rattle.sv_forms.specs.Calls.{Broken, all_of}
use Rattle.sv_forms.specs.Labels.{block_end_violations}
use Rattle.sv_forms.specs.Statements.{Breaks, each_at, maybe_at, locals_violations, stmt_step, block_step, item_step, else_step, else_if_step, if_step, in_stmt, in_block, in_else, in_else_if, in_if}

pub block_is : (file : ℕ) (b : Block) (around : Around) → in_block file b around ≡ all_of (map (locals_violations file around) (out-Block b).variables) ++ each_at around (map (in_stmt file) (out-Block b).statements) ++ block_end_violations file (out-Block b).label (out-Block b).end
block_is file b around = ap (λ x. in_block file x around) (sym (roll-out-Block b)) ∙ ap (λ f. f around) (fold-roll-Block Breaks Breaks Breaks Breaks Breaks Breaks (stmt_step file) (block_step file) (item_step file) (else_step file) (else_if_step file) (if_step file) (out-Block b))

if_at : (file k : ℕ) (e : Expr) (s : Stmt) (ps : List ElseIf) (l : Option Else) (around : Around) → in_if file (roll-If (record { token = k; condition = e; body = s; others = ps; last = l })) around ≡ in_stmt file s around ++ each_at around (map (in_else_if file) ps) ++ maybe_at around (option_map (in_else file) l)
if_at file k e s ps None around = ap (λ f. f around) (fold-roll-If Breaks Breaks Breaks Breaks Breaks Breaks (stmt_step file) (block_step file) (item_step file) (else_step file) (else_if_step file) (if_step file) _)
if_at file k e s ps (Some l) around = ap (λ f. f around) (fold-roll-If Breaks Breaks Breaks Breaks Breaks Breaks (stmt_step file) (block_step file) (item_step file) (else_step file) (else_if_step file) (if_step file) _)

pub if_is : (file : ℕ) (i : If) (around : Around) → in_if file i around ≡ in_stmt file (out-If i).body around ++ each_at around (map (in_else_if file) (out-If i).others) ++ maybe_at around (option_map (in_else file) (out-If i).last)
if_is file i around =
    let o = out-If i in
    ap (λ x. in_if file x around) (sym (roll-out-If i)) ∙ if_at file o.token o.condition o.body o.others o.last around

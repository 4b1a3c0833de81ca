-- What statements of several parts break.
use Rattle.std.proofs.Common.{◌≡◌, ℕ, map, List, ◌++◌, sym, ap, ◌∙◌, Option, Some, None}
use Rattle.std.specs.Prelude.{option_map, flat_map}
use Rattle.std.proofs.lemmas.List.Folds.{flat_map-map}
use Rattle.c_tree.specs.declared.expr.CExpr.{CExpr}
use Rattle.c_tree.specs.declared.statements.Block.{Block, out-Block, roll-out-Block, fold-roll-Block}
use Rattle.c_tree.specs.declared.statements.Else.{Else}
use Rattle.c_tree.specs.declared.statements.ElseIf.{ElseIf}
use Rattle.c_tree.specs.declared.statements.If.{If, out-If, roll-If, roll-out-If, fold-roll-If}
use Rattle.c_tree.specs.declared.statements.Stmt.{Stmt}
use Rattle.c_forms.specs.declared.around.Around.{Around}
use Rattle.c_forms.specs.Statements.{Breaks, each_at, maybe_at, part_step, stmt_step, block_step, else_step, else_if_step, if_step, in_stmt, in_block, in_part, in_else, in_else_if, in_if, part_at, else_if_at}

pub block_is : (file : ℕ) (b : Block) (around : Around) → in_block file b around ≡ flat_map (part_at file around) (out-Block b).parts
block_is file b around =
    ap (λ x. in_block file x around) (sym (roll-out-Block b))
    ∙ ap (λ f. f around) (fold-roll-Block Breaks Breaks Breaks Breaks Breaks Breaks (part_step file) (stmt_step file) (block_step file) (else_step file) (else_if_step file) (if_step file) (out-Block b))
    ∙ flat_map-map (λ f. f around) (in_part file) (out-Block b).parts

if_at : (file k : ℕ) (e : CExpr) (s : Stmt) (ps : List ElseIf) (l : Option Else) (around : Around) → in_if file (roll-If (record { token = k; condition = e; body = s; others = ps; last = l })) around ≡ in_stmt file s around ++ each_at around (map (in_else_if file) ps) ++ maybe_at around (option_map (in_else file) l)
if_at file k e s ps None around = ap (λ f. f around) (fold-roll-If Breaks Breaks Breaks Breaks Breaks Breaks (part_step file) (stmt_step file) (block_step file) (else_step file) (else_if_step file) (if_step file) _)
if_at file k e s ps (Some l) around = ap (λ f. f around) (fold-roll-If Breaks Breaks Breaks Breaks Breaks Breaks (part_step file) (stmt_step file) (block_step file) (else_step file) (else_if_step file) (if_step file) _)

pub if_is : (file : ℕ) (i : If) (around : Around) → in_if file i around ≡ in_stmt file (out-If i).body around ++ flat_map (else_if_at file around) (out-If i).others ++ maybe_at around (option_map (in_else file) (out-If i).last)
if_is file i around =
    let o = out-If i in
    ap (λ x. in_if file x around) (sym (roll-out-If i))
    ∙ if_at file o.token o.condition o.body o.others o.last around
    ∙ ap (λ vs. in_stmt file o.body around ++ vs ++ maybe_at around (option_map (in_else file) o.last)) (flat_map-map (λ f. f around) (in_else_if file) o.others)

-- The declarations inside of statements of several parts.
use Rattle.std.proofs.Common.{◌≡◌, ℕ, List, [], ◌++◌, map, sym, ap, ◌∙◌, Option, Some, None}
use Rattle.std.specs.Prelude.{option_map, flat_map, unwrap_or}
use Rattle.std.proofs.lemmas.List.Folds.{flat_map-map}
use Rattle.c_tree.specs.declared.expr.CExpr.{CExpr}
use Rattle.c_tree.specs.declared.statements.Block.{Block, out-Block, roll-out-Block, fold-roll-Block}
use Rattle.c_tree.specs.declared.statements.Else.{Else, out-Else, roll-out-Else, fold-roll-Else}
use Rattle.c_tree.specs.declared.statements.ElseIf.{ElseIf, out-ElseIf, roll-out-ElseIf, fold-roll-ElseIf}
use Rattle.c_tree.specs.declared.statements.If.{If, out-If, roll-If, roll-out-If, fold-roll-If}
use Rattle.c_tree.specs.declared.statements.Stmt.{Stmt}
use Rattle.c_functions.specs.Inner.{Vs, in_turn}
use Rattle.c_program.specs.Inside.{part_step, stmt_step, block_step, else_step, else_if_step, if_step, in_stmt, in_block, in_part, in_else, in_else_if, in_if}

pub block_is : (b : Block) → in_block b ≡ flat_map in_part (out-Block b).parts
block_is b =
    ap in_block (sym (roll-out-Block b))
    ∙ fold-roll-Block Vs Vs Vs Vs Vs Vs part_step stmt_step block_step else_step else_if_step if_step (out-Block b)
    ∙ flat_map-map (λ vs. vs) in_part (out-Block b).parts

if_at : (k : ℕ) (e : CExpr) (s : Stmt) (ps : List ElseIf) (l : Option Else) → in_if (roll-If (record { token = k; condition = e; body = s; others = ps; last = l })) ≡ in_stmt s ++ in_turn (map in_else_if ps) ++ unwrap_or (option_map in_else l) []
if_at k e s ps None = fold-roll-If Vs Vs Vs Vs Vs Vs part_step stmt_step block_step else_step else_if_step if_step _
if_at k e s ps (Some l) = fold-roll-If Vs Vs Vs Vs Vs Vs part_step stmt_step block_step else_step else_if_step if_step _

pub if_is : (i : If) → in_if i ≡ in_stmt (out-If i).body ++ flat_map in_else_if (out-If i).others ++ unwrap_or (option_map in_else (out-If i).last) []
if_is i =
    let o = out-If i in
    ap in_if (sym (roll-out-If i))
    ∙ if_at o.token o.condition o.body o.others o.last
    ∙ ap (λ vs. in_stmt o.body ++ vs ++ unwrap_or (option_map in_else o.last) []) (flat_map-map (λ vs. vs) in_else_if o.others)

pub else_if_is : (p : ElseIf) → in_else_if p ≡ in_stmt (out-ElseIf p).body
else_if_is p = ap in_else_if (sym (roll-out-ElseIf p)) ∙ fold-roll-ElseIf Vs Vs Vs Vs Vs Vs part_step stmt_step block_step else_step else_if_step if_step (out-ElseIf p)

pub else_is : (e : Else) → in_else e ≡ in_stmt (out-Else e).body
else_is e = ap in_else (sym (roll-out-Else e)) ∙ fold-roll-Else Vs Vs Vs Vs Vs Vs part_step stmt_step block_step else_step else_if_step if_step (out-Else e)

-- What statements with lists of parts declare.
use Rattle.std.proofs.Common.{◌≡◌, ℕ, List, [], ◌∷◌, ◌++◌, map, refl, sym, ap, ◌∙◌, Option, Some, None}
use Rattle.std.specs.Prelude.{flat_map, unwrap_or, option_map}
use Rattle.std.proofs.lemmas.List.Folds.{flat_map-map}
use Rattle.sv_tree.specs.declared.expr.Expr.{Expr}
use Rattle.sv_tree.specs.declared.statements.Stmt.{Stmt, fold-Stmt, fold-roll-Stmt}
use Rattle.sv_tree.specs.declared.statements.Stmt.TheVariants as stmts
use Rattle.sv_tree.specs.declared.statements.Stmt.TheOpen.{Stmt-F}
use Rattle.sv_tree.specs.declared.statements.If.{If, out-If, roll-If, roll-out-If, fold-roll-If}
use Rattle.sv_tree.specs.declared.statements.Else.{Else, out-Else, roll-out-Else, fold-roll-Else}
use Rattle.sv_tree.specs.declared.statements.ElseIf.{ElseIf, out-ElseIf, roll-out-ElseIf, fold-roll-ElseIf}
use Rattle.sv_tree.specs.declared.statements.CaseItem.{CaseItem, out-CaseItem, roll-out-CaseItem, fold-roll-CaseItem}
use Rattle.sv_names.specs.Blocks.{Ds, in_turn, stmt_step, block_step, item_step, else_step, else_if_step, if_step, stmt_blocks, if_blocks, item_blocks, else_if_blocks, else_blocks}

-- the items of a `case`
pub case_blocks : (k : ℕ) (e : Expr) (items : List CaseItem) → stmt_blocks (stmts.Case k e items) ≡ flat_map item_blocks items
case_blocks k e items =
    ap stmt_blocks (sym (stmts.rolls-Case k e items))
    ∙ fold-roll-Stmt Ds Ds Ds Ds Ds Ds stmt_step block_step item_step else_step else_if_step if_step (Stmt-F.Case k e items)
    ∙ flat_map-map (λ ds. ds) item_blocks items

branches_at : (k : ℕ) (e : Expr) (s : Stmt) (ps : List ElseIf) (l : Option Else) → if_blocks (roll-If (record { token = k; condition = e; body = s; others = ps; last = l })) ≡ stmt_blocks s ++ in_turn (map else_if_blocks ps) ++ unwrap_or (option_map else_blocks l) []
branches_at k e s ps None = fold-roll-If Ds Ds Ds Ds Ds Ds stmt_step block_step item_step else_step else_if_step if_step _
branches_at k e s ps (Some l) = fold-roll-If Ds Ds Ds Ds Ds Ds stmt_step block_step item_step else_step else_if_step if_step _

-- the branches of an `if`
pub branch_blocks : (i : If) → if_blocks i ≡ stmt_blocks (out-If i).body ++ flat_map else_if_blocks (out-If i).others ++ unwrap_or (option_map else_blocks (out-If i).last) []
branch_blocks i =
    let o = out-If i in
    ap if_blocks (sym (roll-out-If i))
    ∙ branches_at o.token o.condition o.body o.others o.last
    ∙ ap (λ ds. stmt_blocks o.body ++ ds ++ unwrap_or (option_map else_blocks o.last) []) (flat_map-map (λ ds. ds) else_if_blocks o.others)

pub item_body : (i : CaseItem) → item_blocks i ≡ stmt_blocks (out-CaseItem i).body
item_body i = ap item_blocks (sym (roll-out-CaseItem i)) ∙ fold-roll-CaseItem Ds Ds Ds Ds Ds Ds stmt_step block_step item_step else_step else_if_step if_step (out-CaseItem i)

pub else_if_body : (p : ElseIf) → else_if_blocks p ≡ stmt_blocks (out-ElseIf p).body
else_if_body p = ap else_if_blocks (sym (roll-out-ElseIf p)) ∙ fold-roll-ElseIf Ds Ds Ds Ds Ds Ds stmt_step block_step item_step else_step else_if_step if_step (out-ElseIf p)

pub else_body : (e : Else) → else_blocks e ≡ stmt_blocks (out-Else e).body
else_body e = ap else_blocks (sym (roll-out-Else e)) ∙ fold-roll-Else Ds Ds Ds Ds Ds Ds stmt_step block_step item_step else_step else_if_step if_step (out-Else e)

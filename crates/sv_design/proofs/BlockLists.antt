-- The named blocks of statements of several parts.
use Rattle.std.proofs.Common.{◌≡◌, ℕ, List, ◌++◌, map, sym, ap, ◌∙◌, Option, Some, None}
use Rattle.std.specs.Prelude.{flat_map}
use Rattle.std.proofs.lemmas.List.Folds.{flat_map-map}
use Rattle.sv_tree.specs.declared.expr.Expr.{Expr}
use Rattle.sv_tree.specs.declared.statements.Stmt.{Stmt, fold-roll-Stmt}
use Rattle.sv_tree.specs.declared.statements.Stmt.TheVariants as stmts
use Rattle.sv_tree.specs.declared.statements.Stmt.TheOpen.{Stmt-F}
use Rattle.sv_tree.specs.declared.statements.Block.{Block, out-Block, roll-out-Block, fold-roll-Block}
use Rattle.sv_tree.specs.declared.statements.If.{If, out-If, roll-If, roll-out-If, fold-roll-If}
use Rattle.sv_tree.specs.declared.statements.Else.{Else, out-Else, roll-out-Else, fold-roll-Else}
use Rattle.sv_tree.specs.declared.statements.ElseIf.{ElseIf, out-ElseIf, roll-out-ElseIf, fold-roll-ElseIf}
use Rattle.sv_tree.specs.declared.statements.CaseItem.{CaseItem, out-CaseItem, roll-out-CaseItem, fold-roll-CaseItem}
use Rattle.sv_design.specs.Blocks.{Ps, label_place, in_turn, stmt_step, block_step, item_step, else_step, else_if_step, if_step, in_stmt, in_block, in_if, in_item, in_else_if, in_else, in_last}

module _ (file : ℕ) where
  -- the items of a `case`
  pub case_is : (k : ℕ) (e : Expr) (items : List CaseItem) → in_stmt file (stmts.Case k e items) ≡ flat_map (in_item file) items
  case_is k e items =
      ap (in_stmt file) (sym (stmts.rolls-Case k e items))
      ∙ fold-roll-Stmt Ps Ps Ps Ps Ps Ps (stmt_step file) (block_step file) (item_step file) (else_step file) (else_if_step file) (if_step file) (Stmt-F.Case k e items)
      ∙ flat_map-map (λ ps. ps) (in_item file) items

  pub block_is : (b : Block) → in_block file b ≡ label_place file (out-Block b).label ++ flat_map (in_stmt file) (out-Block b).statements
  block_is b =
      let o = out-Block b in
      ap (in_block file) (sym (roll-out-Block b))
      ∙ fold-roll-Block Ps Ps Ps Ps Ps Ps (stmt_step file) (block_step file) (item_step file) (else_step file) (else_if_step file) (if_step file) o
      ∙ ap (λ ps. label_place file o.label ++ ps) (flat_map-map (λ ps. ps) (in_stmt file) o.statements)

  if_at : (k : ℕ) (e : Expr) (s : Stmt) (ps : List ElseIf) (l : Option Else) → in_if file (roll-If (record { token = k; condition = e; body = s; others = ps; last = l })) ≡ in_stmt file s ++ in_turn (map (in_else_if file) ps) ++ in_last file l
  if_at k e s ps None = fold-roll-If Ps Ps Ps Ps Ps Ps (stmt_step file) (block_step file) (item_step file) (else_step file) (else_if_step file) (if_step file) _
  if_at k e s ps (Some l) = fold-roll-If Ps Ps Ps Ps Ps Ps (stmt_step file) (block_step file) (item_step file) (else_step file) (else_if_step file) (if_step file) _

  pub if_is : (i : If) → in_if file i ≡ in_stmt file (out-If i).body ++ flat_map (in_else_if file) (out-If i).others ++ in_last file (out-If i).last
  if_is i =
      let o = out-If i in
      ap (in_if file) (sym (roll-out-If i))
      ∙ if_at o.token o.condition o.body o.others o.last
      ∙ ap (λ ds. in_stmt file o.body ++ ds ++ in_last file o.last) (flat_map-map (λ ps. ps) (in_else_if file) o.others)

  pub item_is : (i : CaseItem) → in_item file i ≡ in_stmt file (out-CaseItem i).body
  item_is i = ap (in_item file) (sym (roll-out-CaseItem i)) ∙ fold-roll-CaseItem Ps Ps Ps Ps Ps Ps (stmt_step file) (block_step file) (item_step file) (else_step file) (else_if_step file) (if_step file) (out-CaseItem i)

  pub else_if_is : (p : ElseIf) → in_else_if file p ≡ in_stmt file (out-ElseIf p).body
  else_if_is p = ap (in_else_if file) (sym (roll-out-ElseIf p)) ∙ fold-roll-ElseIf Ps Ps Ps Ps Ps Ps (stmt_step file) (block_step file) (item_step file) (else_step file) (else_if_step file) (if_step file) (out-ElseIf p)

  pub else_is : (e : Else) → in_else file e ≡ in_stmt file (out-Else e).body
  else_is e = ap (in_else file) (sym (roll-out-Else e)) ∙ fold-roll-Else Ps Ps Ps Ps Ps Ps (stmt_step file) (block_step file) (item_step file) (else_step file) (else_if_step file) (if_step file) (out-Else e)

-- What statements of several parts declare.
use Rattle.std.proofs.Common.{◌≡◌, ℕ, List, ◌++◌, map, sym, ap, ◌∙◌, Option, Some, None}
use Rattle.std.specs.Prelude.{flat_map}
use Rattle.std.proofs.lemmas.List.Folds.{flat_map-map}
use Rattle.sv_tree.specs.declared.expr.Expr.{Expr}
use Rattle.sv_tree.specs.declared.statements.Stmt.{Stmt, fold-roll-Stmt}
use Rattle.sv_tree.specs.declared.statements.Stmt.TheVariants as stmts
use Rattle.sv_tree.specs.declared.statements.Stmt.TheOpen.{Stmt-F}
use Rattle.sv_tree.specs.declared.statements.Block.{Block, out-Block, roll-out-Block, fold-roll-Block}
use Rattle.sv_tree.specs.declared.statements.If.{If, out-If, roll-If, roll-out-If, fold-roll-If}
use Rattle.sv_tree.specs.declared.statements.Else.{Else, out-Else, roll-out-Else, fold-roll-Else}
use Rattle.sv_tree.specs.declared.statements.ElseIf.{ElseIf, out-ElseIf, roll-out-ElseIf, fold-roll-ElseIf}
use Rattle.sv_tree.specs.declared.statements.CaseItem.{CaseItem, out-CaseItem, roll-out-CaseItem, fold-roll-CaseItem}
use Rattle.sv_design.specs.declared.declarations.Owner.{Owner}
use Rattle.sv_design.specs.Declarations.{variables_declarations}
use Rattle.sv_design.specs.Statements.{Ds, in_turn, stmt_step, block_step, item_step, else_step, else_if_step, if_step, in_stmt, in_block, in_if, in_item, in_else_if, in_else, in_last}

module _ (file : ℕ) (owner : Owner) where
  -- the items of a `case`
  pub case_is : (k : ℕ) (e : Expr) (items : List CaseItem) → in_stmt file owner (stmts.Case k e items) ≡ flat_map (in_item file owner) items
  case_is k e items =
      ap (in_stmt file owner) (sym (stmts.rolls-Case k e items))
      ∙ fold-roll-Stmt Ds Ds Ds Ds Ds Ds (stmt_step file owner) (block_step file owner) (item_step file owner) (else_step file owner) (else_if_step file owner) (if_step file owner) (Stmt-F.Case k e items)
      ∙ flat_map-map (λ ds. ds) (in_item file owner) items

  pub block_is : (b : Block) → in_block file owner b ≡ flat_map (variables_declarations file owner) (out-Block b).variables ++ flat_map (in_stmt file owner) (out-Block b).statements
  block_is b =
      let o = out-Block b in
      ap (in_block file owner) (sym (roll-out-Block b))
      ∙ fold-roll-Block Ds Ds Ds Ds Ds Ds (stmt_step file owner) (block_step file owner) (item_step file owner) (else_step file owner) (else_if_step file owner) (if_step file owner) o
      ∙ ap (λ ds. flat_map (variables_declarations file owner) o.variables ++ ds) (flat_map-map (λ ds. ds) (in_stmt file owner) o.statements)

  if_at : (k : ℕ) (e : Expr) (s : Stmt) (ps : List ElseIf) (l : Option Else) → in_if file owner (roll-If (record { token = k; condition = e; body = s; others = ps; last = l })) ≡ in_stmt file owner s ++ in_turn (map (in_else_if file owner) ps) ++ in_last file owner l
  if_at k e s ps None = fold-roll-If Ds Ds Ds Ds Ds Ds (stmt_step file owner) (block_step file owner) (item_step file owner) (else_step file owner) (else_if_step file owner) (if_step file owner) _
  if_at k e s ps (Some l) = fold-roll-If Ds Ds Ds Ds Ds Ds (stmt_step file owner) (block_step file owner) (item_step file owner) (else_step file owner) (else_if_step file owner) (if_step file owner) _

  pub if_is : (i : If) → in_if file owner i ≡ in_stmt file owner (out-If i).body ++ flat_map (in_else_if file owner) (out-If i).others ++ in_last file owner (out-If i).last
  if_is i =
      let o = out-If i in
      ap (in_if file owner) (sym (roll-out-If i))
      ∙ if_at o.token o.condition o.body o.others o.last
      ∙ ap (λ ds. in_stmt file owner o.body ++ ds ++ in_last file owner o.last) (flat_map-map (λ ds. ds) (in_else_if file owner) o.others)

  pub item_is : (i : CaseItem) → in_item file owner i ≡ in_stmt file owner (out-CaseItem i).body
  item_is i = ap (in_item file owner) (sym (roll-out-CaseItem i)) ∙ fold-roll-CaseItem Ds Ds Ds Ds Ds Ds (stmt_step file owner) (block_step file owner) (item_step file owner) (else_step file owner) (else_if_step file owner) (if_step file owner) (out-CaseItem i)

  pub else_if_is : (p : ElseIf) → in_else_if file owner p ≡ in_stmt file owner (out-ElseIf p).body
  else_if_is p = ap (in_else_if file owner) (sym (roll-out-ElseIf p)) ∙ fold-roll-ElseIf Ds Ds Ds Ds Ds Ds (stmt_step file owner) (block_step file owner) (item_step file owner) (else_step file owner) (else_if_step file owner) (if_step file owner) (out-ElseIf p)

  pub else_is : (e : Else) → in_else file owner e ≡ in_stmt file owner (out-Else e).body
  else_is e = ap (in_else file owner) (sym (roll-out-Else e)) ∙ fold-roll-Else Ds Ds Ds Ds Ds Ds (stmt_step file owner) (block_step file owner) (item_step file owner) (else_step file owner) (else_if_step file owner) (if_step file owner) (out-Else e)

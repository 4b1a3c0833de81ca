-- What expressions of several parts break.
use Rattle.std.proofs.Common.{◌≡◌, ℕ, map, ◌++◌, sym, ap, ◌∙◌, Option, Some, None}
use Rattle.std.specs.Prelude.{option_map}
use Rattle.c_tree.specs.declared.expr.CExpr.{CExpr, out-CExpr, roll-out-CExpr, fold-roll-CExpr}
use Rattle.c_tree.specs.declared.expr.Assignment.{Assignment, out-Assignment, roll-out-Assignment, fold-roll-Assignment}
use Rattle.c_tree.specs.declared.expr.Cond.{Cond, out-Cond, roll-Cond, roll-out-Cond, fold-roll-Cond}
use Rattle.c_tree.specs.declared.expr.Choice.{Choice, out-Choice, roll-out-Choice, fold-roll-Choice}
use Rattle.c_tree.specs.declared.expr.Chain.{Chain, out-Chain, roll-out-Chain, fold-roll-Chain}
use Rattle.c_tree.specs.declared.expr.Operand.{Operand, out-Operand, roll-out-Operand, fold-roll-Operand}
use Rattle.c_calls.specs.Refusals.{Rules}
use Rattle.c_calls.specs.Expressions.{Broken, all_of, where_there, primary_step, suffix_step, assignment_step, expr_step, chain_step, choice_step, cond_step, operand_step, term_step, in_expr, in_assignment, in_cond, in_choice, in_chain, in_term, in_operand, in_primary, in_suffix}

pub expr_is : (file : ℕ) (rules : Rules) (e : CExpr) → in_expr file rules e ≡ in_cond file rules (out-CExpr e).first ++ all_of (map (in_assignment file rules) (out-CExpr e).rest)
expr_is file rules e = ap (in_expr file rules) (sym (roll-out-CExpr e)) ∙ fold-roll-CExpr Broken Broken Broken Broken Broken Broken Broken Broken Broken (primary_step file rules) (suffix_step file rules) (assignment_step file rules) (expr_step file rules) (chain_step file rules) (choice_step file rules) (cond_step file rules) (operand_step file rules) (term_step file rules) (out-CExpr e)

pub chain_is : (file : ℕ) (rules : Rules) (c : Chain) → in_chain file rules c ≡ in_operand file rules (out-Chain c).first ++ all_of (map (in_term file rules) (out-Chain c).rest)
chain_is file rules c = ap (in_chain file rules) (sym (roll-out-Chain c)) ∙ fold-roll-Chain Broken Broken Broken Broken Broken Broken Broken Broken Broken (primary_step file rules) (suffix_step file rules) (assignment_step file rules) (expr_step file rules) (chain_step file rules) (choice_step file rules) (cond_step file rules) (operand_step file rules) (term_step file rules) (out-Chain c)

pub choice_is : (file : ℕ) (rules : Rules) (c : Choice) → in_choice file rules c ≡ in_expr file rules (out-Choice c).yes ++ in_cond file rules (out-Choice c).no
choice_is file rules c = ap (in_choice file rules) (sym (roll-out-Choice c)) ∙ fold-roll-Choice Broken Broken Broken Broken Broken Broken Broken Broken Broken (primary_step file rules) (suffix_step file rules) (assignment_step file rules) (expr_step file rules) (chain_step file rules) (choice_step file rules) (cond_step file rules) (operand_step file rules) (term_step file rules) (out-Choice c)

pub operand_is : (file : ℕ) (rules : Rules) (o : Operand) → in_operand file rules o ≡ in_primary file rules (out-Operand o).primary ++ all_of (map (in_suffix file rules) (out-Operand o).suffixes)
operand_is file rules o = ap (in_operand file rules) (sym (roll-out-Operand o)) ∙ fold-roll-Operand Broken Broken Broken Broken Broken Broken Broken Broken Broken (primary_step file rules) (suffix_step file rules) (assignment_step file rules) (expr_step file rules) (chain_step file rules) (choice_step file rules) (cond_step file rules) (operand_step file rules) (term_step file rules) (out-Operand o)

cond_at : (file : ℕ) (rules : Rules) (k : ℕ) (c : Chain) (o : Option Choice) → in_cond file rules (roll-Cond (record { token = k; chain = c; choice = o })) ≡ in_chain file rules c ++ where_there (option_map (in_choice file rules) o)
cond_at file rules k c None = fold-roll-Cond Broken Broken Broken Broken Broken Broken Broken Broken Broken (primary_step file rules) (suffix_step file rules) (assignment_step file rules) (expr_step file rules) (chain_step file rules) (choice_step file rules) (cond_step file rules) (operand_step file rules) (term_step file rules) _
cond_at file rules k c (Some o) = fold-roll-Cond Broken Broken Broken Broken Broken Broken Broken Broken Broken (primary_step file rules) (suffix_step file rules) (assignment_step file rules) (expr_step file rules) (chain_step file rules) (choice_step file rules) (cond_step file rules) (operand_step file rules) (term_step file rules) _

pub cond_is : (file : ℕ) (rules : Rules) (c : Cond) → in_cond file rules c ≡ in_chain file rules (out-Cond c).chain ++ where_there (option_map (in_choice file rules) (out-Cond c).choice)
cond_is file rules c = ap (in_cond file rules) (sym (roll-out-Cond c)) ∙ cond_at file rules (out-Cond c).token (out-Cond c).chain (out-Cond c).choice

-- What expressions of several parts break.
use Rattle.std.proofs.Common.{◌≡◌, ℕ, map, ◌++◌, sym, ap, ◌∙◌, Option, Some, None}
use Rattle.std.specs.Prelude.{option_map}
use Rattle.sv_tree.specs.declared.expr.Expr.{Expr, out-Expr, roll-Expr, roll-out-Expr, fold-roll-Expr}
use Rattle.sv_tree.specs.declared.expr.Choice.{Choice, out-Choice, roll-out-Choice, fold-roll-Choice}
use Rattle.sv_tree.specs.declared.expr.Chain.{Chain, out-Chain, roll-out-Chain, fold-roll-Chain}
use Rattle.sv_forms.specs.Calls.{Broken, all_of, where_there, primary_step, select_step, call_step, chain_step, choice_step, expr_step, lvalue_step, operand_step, term_step, in_expr, in_choice, in_chain, in_operand, in_term}

pub chain_is : (file : ℕ) (c : Chain) → in_chain file c ≡ in_operand file (out-Chain c).first ++ all_of (map (in_term file) (out-Chain c).rest)
chain_is file c = ap (in_chain file) (sym (roll-out-Chain c)) ∙ fold-roll-Chain Broken Broken Broken Broken Broken Broken Broken Broken Broken (primary_step file) (select_step file) (call_step file) (chain_step file) (choice_step file) (expr_step file) (lvalue_step file) (operand_step file) (term_step file) (out-Chain c)

pub choice_is : (file : ℕ) (c : Choice) → in_choice file c ≡ in_expr file (out-Choice c).yes ++ in_expr file (out-Choice c).no
choice_is file c = ap (in_choice file) (sym (roll-out-Choice c)) ∙ fold-roll-Choice Broken Broken Broken Broken Broken Broken Broken Broken Broken (primary_step file) (select_step file) (call_step file) (chain_step file) (choice_step file) (expr_step file) (lvalue_step file) (operand_step file) (term_step file) (out-Choice c)

expr_at : (file k : ℕ) (c : Chain) (o : Option Choice) → in_expr file (roll-Expr (record { token = k; chain = c; choice = o })) ≡ in_chain file c ++ where_there (option_map (in_choice file) o)
expr_at file k c None = fold-roll-Expr Broken Broken Broken Broken Broken Broken Broken Broken Broken (primary_step file) (select_step file) (call_step file) (chain_step file) (choice_step file) (expr_step file) (lvalue_step file) (operand_step file) (term_step file) _
expr_at file k c (Some o) = fold-roll-Expr Broken Broken Broken Broken Broken Broken Broken Broken Broken (primary_step file) (select_step file) (call_step file) (chain_step file) (choice_step file) (expr_step file) (lvalue_step file) (operand_step file) (term_step file) _

pub expr_is : (file : ℕ) (e : Expr) → in_expr file e ≡ in_chain file (out-Expr e).chain ++ where_there (option_map (in_choice file) (out-Expr e).choice)
expr_is file e = ap (in_expr file) (sym (roll-out-Expr e)) ∙ expr_at file (out-Expr e).token (out-Expr e).chain (out-Expr e).choice

-- What each part of an expression is, by its own parts.
use Rattle.std.proofs.Common.{◌≡◌, ℕ, List, map, sym, ap, ◌∙◌, Option, Some, None, Bool, true, false, ◌⊎◌, inl, inr}
use Rattle.std.specs.Prelude.{option_map}
use Rattle.sv_tree.specs.declared.leaves.Number.{Number}
use Rattle.sv_tree.specs.declared.expr.Expr.{Expr, out-Expr, roll-Expr, roll-out-Expr, fold-roll-Expr}
use Rattle.sv_tree.specs.declared.expr.Choice.{Choice, out-Choice, roll-out-Choice, fold-roll-Choice}
use Rattle.sv_tree.specs.declared.expr.Chain.{Chain, out-Chain, roll-out-Chain, fold-roll-Chain}
use Rattle.sv_tree.specs.declared.expr.Term.{Term, out-Term, roll-out-Term, fold-roll-Term}
use Rattle.sv_tree.specs.declared.expr.Operand.{Operand as OperandTree, out-Operand, roll-out-Operand, fold-roll-Operand}
use Rattle.sv_tree.specs.declared.expr.Primary.{fold-roll-Primary}
use Rattle.sv_tree.specs.declared.expr.Primary.TheVariants as primaries
use Rattle.sv_tree.specs.declared.expr.Primary.TheOpen.{Primary-F, Select-F}
use Rattle.sv_tree.specs.declared.expr.Lvalue.{Lvalue, out-Lvalue, roll-out-Lvalue, fold-roll-Lvalue}
use Rattle.sv_tree.specs.declared.expr.Select.{Select, fold-roll-Select}
use Rattle.sv_tree.specs.declared.expr.Select.TheVariants as selects
use Rattle.sv_tree.specs.declared.expr.Call.{Call, out-Call, roll-out-Call, fold-roll-Call}
use Rattle.sv_typing.specs.Judged.{behind}
use Rattle.sv_typing.specs.Chains.{chain_judged}
use Rattle.sv_typing.specs.Concatenations.{concatenated, repeated, count_of, cast}
use Rattle.sv_typing.specs.declared.selects.Selected.{Selected}
use Rattle.sv_typing.specs.Selects.{Narrowed, indexed, sliced, part_size}
use Rattle.sv_judge.specs.Forms.{joint, chain_form}
use Rattle.sv_judge.specs.Calls.{Env}
use Rattle.sv_judge.specs.Judge.{Seen, Actual, Selects, Calls, Choices, Links, judged_of, seen_other, with_prefixes, is_none_left, place_selected, narrowed_behind, call_judged, parts_found, chosen_by, with_choice, primary_step, select_step, call_step, chain_step, choice_step, expr_step, lvalue_step, operand_step, term_step, actual, call, lvalue, primary, operand_seen, term, chain, choice, select, judge}

expr_at : (env : Env) (k : ℕ) (c : Chain) (o : Option Choice) → actual env (roll-Expr (record { token = k; chain = c; choice = o })) ≡ record { token = k; seen = with_choice (chain env c) (option_map (choice env) o) }
expr_at env k c None = fold-roll-Expr Seen Selects Calls Seen Choices Actual Narrowed Seen Links (primary_step env) (select_step env) (call_step env) (chain_step env) (choice_step env) (expr_step env) (lvalue_step env) (operand_step env) (term_step env) _
expr_at env k c (Some b) = fold-roll-Expr Seen Selects Calls Seen Choices Actual Narrowed Seen Links (primary_step env) (select_step env) (call_step env) (chain_step env) (choice_step env) (expr_step env) (lvalue_step env) (operand_step env) (term_step env) _

pub expr_is : (env : Env) (e : Expr) → actual env e ≡ record { token = (out-Expr e).token; seen = with_choice (chain env (out-Expr e).chain) (option_map (choice env) (out-Expr e).choice) }
expr_is env e = ap (actual env) (sym (roll-out-Expr e)) ∙ expr_at env (out-Expr e).token (out-Expr e).chain (out-Expr e).choice

pub choice_is : (env : Env) (b : Choice) → choice env b ≡ chosen_by env.file (out-Choice b).token (judge env (out-Choice b).yes) (judge env (out-Choice b).no)
choice_is env b =
    ap (choice env) (sym (roll-out-Choice b))
    ∙ fold-roll-Choice Seen Selects Calls Seen Choices Actual Narrowed Seen Links (primary_step env) (select_step env) (call_step env) (chain_step env) (choice_step env) (expr_step env) (lvalue_step env) (operand_step env) (term_step env) (out-Choice b)

pub chain_is : (env : Env) (c : Chain) → chain env c ≡ (let o = out-Chain c in let rest = map (term env) o.rest in let j = chain_judged (judged_of (operand_seen env o.first)) rest in record { found = j.found; whole = record { value = j.value; form = chain_form (operand_seen env o.first).whole.form (is_none_left rest) } })
chain_is env c =
    ap (chain env) (sym (roll-out-Chain c))
    ∙ fold-roll-Chain Seen Selects Calls Seen Choices Actual Narrowed Seen Links (primary_step env) (select_step env) (call_step env) (chain_step env) (choice_step env) (expr_step env) (lvalue_step env) (operand_step env) (term_step env) (out-Chain c)

pub term_is : (env : Env) (t : Term) → term env t ≡ record { operator = record { file = env.file; token = (out-Term t).token; operator = (out-Term t).operator }; operand = judged_of (operand_seen env (out-Term t).operand) }
term_is env t =
    ap (term env) (sym (roll-out-Term t))
    ∙ fold-roll-Term Seen Selects Calls Seen Choices Actual Narrowed Seen Links (primary_step env) (select_step env) (call_step env) (chain_step env) (choice_step env) (expr_step env) (lvalue_step env) (operand_step env) (term_step env) (out-Term t)

pub operand_is : (env : Env) (o : OperandTree) → operand_seen env o ≡ with_prefixes env.file (out-Operand o).prefixes (primary env (out-Operand o).primary)
operand_is env o =
    ap (operand_seen env) (sym (roll-out-Operand o))
    ∙ fold-roll-Operand Seen Selects Calls Seen Choices Actual Narrowed Seen Links (primary_step env) (select_step env) (call_step env) (chain_step env) (choice_step env) (expr_step env) (lvalue_step env) (operand_step env) (term_step env) (out-Operand o)

pub lvalue_is : (env : Env) (l : Lvalue) → lvalue env l ≡ place_selected env.file (out-Lvalue l).name.token (env.values (out-Lvalue l).name.bytes) (map (select env) (out-Lvalue l).selects)
lvalue_is env l =
    ap (lvalue env) (sym (roll-out-Lvalue l))
    ∙ fold-roll-Lvalue Seen Selects Calls Seen Choices Actual Narrowed Seen Links (primary_step env) (select_step env) (call_step env) (chain_step env) (choice_step env) (expr_step env) (lvalue_step env) (operand_step env) (term_step env) (out-Lvalue l)

pub call_is : (env : Env) (c : Call) (statement : Bool) → call env c statement ≡ call_judged env (out-Call c).name.token (env.calls (out-Call c).name.bytes) statement (map (actual env) (out-Call c).actuals)
call_is env c statement = ap (λ f. f statement) (
    ap (call env) (sym (roll-out-Call c))
    ∙ fold-roll-Call Seen Selects Calls Seen Choices Actual Narrowed Seen Links (primary_step env) (select_step env) (call_step env) (chain_step env) (choice_step env) (expr_step env) (lvalue_step env) (operand_step env) (term_step env) (out-Call c))

pub concatenation_is : (env : Env) (k : ℕ) (es : List Expr) → primary env (primaries.Concatenation k es) ≡ (let parts = map (actual env) es in seen_other (behind (parts_found parts) (concatenated env.file k (map (λ (a : Actual). joint a.seen.whole) parts))))
concatenation_is env k es =
    ap (primary env) (sym (primaries.rolls-Concatenation k es))
    ∙ fold-roll-Primary Seen Selects Calls Seen Choices Actual Narrowed Seen Links (primary_step env) (select_step env) (call_step env) (chain_step env) (choice_step env) (expr_step env) (lvalue_step env) (operand_step env) (term_step env) (Primary-F.Concatenation k es)

pub repetition_is : (env : Env) (k : ℕ) (n : Number) (es : List Expr) → primary env (primaries.Repetition k n es) ≡ (let parts = map (actual env) es in seen_other (behind (parts_found parts) (repeated env.file k (count_of n.bytes) (map (λ (a : Actual). joint a.seen.whole) parts))))
repetition_is env k n es =
    ap (primary env) (sym (primaries.rolls-Repetition k n es))
    ∙ fold-roll-Primary Seen Selects Calls Seen Choices Actual Narrowed Seen Links (primary_step env) (select_step env) (call_step env) (chain_step env) (choice_step env) (expr_step env) (lvalue_step env) (operand_step env) (term_step env) (Primary-F.Repetition k n es)

pub signed_is : (env : Env) (k : ℕ) (e : Expr) → primary env (primaries.Signed k e) ≡ seen_other (behind (judge env e).found (cast env.file k true (judge env e).whole.value))
signed_is env k e =
    ap (primary env) (sym (primaries.rolls-Signed k e))
    ∙ fold-roll-Primary Seen Selects Calls Seen Choices Actual Narrowed Seen Links (primary_step env) (select_step env) (call_step env) (chain_step env) (choice_step env) (expr_step env) (lvalue_step env) (operand_step env) (term_step env) (Primary-F.Signed k e)

pub unsigned_is : (env : Env) (k : ℕ) (e : Expr) → primary env (primaries.Unsigned k e) ≡ seen_other (behind (judge env e).found (cast env.file k false (judge env e).whole.value))
unsigned_is env k e =
    ap (primary env) (sym (primaries.rolls-Unsigned k e))
    ∙ fold-roll-Primary Seen Selects Calls Seen Choices Actual Narrowed Seen Links (primary_step env) (select_step env) (call_step env) (chain_step env) (choice_step env) (expr_step env) (lvalue_step env) (operand_step env) (term_step env) (Primary-F.Unsigned k e)

pub index_is : (env : Env) (k : ℕ) (e : Expr) (s : Option Selected) → select env (selects.Index k e) s ≡ narrowed_behind (judge env e).found (indexed env.file k s (judge env e).whole.value)
index_is env k e s = ap (λ f. f s) (
    ap (select env) (sym (selects.rolls-Index k e))
    ∙ fold-roll-Select Seen Selects Calls Seen Choices Actual Narrowed Seen Links (primary_step env) (select_step env) (call_step env) (chain_step env) (choice_step env) (expr_step env) (lvalue_step env) (operand_step env) (term_step env) (Select-F.Index k e))

up_is : (env : Env) (k : ℕ) (e : Expr) (n : Number) (s : Option Selected) → select env (selects.Up k e n) s ≡ narrowed_behind (judge env e).found (sliced env.file k s (judge env e).whole.value (part_size n.bytes))
up_is env k e n s = ap (λ f. f s) (
    ap (select env) (sym (selects.rolls-Up k e n))
    ∙ fold-roll-Select Seen Selects Calls Seen Choices Actual Narrowed Seen Links (primary_step env) (select_step env) (call_step env) (chain_step env) (choice_step env) (expr_step env) (lvalue_step env) (operand_step env) (term_step env) (Select-F.Up k e n))

down_is : (env : Env) (k : ℕ) (e : Expr) (n : Number) (s : Option Selected) → select env (selects.Down k e n) s ≡ narrowed_behind (judge env e).found (sliced env.file k s (judge env e).whole.value (part_size n.bytes))
down_is env k e n s = ap (λ f. f s) (
    ap (select env) (sym (selects.rolls-Down k e n))
    ∙ fold-roll-Select Seen Selects Calls Seen Choices Actual Narrowed Seen Links (primary_step env) (select_step env) (call_step env) (chain_step env) (choice_step env) (expr_step env) (lvalue_step env) (operand_step env) (term_step env) (Select-F.Down k e n))

-- a part from an index on, in either direction
pub slice_is : (env : Env) (x : Select) (k : ℕ) (e : Expr) (n : Number) (s : Option Selected) → (x ≡ selects.Up k e n) ⊎ (x ≡ selects.Down k e n)
    → select env x s ≡ narrowed_behind (judge env e).found (sliced env.file k s (judge env e).whole.value (part_size n.bytes))
slice_is env x k e n s (inl h) = ap (λ y. select env y s) h ∙ up_is env k e n s
slice_is env x k e n s (inr h) = ap (λ y. select env y s) h ∙ down_is env k e n s

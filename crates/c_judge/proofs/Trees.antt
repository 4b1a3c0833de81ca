-- What each part of an expression is, by its own parts.
use Rattle.std.proofs.Common.{◌≡◌, ℕ, ◌++◌, map, sym, ap, ◌∙◌, Option, Some, None}
use Rattle.std.specs.Prelude.{option_map}
use Rattle.c_tree.specs.declared.expr.CExpr.{CExpr, out-CExpr, roll-out-CExpr, fold-roll-CExpr}
use Rattle.c_tree.specs.declared.expr.Assignment.{Assignment, out-Assignment, roll-out-Assignment, fold-roll-Assignment}
use Rattle.c_tree.specs.declared.expr.Cond.{Cond, out-Cond, roll-Cond, roll-out-Cond, fold-roll-Cond}
use Rattle.c_tree.specs.declared.expr.Choice.{Choice, out-Choice, roll-out-Choice, fold-roll-Choice}
use Rattle.c_tree.specs.declared.expr.Chain.{Chain, out-Chain, roll-out-Chain, fold-roll-Chain}
use Rattle.c_tree.specs.declared.expr.Term.{Term, out-Term, roll-out-Term, fold-roll-Term}
use Rattle.c_tree.specs.declared.expr.Operand.{Operand as OperandTree, out-Operand, roll-out-Operand, fold-roll-Operand}
use Rattle.c_tree.specs.declared.expr.Suffix.{fold-roll-Suffix}
use Rattle.c_tree.specs.declared.expr.Suffix.TheVariants as suffixes
use Rattle.c_tree.specs.declared.expr.Primary.TheOpen.{Suffix-F}
use Rattle.c_typing.specs.declared.place.Place.{Place}
use Rattle.c_typing.specs.declared.operand.Operand.{Operand}
use Rattle.c_typing.specs.Choices as choices
use Rattle.c_typing.specs.Postfix.{index}
use Rattle.c_judge.specs.Words.{bare, alone, unchosen}
use Rattle.c_judge.specs.Calls.{Env, at}
use Rattle.c_judge.specs.Judge.{Seen, Placed, Assigned, Suffixes, Choices, Links, behind, assigned, with_choice, chain_judged, prefixes_judged, suffixes_judged, primary_step, suffix_step, assignment_step, expr_step, chain_step, choice_step, cond_step, operand_step, term_step, placed, primary, suffix, assignment_of, chain, choice, cond, operand, term, judge}

pub expr_is : (env : Env) (x : CExpr) → placed env x ≡ (let o = out-CExpr x in let rest = map (assignment_of env) o.rest in record { token = o.token; judged = assigned env (cond env o.first).judged rest; word = alone (cond env o.first).word rest })
expr_is env x =
    ap (placed env) (sym (roll-out-CExpr x))
    ∙ fold-roll-CExpr Seen Suffixes Assigned Placed Seen Choices Placed Seen Links (primary_step env) (suffix_step env) (assignment_step env) (expr_step env) (chain_step env) (choice_step env) (cond_step env) (operand_step env) (term_step env) (out-CExpr x)

pub assignment_is : (env : Env) (x : Assignment) → assignment_of env x ≡ (let o = out-Assignment x in let v = cond env o.value in record { found = v.judged.found; side = record { token = o.token; first = v.token; operator = o.operator; value = v.judged.value } })
assignment_is env x =
    ap (assignment_of env) (sym (roll-out-Assignment x))
    ∙ fold-roll-Assignment Seen Suffixes Assigned Placed Seen Choices Placed Seen Links (primary_step env) (suffix_step env) (assignment_step env) (expr_step env) (chain_step env) (choice_step env) (cond_step env) (operand_step env) (term_step env) (out-Assignment x)

cond_at : (env : Env) (k : ℕ) (c : Chain) (o : Option Choice) → cond env (roll-Cond (record { token = k; chain = c; choice = o })) ≡ record { token = k; judged = with_choice (at env k) (chain env c).judged (option_map (choice env) o); word = unchosen (chain env c).word (option_map (choice env) o) }
cond_at env k c None = fold-roll-Cond Seen Suffixes Assigned Placed Seen Choices Placed Seen Links (primary_step env) (suffix_step env) (assignment_step env) (expr_step env) (chain_step env) (choice_step env) (cond_step env) (operand_step env) (term_step env) _
cond_at env k c (Some b) = fold-roll-Cond Seen Suffixes Assigned Placed Seen Choices Placed Seen Links (primary_step env) (suffix_step env) (assignment_step env) (expr_step env) (chain_step env) (choice_step env) (cond_step env) (operand_step env) (term_step env) _

pub cond_is : (env : Env) (x : Cond) → cond env x ≡ (let k = (out-Cond x).token in let c = chain env (out-Cond x).chain in let o = option_map (choice env) (out-Cond x).choice in record { token = k; judged = with_choice (at env k) c.judged o; word = unchosen c.word o })
cond_is env x = ap (cond env) (sym (roll-out-Cond x)) ∙ cond_at env (out-Cond x).token (out-Cond x).chain (out-Cond x).choice

pub choice_is : (env : Env) (x : Choice) (place : Place) (condition : Option Operand) → choice env x place condition ≡ (let o = out-Choice x in let yes = judge env o.yes in let no = (cond env o.no).judged in behind (yes.found ++ no.found) (choices.choice place (at env o.token) condition yes.value no.value))
choice_is env x place condition = ap (λ (f : Choices). f place condition) (
    ap (choice env) (sym (roll-out-Choice x))
    ∙ fold-roll-Choice Seen Suffixes Assigned Placed Seen Choices Placed Seen Links (primary_step env) (suffix_step env) (assignment_step env) (expr_step env) (chain_step env) (choice_step env) (cond_step env) (operand_step env) (term_step env) (out-Choice x))

pub chain_is : (env : Env) (x : Chain) → chain env x ≡ (let o = out-Chain x in let rest = map (term env) o.rest in record { judged = chain_judged (operand env o.first).judged rest; word = alone (operand env o.first).word rest })
chain_is env x =
    ap (chain env) (sym (roll-out-Chain x))
    ∙ fold-roll-Chain Seen Suffixes Assigned Placed Seen Choices Placed Seen Links (primary_step env) (suffix_step env) (assignment_step env) (expr_step env) (chain_step env) (choice_step env) (cond_step env) (operand_step env) (term_step env) (out-Chain x)

pub term_is : (env : Env) (x : Term) → term env x ≡ record { operator = record { place = at env (out-Term x).token; operator = (out-Term x).operator }; operand = (operand env (out-Term x).operand).judged }
term_is env x =
    ap (term env) (sym (roll-out-Term x))
    ∙ fold-roll-Term Seen Suffixes Assigned Placed Seen Choices Placed Seen Links (primary_step env) (suffix_step env) (assignment_step env) (expr_step env) (chain_step env) (choice_step env) (cond_step env) (operand_step env) (term_step env) (out-Term x)

pub operand_is : (env : Env) (x : OperandTree) → operand env x ≡ (let o = out-Operand x in let p = primary env o.primary in let fs = map (suffix env) o.suffixes in record { judged = prefixes_judged env o.prefixes (suffixes_judged fs p.judged); word = bare o.prefixes fs p.word })
operand_is env x =
    ap (operand env) (sym (roll-out-Operand x))
    ∙ fold-roll-Operand Seen Suffixes Assigned Placed Seen Choices Placed Seen Links (primary_step env) (suffix_step env) (assignment_step env) (expr_step env) (chain_step env) (choice_step env) (cond_step env) (operand_step env) (term_step env) (out-Operand x)

pub index_is : (env : Env) (k : ℕ) (e : CExpr) (o : Option Operand) → suffix env (suffixes.Index k e) o ≡ behind (judge env e).found (index (at env k) o (judge env e).value)
index_is env k e o = ap (λ (f : Suffixes). f o) (
    ap (suffix env) (sym (suffixes.rolls-Index k e))
    ∙ fold-roll-Suffix Seen Suffixes Assigned Placed Seen Choices Placed Seen Links (primary_step env) (suffix_step env) (assignment_step env) (expr_step env) (chain_step env) (choice_step env) (cond_step env) (operand_step env) (term_step env) (Suffix-F.Index k e))

-- the first token of an expression and of a part of one
pub expr_token : (env : Env) (x : CExpr) → (out-CExpr x).token ≡ (placed env x).token
expr_token env x = sym (ap (λ (p : Placed). p.token) (expr_is env x))

pub cond_token : (env : Env) (x : Cond) → (out-Cond x).token ≡ (cond env x).token
cond_token env x = sym (ap (λ (p : Placed). p.token) (cond_is env x))

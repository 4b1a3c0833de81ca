-- The parsers of expressions are exact at each number of levels; what statements and items stand on.
use Rattle.std.proofs.Common.{ℕ, zero, suc, Bool, List, ◌++◌, Option, refl, arith}
use Rattle.dpi_grammar.proofs.Rules.{Rule, never, Inside}
use Rattle.dpi_grammar.proofs.Many.{Apart}
use Rattle.dpi_lex.specs.Words.{Word}
use Rattle.sv_tree.specs.declared.class.Class.TheVariants as classes
use Rattle.sv_tree.specs.declared.expr.Expr.{Expr}
use Rattle.sv_tree.specs.Classes.{is}
use Rattle.sv_tree.proofs.ClassLemmas.{knows}
use Rattle.sv_expr.specs.Front.{begins_expr}
use Rattle.sv_expr.specs.Reading as spec
use Rattle.sv_expr.proofs.Goes.{an_expr, an_lvalue}
use Rattle.sv_expr.proofs.Alternatives.{lively}
use Rattle.sv_expr.proofs.PartRules.{Good, some_exprs, more_exprs, exprs_or_none, some_actuals, put_expr, exprs_by_rule, more_exprs_by_rule, listed_by_rule, actuals_by_rule}
use Rattle.sv_expr.proofs.SelectRules.{some_selects, selects_in_rule}
use Rattle.sv_expr.proofs.PlaceRules.{a_flat_call, lvalue_by_rule, flat_call_by_rule}
use Rattle.sv_expr.proofs.ChainRules.{expr_in_rule}
use Rattle.sv_expr.proofs.PrimaryRules.{primary_rule}

level_rule : (d : ℕ) (inner : spec.Inner) → Inside Good d inner → Good (Unit {0}) d (spec.expr_in inner)
level_rule d inner h = expr_in_rule d inner h (primary_rule d inner h)

-- what reads an expression inside is exact
pub inside_good : (d : ℕ) → Inside Good d (spec.inside d)
inside_good zero = refl
inside_good (suc d) = (d, omega arith, level_rule d (spec.inside d) (inside_good d))

-- an expression at this number of levels
pub good_expr : {live : Type 0} (d : ℕ) → Good live d (spec.expr d)
good_expr d = lively (level_rule d (spec.inside d) (inside_good d))

pub expr_rule : {live : Type 0} {before : Option Word → Bool} (d : ℕ) → Apart begins_expr before → Rule live before an_expr (λ x. x) d (spec.expr d)
expr_rule {before = before} d apart = put_expr (good_expr d) before apart

pub exprs_rule : {live : Type 0} {before : Option Word → Bool} (d : ℕ) → Apart begins_expr before → Rule live before some_exprs (λ xs. xs) d (spec.exprs d)
exprs_rule {before = before} d apart = exprs_by_rule (good_expr d) before apart

pub more_exprs_rule : {live : Type 0} (prior : Option Word → Bool) (d : ℕ) (found : List Expr) → Apart (is classes.Comma) prior
    → Rule live prior (more_exprs prior) (λ xs. found ++ xs) d (spec.more_exprs d found)
more_exprs_rule prior d found apart = more_exprs_by_rule (good_expr d) prior apart found

pub listed_rule : {live : Type 0} (prior : Option Word → Bool) (d : ℕ) → Apart begins_expr prior → Rule live prior (exprs_or_none prior) (λ xs. xs) d (spec.listed_by (spec.expr d))
listed_rule prior d apart = listed_by_rule (good_expr d) prior apart

pub selects_rule : {live : Type 0} (prior : Option Word → Bool) (d : ℕ) → Apart (is classes.OpenBracket) prior → Rule live prior (some_selects prior) (λ ss. ss) d (spec.selects d)
selects_rule prior d apart = selects_in_rule prior (apart _ (knows classes.OpenBracket refl).yes) d (spec.inside d) (inside_good d)

pub lvalue_rule : {live : Type 0} {before : Option Word → Bool} (d : ℕ) → Apart (is classes.Name) before → Rule live before an_lvalue (λ x. x) d (spec.lvalue d)
lvalue_rule d apart = lvalue_by_rule d (inside_good d) apart

-- "(" (expr,+)? ")", where its level was opened before
pub actuals_rule : {live : Type 0} (d : ℕ) → Rule live never some_actuals (λ p. p) d (spec.actuals_by (spec.expr d))
actuals_rule d = actuals_by_rule (good_expr d)

pub flat_call_rule : {live : Type 0} {before : Option Word → Bool} (d : ℕ) → Apart (is classes.Name) before → Rule live before a_flat_call (λ x. x) d (spec.flat_call d)
flat_call_rule d apart = flat_call_by_rule d (good_expr d) apart

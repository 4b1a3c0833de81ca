-- The parsers of expressions are exact at each number of levels.
use Rattle.std.proofs.Common.{ℕ, zero, suc, Bool, List, [], Option, Ok, refl, arith}
use Rattle.dpi_grammar.specs.Parser.{and_then, expect, token, more}
use Rattle.dpi_grammar.proofs.Exact.{Kind, pair}
use Rattle.dpi_grammar.proofs.Rules.{Rule, never, Inside, place, behind, numbered, token_then, seq, mapped, told_as, plainly}
use Rattle.dpi_grammar.proofs.Many.{Apart, Repeats, many, commas, separate, put_apart}
use Rattle.dpi_grammar.proofs.Deeper.{deeper_rule, Opens, perhaps_deeper}
use Rattle.dpi_lex.specs.Words.{Word}
use Rattle.c_tree.specs.declared.class.Class.TheVariants as classes
use Rattle.c_tree.specs.declared.operators.BinaryOperator.TheVariants as binary
use Rattle.c_tree.specs.declared.operators.AssignOperator.TheVariants as assign
use Rattle.c_tree.specs.declared.expr.CExpr.{CExpr}
use Rattle.c_tree.specs.declared.expr.Cond.{Cond}
use Rattle.c_tree.specs.declared.expr.Choice.{out-Choice, roll-out-Choice}
use Rattle.c_tree.specs.Classes.{class_at, is, word_of}
use Rattle.c_tree.specs.Operators.{binary_of, assign_of}
use Rattle.c_tree.specs.Leaves.{comma}
use Rattle.c_tree.proofs.ClassLemmas.{knows}
use Rattle.c_expr.specs.Front.{begins_expr, begins_term, begins_assignment}
use Rattle.c_expr.specs.Reading as spec
use Rattle.c_expr.specs.Reading.{Readers, Inner}
use Rattle.c_expr.proofs.Trees.{expr, assignment, cond, choice, chain, term, choice_tells}
use Rattle.c_expr.proofs.Goes.{an_operand, a_term, a_chain, a_choice, a_cond, an_assignment, an_expr, term_grabs_are, chain_grabs_are, choice_grabs_are, cond_grabs_are, assignment_grabs_are, expr_grabs_are}
use Rattle.c_expr.proofs.Operators.{binary_reader, assign_reader}
use Rattle.c_expr.proofs.Frees.{expr_stops, operand_apart, terms_apart, cond_apart, assignments_apart, chain_question}
use Rattle.c_expr.proofs.PartRules.{no_class}
use Rattle.c_expr.proofs.Starts.{term_of, term_says, term_all, term_starts, binary_word, assignment_of, assignment_says, assignment_all, assignment_starts, assign_word, chain_of, chain_says, chain_all, cond_of, cond_says, cond_all, choice_starts, choice_high, expr_of, expr_says, expr_all, expr_starts}
use Rattle.c_expr.proofs.Leads.{Good, no_good}
use Rattle.c_expr.proofs.OperandRules.{operand_rule}

-- ---- "?" expr ":" cond

abbrev flat_choice : Kind Word (ℕ × (CExpr × Cond))
flat_choice = pair (place never) (λ _. behind (word_of classes.Question) (pair an_expr (λ _. behind (word_of classes.Colon) a_cond)))

flat_choice_rule : {live : Type 0} {d : ℕ} {e : Readers} → Good live d e → Rule live never flat_choice (λ p. choice p.0 p.1.0 p.1.1) d (spec.choice_by e)
unfolding spec.choice_by
flat_choice_rule {e = e} good =
    numbered (λ k p. choice k p.0 p.1)
    (λ k s. and_then (expect (is classes.Question) s) (λ _ s. and_then (e.expr s) (λ x s. and_then (expect (is classes.Colon) s) (λ _ s. and_then (e.cond s) (λ y s. Ok (choice k x y, s))))))
    (λ k. token_then (is classes.Question) (word_of classes.Question) (knows classes.Question refl) refl
    (seq (λ x. x) (λ x y. choice k x y) (λ x s. and_then (expect (is classes.Colon) s) (λ _ s. and_then (e.cond s) (λ y s. Ok (choice k x y, s)))) good.expr
    (λ x. token_then (is classes.Colon) (word_of classes.Colon) (knows classes.Colon refl) (expr_stops classes.Colon refl refl x) (mapped (choice k x) good.cond))))

-- it opens a level
choice_open : Opens Good (is classes.Question) (word_of classes.Question) a_choice spec.choice_by
choice_open = record {
  rule = λ live m e good. told_as a_choice (λ (p : ℕ × (CExpr × Cond)). choice p.0 p.1.0 p.1.1) (λ x. x) (λ p. choice_tells p.0 p.1.0 p.1.1) (λ p t. choice_grabs_are p.0 p.1.0 p.1.1 t)
      (λ x. (((out-Choice x).token, ((out-Choice x).yes, (out-Choice x).no)), roll-out-Choice x)) (deeper_rule (flat_choice_rule good));
  some = spec.readers 0;
  dead = λ m. no_good m (spec.readers 0);
  knows = knows classes.Question refl;
  stop = no_class classes.Question;
  starts = choice_starts;
  high = choice_high;
}

terms_repeat : Repeats begins_term a_term
terms_repeat = record { starts = term_starts; next = terms_apart; at_end = refl }

assignments_repeat : Repeats begins_assignment an_assignment
assignments_repeat = record { starts = assignment_starts; next = assignments_apart; at_end = refl }

module _ (d : ℕ) (inner : Inner) (h : Inside Good d inner) where
  -- ---- chains

  term_rule : Rule (Unit {0}) never a_term (λ x. x) d (spec.term inner)
  unfolding spec.term
  term_rule =
      told_as a_term term_of (λ x. x) term_says (λ x t. term_grabs_are x.0 x.1.0 x.1.1 t) term_all
      (numbered (λ k p. term k p.0 p.1) (λ k s. and_then (token (λ t. binary_of (class_at t)) s) (λ o s. and_then (spec.operand inner s) (λ x s. Ok (term k o x, s))))
      (λ k. seq (λ o. o) (λ o x. term k o x) (λ o s. and_then (spec.operand inner s) (λ x s. Ok (term k o x, s)))
      (plainly (λ t. binary_of (class_at t)) binary_word binary_reader (λ o. refl) binary.Star)
      (λ o. mapped (term k o) (operand_rule d inner h))))

  chain_rule : Rule (Unit {0}) never a_chain (λ x. x) d (spec.chain inner)
  unfolding spec.chain
  chain_rule =
      told_as a_chain chain_of (λ x. x) chain_says (λ x t. chain_grabs_are x.0 x.1.0 x.1.1 t) chain_all
      (numbered (λ k p. chain k p.0 p.1) (λ k s. and_then (spec.operand inner s) (λ x s. and_then (more begins_term (spec.term inner) [] s) (λ xs s. Ok (chain k x xs, s))))
      (λ k. seq (λ x. x) (λ x xs. chain k x xs) (λ x s. and_then (more begins_term (spec.term inner) [] s) (λ xs s. Ok (chain k x xs, s))) (operand_rule d inner h)
      (λ x. mapped (chain k x) (many begins_term (an_operand.grabs x) terms_repeat (operand_apart x) [] term_rule))))

  -- ---- conditionals

  cond_in_rule : Rule (Unit {0}) never a_cond (λ x. x) d (spec.cond_in inner)
  unfolding spec.cond_in
  cond_in_rule =
      told_as a_cond cond_of (λ x. x) cond_says (λ x t. cond_grabs_are x.0 x.1.0 x.1.1 t) cond_all
      (numbered (λ k p. cond k p.0 p.1) (λ k s. and_then (spec.chain inner s) (λ c s. and_then (spec.choice_in inner s) (λ o s. Ok (cond k c o, s))))
      (λ k. seq (λ c. c) (λ c o. cond k c o) (λ c s. and_then (spec.choice_in inner s) (λ o s. Ok (cond k c o, s))) chain_rule
      (λ c. mapped (cond k c) (perhaps_deeper Good (is classes.Question) (a_chain.grabs c) (word_of classes.Question) a_choice spec.choice_by choice_open (chain_question c) d inner h))))

  -- ---- expressions

  assignment_rule : Rule (Unit {0}) never an_assignment (λ x. x) d (spec.assignment inner)
  unfolding spec.assignment
  assignment_rule =
      told_as an_assignment assignment_of (λ x. x) assignment_says (λ x t. assignment_grabs_are x.0 x.1.0 x.1.1 t) assignment_all
      (numbered (λ k p. assignment k p.0 p.1) (λ k s. and_then (token (λ t. assign_of (class_at t)) s) (λ o s. and_then (spec.cond_in inner s) (λ x s. Ok (assignment k o x, s))))
      (λ k. seq (λ o. o) (λ o x. assignment k o x) (λ o s. and_then (spec.cond_in inner s) (λ x s. Ok (assignment k o x, s)))
      (plainly (λ t. assign_of (class_at t)) assign_word assign_reader (λ o. refl) assign.Plain)
      (λ o. mapped (assignment k o) cond_in_rule)))

  expr_in_rule : Rule (Unit {0}) never an_expr (λ x. x) d (spec.expr_in inner)
  unfolding spec.expr_in
  expr_in_rule =
      told_as an_expr expr_of (λ x. x) expr_says (λ x t. expr_grabs_are x.0 x.1.0 x.1.1 t) expr_all
      (numbered (λ k p. expr k p.0 p.1) (λ k s. and_then (spec.cond_in inner s) (λ x s. and_then (more begins_assignment (spec.assignment inner) [] s) (λ xs s. Ok (expr k x xs, s))))
      (λ k. seq (λ x. x) (λ x xs. expr k x xs) (λ x s. and_then (more begins_assignment (spec.assignment inner) [] s) (λ xs s. Ok (expr k x xs, s))) cond_in_rule
      (λ x. mapped (expr k x) (many begins_assignment (a_cond.grabs x) assignments_repeat (cond_apart x) [] assignment_rule))))

  level_good : Good (Unit {0}) d (spec.readers_in inner)
  level_good = record { expr = expr_in_rule; cond = cond_in_rule }

-- ---- at each number of levels

inside_good : (d : ℕ) → Inside Good d (spec.inside d)
inside_good zero = refl
inside_good (suc d) = (d, omega arith, level_good d (spec.inside d) (inside_good d))

-- a rule with a parser is one whether it is live or not
expr_lively : {live : Type 0} (d : ℕ) → Rule live never an_expr (λ x. x) d (spec.expr d)
expr_lively d =
    let k = (level_good d (spec.inside d) (inside_good d)).expr in
    record { exact = λ l s b. k.exact tt s b; closes = k.closes; keeps = k.keeps }

-- expr
pub expr_rule : {live : Type 0} {before : Option Word → Bool} (d : ℕ) → Apart begins_expr before → Rule live before an_expr (λ e. e) d (spec.expr d)
expr_rule {before = before} d apart = put_apart begins_expr before expr_starts apart (expr_lively d)

-- at least one, with commas between them
abbrev pub some_exprs : Kind Word (List CExpr)
some_exprs = commas (is classes.Comma) comma an_expr

-- expr,+
pub exprs_rule : {live : Type 0} {before : Option Word → Bool} (d : ℕ) → Apart begins_expr before → Rule live before some_exprs (λ es. es) d (spec.exprs d)
exprs_rule {before = before} d apart = separate (is classes.Comma) comma (knows classes.Comma refl) (no_class classes.Comma) (expr_stops classes.Comma refl refl) (expr_lively d) (expr_rule d apart)

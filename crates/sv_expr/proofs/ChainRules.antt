-- The parsers of operands, terms, chains and conditionals are exact, where that of primaries is.
use Rattle.std.proofs.Common.{◌≡◌, ℕ, Bool, false, ◌||◌, List, [], ◌∷◌, ◌++◌, map, Option, Some, None, Ok, refl, ap, ◌∙◌}
use Rattle.std.specs.Prelude.{option_map}
use Rattle.dpi_grammar.specs.Parser.{and_then, expect, token, more, first, refuse}
use Rattle.dpi_grammar.proofs.Exact.{Kind, words, Is, pair}
use Rattle.dpi_grammar.proofs.Rules.{Rule, never, Inside, seq, mapped, told_as, numbered, place, token_then, behind, plainly, put}
use Rattle.dpi_grammar.proofs.Many.{Repeats, or_both, ends, list, many, option_grabs}
use Rattle.dpi_grammar.proofs.Deeper.{deeper_rule, Opens, perhaps_deeper}
use Rattle.dpi_lex.specs.Words.{Word}
use Rattle.sv_tree.specs.declared.class.Class.TheVariants as classes
use Rattle.sv_tree.specs.declared.operators.BinaryOperator.{BinaryOperator}
use Rattle.sv_tree.specs.declared.operators.BinaryOperator.TheVariants as binary
use Rattle.sv_tree.specs.declared.expr.Prefix.{Prefix}
use Rattle.sv_tree.specs.declared.expr.Expr.{Expr, out-Expr, roll-out-Expr}
use Rattle.sv_tree.specs.declared.expr.Choice.{Choice, out-Choice, roll-out-Choice}
use Rattle.sv_tree.specs.declared.expr.Chain.{Chain, out-Chain, roll-out-Chain}
use Rattle.sv_tree.specs.declared.expr.Term.{Term, out-Term, roll-out-Term}
use Rattle.sv_tree.specs.declared.expr.Operand.{Operand, out-Operand, roll-out-Operand}
use Rattle.sv_tree.specs.declared.expr.Primary.{Primary}
use Rattle.sv_tree.specs.Operators.{binary_class, binary_of}
use Rattle.sv_tree.specs.Classes.{class_at, is_class, is, word_of}
use Rattle.sv_tree.proofs.ClassLemmas.{knows}
use Rattle.sv_cursor.specs.Reading.{Parses}
use Rattle.sv_expr.specs.Front.{begins_term}
use Rattle.sv_expr.specs.Reading as spec
use Rattle.sv_expr.proofs.Goes.{a_primary, an_operand, a_term, a_chain, a_choice, an_expr, expr_goes_by, chain_more, choice_more, term_more, expr_grabs_are, choice_grabs_are, chain_grabs_are, operand_grabs_are}
use Rattle.sv_expr.proofs.Trees.{expr, choice, chain, term, operand, expr_tells, choice_tells, chain_tells, term_tells, operand_tells}
use Rattle.sv_expr.proofs.Operators.{binary_reader}
use Rattle.sv_expr.proofs.Starts.{primary_no_prefix, term_starts, choice_starts, choice_high}
use Rattle.sv_expr.proofs.Frees.{expr_stops, operand_apart, term_apart, chain_question, term_grabs_are}
use Rattle.sv_expr.proofs.PartRules.{Good, no_expr, some_prefixes, prefixes_rule}

-- ---- operands

prefix_ends : (us : List Prefix) (t : Option Word) → ends never (map (λ _ _. false) us) t ≡ false
prefix_ends [] t = refl
prefix_ends (u ∷ us) t = prefix_ends us t

-- no primary begins with a prefix
behind_prefixes : (us : List Prefix) (n : ℕ) (p : Primary) (r : List Word) → Is a_primary n p → a_primary.grabs p (first r) ≡ false → some_prefixes.grabs us (first (words a_primary p ++ r)) ≡ false
behind_prefixes us n p r h g = or_both _ _ (primary_no_prefix n p r h) (prefix_ends us (first (words a_primary p ++ r)))

terms_repeat : Repeats begins_term a_term
terms_repeat = record { starts = term_starts; next = term_apart; at_end = refl }

terms_end : (prior : Option Word → Bool) (xs : List Term) (t : Option Word) → ends prior (map (λ g. g.grabs) (map term_more xs)) t ≡ ends prior (map a_term.grabs xs) t
terms_end prior [] t = refl
terms_end prior (x ∷ xs) t = terms_end (a_term.grabs x) xs t

chain_grabs : (k : ℕ) (x : Operand) (xs : List Term) (t : Option Word) → a_chain.grabs (chain k x xs) t ≡ (list begins_term a_term (an_operand.grabs x)).grabs xs t
chain_grabs k x xs t = ap (λ g. g.grabs t) (chain_grabs_are k x xs) ∙ ap (λ b. begins_term t || b) (terms_end (an_operand.grabs x) xs t)

module _ {live : Type 0} {d : ℕ} (inner : spec.Inner) (primary_rule : Rule live never a_primary (λ x. x) d (spec.primary inner)) where
  pub operand_rule : Rule live never an_operand (λ x. x) d (spec.operand inner)
  unfolding spec.operand
  operand_rule =
      told_as an_operand (λ (p : ℕ × (List Prefix × Primary)). operand p.0 p.1.0 p.1.1) (λ x. x) (λ p. operand_tells p.0 p.1.0 p.1.1) (λ p t. ap (λ g. g.grabs t) (operand_grabs_are p.0 p.1.0 p.1.1))
      (λ x. (((out-Operand x).token, ((out-Operand x).prefixes, (out-Operand x).primary)), roll-out-Operand x))
      (numbered (λ k p. operand k p.0 p.1) (λ k s. and_then (spec.prefixes s) (λ us s. and_then (spec.primary inner s) (λ p s. Ok (operand k us p, s))))
      (λ k. seq (λ us. us) (λ us p. operand k us p) (λ us s. and_then (spec.primary inner s) (λ p s. Ok (operand k us p, s))) prefixes_rule
      (λ us. mapped (operand k us) (put (some_prefixes.grabs us) (behind_prefixes us) primary_rule))))

  -- ---- terms

  pub term_rule : Rule live never a_term (λ x. x) d (spec.term inner)
  unfolding spec.term
  term_rule =
      told_as a_term (λ (p : ℕ × (BinaryOperator × Operand)). term p.0 p.1.0 p.1.1) (λ x. x) (λ p. term_tells p.0 p.1.0 p.1.1) (λ p t. ap (λ g. g.grabs t) (term_grabs_are p.0 p.1.0 p.1.1))
      (λ x. (((out-Term x).token, ((out-Term x).operator, (out-Term x).operand)), roll-out-Term x))
      (numbered (λ k p. term k p.0 p.1) (λ k s. and_then (token (λ t. binary_of (class_at t)) s) (λ o s. and_then (spec.operand inner s) (λ x s. Ok (term k o x, s))))
      (λ k. seq (λ o. o) (λ o x. term k o x) (λ o s. and_then (spec.operand inner s) (λ x s. Ok (term k o x, s)))
      (plainly (λ t. binary_of (class_at t)) (λ o. word_of (binary_class o)) binary_reader (λ o. refl) binary.Star)
      (λ o. mapped (term k o) operand_rule)))

  -- ---- chains

  pub chain_rule : Rule live never a_chain (λ x. x) d (spec.chain inner)
  unfolding spec.chain
  chain_rule =
      told_as a_chain (λ (p : ℕ × (Operand × List Term)). chain p.0 p.1.0 p.1.1) (λ x. x) (λ p. chain_tells p.0 p.1.0 p.1.1) (λ p t. chain_grabs p.0 p.1.0 p.1.1 t)
      (λ c. (((out-Chain c).token, ((out-Chain c).first, (out-Chain c).rest)), roll-out-Chain c))
      (numbered (λ k p. chain k p.0 p.1) (λ k s. and_then (spec.operand inner s) (λ x s. and_then (more begins_term (spec.term inner) [] s) (λ xs s. Ok (chain k x xs, s))))
      (λ k. seq (λ x. x) (λ x xs. chain k x xs) (λ x s. and_then (more begins_term (spec.term inner) [] s) (λ xs s. Ok (chain k x xs, s))) operand_rule
      (λ x. mapped (chain k x) (many begins_term (an_operand.grabs x) terms_repeat (operand_apart x) [] term_rule))))

-- ---- conditionals

-- "?" expr ":" expr
abbrev flat_choice : Kind Word (ℕ × (Expr × Expr))
flat_choice = pair (place never) (λ _. behind (word_of classes.Question) (pair an_expr (λ _. behind (word_of classes.Colon) an_expr)))

flat_rule : {live : Type 0} {d : ℕ} {e : Parses Expr} → Good live d e → Rule live never flat_choice (λ p. choice p.0 p.1.0 p.1.1) d (spec.choice_by e)
unfolding spec.choice_by
flat_rule {e = e} good =
    numbered (λ k p. choice k p.0 p.1) (λ k s. and_then (expect (is classes.Question) s) (λ _ s. and_then (e s) (λ x s. and_then (expect (is classes.Colon) s) (λ _ s. and_then (e s) (λ y s. Ok (choice k x y, s))))))
    (λ k. token_then (is classes.Question) (word_of classes.Question) (knows classes.Question refl) refl
    (seq (λ x. x) (λ x y. choice k x y) (λ x s. and_then (expect (is classes.Colon) s) (λ _ s. and_then (e s) (λ y s. Ok (choice k x y, s)))) good
    (λ x. token_then (is classes.Colon) (word_of classes.Colon) (knows classes.Colon refl) (expr_stops classes.Colon refl refl x) (mapped (choice k x) good))))

no_question_at_end : is classes.Question None ≡ false
unfolding is_class
no_question_at_end = refl

-- the part of a conditional from its "?" on opens a level
choice_open : Opens Good (is classes.Question) (word_of classes.Question) a_choice spec.choice_by
choice_open = record {
  rule = λ live m e good. told_as a_choice (λ (p : ℕ × (Expr × Expr)). choice p.0 p.1.0 p.1.1) (λ x. x) (λ p. choice_tells p.0 p.1.0 p.1.1) (λ p t. ap (λ g. g.grabs t) (choice_grabs_are p.0 p.1.0 p.1.1))
      (λ x. (((out-Choice x).token, ((out-Choice x).yes, (out-Choice x).no)), roll-out-Choice x)) (deeper_rule (flat_rule good));
  some = refuse;
  dead = λ m. no_expr m;
  knows = knows classes.Question refl;
  stop = no_question_at_end;
  starts = choice_starts;
  high = choice_high;
}

expr_grabs : (k : ℕ) (c : Chain) (o : Option Choice) (t : Option Word) → (expr_goes_by (chain_more c) (option_map choice_more o)).grabs t ≡ option_grabs (is classes.Question) a_choice (a_chain.grabs c) o t
expr_grabs k c None t = refl
expr_grabs k c (Some x) t = refl

-- an expression, where primaries are exact
pub expr_in_rule : (d : ℕ) (inner : spec.Inner) → Inside Good d inner → Rule (Unit {0}) never a_primary (λ x. x) d (spec.primary inner) → Rule (Unit {0}) never an_expr (λ x. x) d (spec.expr_in inner)
unfolding spec.expr_in
expr_in_rule d inner h primary_rule =
    told_as an_expr (λ (p : ℕ × (Chain × Option Choice)). expr p.0 p.1.0 p.1.1) (λ x. x) (λ p. expr_tells p.0 p.1.0 p.1.1) (λ p t. ap (λ g. g.grabs t) (expr_grabs_are p.0 p.1.0 p.1.1) ∙ expr_grabs p.0 p.1.0 p.1.1 t)
    (λ x. (((out-Expr x).token, ((out-Expr x).chain, (out-Expr x).choice)), roll-out-Expr x))
    (numbered (λ k p. expr k p.0 p.1) (λ k s. and_then (spec.chain inner s) (λ c s. and_then (spec.choice_in inner s) (λ o s. Ok (expr k c o, s))))
    (λ k. seq (λ c. c) (λ c o. expr k c o) (λ c s. and_then (spec.choice_in inner s) (λ o s. Ok (expr k c o, s))) (chain_rule inner primary_rule)
    (λ c. mapped (expr k c) (perhaps_deeper Good (is classes.Question) (a_chain.grabs c) (word_of classes.Question) a_choice spec.choice_by choice_open (chain_question c) d inner h))))

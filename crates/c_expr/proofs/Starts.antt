-- The shapes of productions, and what each begins with.
use Rattle.std.proofs.Common.{◌≡◌, ℕ, ◌≤◌, true, List, [], ◌∷◌, ◌++◌, map, Option, Some, refl, sym, ap, ◌∙◌, subst, arith}
use Rattle.dpi_grammar.specs.Told.{◌&◌, noted, each, words_in, IsRight}
use Rattle.dpi_grammar.specs.Parser.{first, is_there}
use Rattle.dpi_grammar.proofs.Exact.{Kind, words, levels, Is, pair}
use Rattle.dpi_grammar.proofs.Rules.{never, place, plain}
use Rattle.dpi_grammar.proofs.Many.{Starts, list, option, and_assoc}
use Rattle.dpi_grammar.proofs.Firsts.{in_left, in_right}
use Rattle.dpi_lex.specs.Words.{Word}
use Rattle.c_tree.specs.declared.class.Class.{Class}
use Rattle.c_tree.specs.declared.class.Class.TheVariants as classes
use Rattle.c_tree.specs.declared.operators.BinaryOperator.{BinaryOperator}
use Rattle.c_tree.specs.declared.operators.AssignOperator.{AssignOperator}
use Rattle.c_tree.specs.declared.expr.Prefix.{Prefix}
use Rattle.c_tree.specs.declared.expr.Prefix.TheVariants as prefixes
use Rattle.c_tree.specs.declared.expr.CExpr.{CExpr, out-CExpr, roll-out-CExpr}
use Rattle.c_tree.specs.declared.expr.Assignment.{Assignment, out-Assignment, roll-out-Assignment}
use Rattle.c_tree.specs.declared.expr.Cond.{Cond, out-Cond, roll-out-Cond}
use Rattle.c_tree.specs.declared.expr.Choice.{Choice, out-Choice, roll-out-Choice}
use Rattle.c_tree.specs.declared.expr.Chain.{Chain, out-Chain, roll-out-Chain}
use Rattle.c_tree.specs.declared.expr.Term.{Term, out-Term, roll-out-Term}
use Rattle.c_tree.specs.declared.expr.Operand.{Operand, out-Operand, roll-out-Operand}
use Rattle.c_tree.specs.declared.expr.Primary.{Primary, out-Primary}
use Rattle.c_tree.specs.declared.expr.Suffix.{Suffix}
use Rattle.c_tree.specs.declared.expr.Primary.TheOpen.{Primary-F}
use Rattle.c_tree.specs.Classes.{a_word, is, word_of}
use Rattle.c_tree.specs.Operators.{unary_class, binary_class, assign_class}
use Rattle.c_tree.specs.Leaves.{Tells, number_word, character_word, text_word}
use Rattle.c_tree.specs.Expressions.{prefix_told, choice_told, primary_told, suffix_told}
use Rattle.c_tree.proofs.ClassLemmas.{knows}
use Rattle.c_cursor.proofs.Tokens.{class_is, class_at_word, name_class, number_class, character_class, text_class}
use Rattle.c_expr.specs.Front.{is_operator, is_assign, is_plain, begins_sign, begins_lead, begins_plain, begins_expr, begins_term, begins_assignment, begins_suffix}
use Rattle.c_expr.proofs.Trees.{Layer, layer_told, expr, assignment, cond, choice, chain, term, operand, expr_tells, assignment_tells, cond_tells, choice_tells, chain_tells, term_tells, operand_tells, primary_tells}
use Rattle.c_expr.proofs.Goes.{a_primary, a_suffix, an_operand, a_term, a_chain, a_choice, a_cond, an_assignment, an_expr}
use Rattle.c_expr.proofs.Operators.{binary_back, binary_fixed, assign_back, assign_fixed}
use Rattle.c_expr.proofs.PartRules.{sign_starts}
use Rattle.c_expr.proofs.Beginnings.{pair_starts, numbered_starts, told_starts}

-- ---- primaries, and what stands before them

-- a token of this class begins an expression
plain_starts : (c : Class) (t : Option Word) → is_plain (Some c) ≡ true → is c t ≡ true → begins_expr t ≡ true
plain_starts c t plainly e = in_right (begins_lead t) (begins_plain t) (ap is_plain (class_is c t e) ∙ plainly)

-- a prefix or a `(` begins one
lead_begins : (t : Option Word) → begins_lead t ≡ true → begins_expr t ≡ true
lead_begins t e = in_left (begins_lead t) (begins_plain t) e

open_begins : begins_expr (Some (word_of classes.OpenParen)) ≡ true
open_begins = lead_begins (Some (word_of classes.OpenParen)) (in_left (is classes.OpenParen (Some (word_of classes.OpenParen))) (begins_sign (Some (word_of classes.OpenParen))) (knows classes.OpenParen refl).yes)

layer_starts : (n : ℕ) (l : Layer) (r : List Word) → IsRight n (layer_told l).atoms → begins_expr (first (words_in (layer_told l).atoms ++ r)) ≡ true
layer_starts n (Primary-F.Name m) r h = plain_starts classes.Name (Some (a_word m.bytes)) refl (name_class m.bytes h.1.0)
layer_starts n (Primary-F.Number m) r h = plain_starts classes.Number (Some (number_word m.bytes)) refl (number_class m.bytes)
layer_starts n (Primary-F.Character m) r h = plain_starts classes.Character (Some (character_word m.bytes)) refl (character_class m.bytes)
layer_starts n (Primary-F.Text m) r h = plain_starts classes.Text (Some (text_word m.bytes)) refl (text_class m.bytes)
layer_starts n (Primary-F.Null k) r h = plain_starts classes.Null (Some (word_of classes.Null)) refl (knows classes.Null refl).yes
layer_starts n (Primary-F.Call m k es) r h = plain_starts classes.Name (Some (a_word m.bytes)) refl (name_class m.bytes h.1.0)
layer_starts n (Primary-F.Group k e) r h = open_begins

primary_starts : Starts begins_expr a_primary
primary_starts n p r h =
    let e = primary_tells p (out-Primary p) refl in
    ap (λ (t : Tells). begins_expr (first (words_in t.atoms ++ r))) e ∙ layer_starts n (out-Primary p) r (subst (λ (t : Tells). IsRight n t.atoms) e h)

-- prefixes, and a primary
abbrev pub a_led : Kind Word (List Prefix × Primary)
a_led = record { told = λ p. each (map prefix_told p.0) & primary_told p.1; grabs = λ p. a_primary.grabs p.1 }

led_starts : Starts begins_expr a_led
led_starts n ([], p) r h = primary_starts n p r h
led_starts n (prefixes.Sign k o ∷ ps, p) r h =
    let t = Some (word_of (unary_class o)) in
    lead_begins t (in_right (is classes.OpenParen t) (begins_sign t) (sign_starts k (k, o) [] (refl, tt)))
led_starts n (prefixes.Cast k t ss ∷ ps, p) r h = open_begins

-- ---- operands

abbrev pub operand_shape : Kind Word (ℕ × ((List Prefix × Primary) × List Suffix))
operand_shape = pair (place never) (λ _. pair a_led (λ p. list begins_suffix a_suffix (a_primary.grabs p.1)))

abbrev pub operand_of : ℕ × ((List Prefix × Primary) × List Suffix) → Operand
operand_of x = operand x.0 x.1.0.0 x.1.0.1 x.1.1

pub operand_says : (x : ℕ × ((List Prefix × Primary) × List Suffix)) → an_operand.told (operand_of x) ≡ operand_shape.told x
operand_says x =
    operand_tells x.0 x.1.0.0 x.1.0.1 x.1.1 ∙ ap (λ (t : Tells). noted x.0 & t) (sym (and_assoc (each (map prefix_told x.1.0.0)) (primary_told x.1.0.1) (each (map suffix_told x.1.1))))

pub operand_all : (z : Operand) → (x : ℕ × ((List Prefix × Primary) × List Suffix)) × (operand_of x ≡ z)
operand_all z = (((out-Operand z).token, (((out-Operand z).prefixes, (out-Operand z).primary), (out-Operand z).suffixes)), roll-out-Operand z)

operand_starts : Starts begins_expr an_operand
operand_starts =
    told_starts begins_expr operand_shape an_operand operand_of operand_says operand_all
    (numbered_starts begins_expr never (λ _. pair a_led (λ p. list begins_suffix a_suffix (a_primary.grabs p.1)))
    (λ k. pair_starts begins_expr a_led (λ p. list begins_suffix a_suffix (a_primary.grabs p.1)) led_starts))

-- ---- an operator, and what stands behind it

abbrev pub binary_word : BinaryOperator → Word
binary_word o = word_of (binary_class o)

abbrev pub term_shape : Kind Word (ℕ × (BinaryOperator × Operand))
term_shape = pair (place never) (λ _. pair (plain binary_word) (λ _. an_operand))

abbrev pub term_of : ℕ × (BinaryOperator × Operand) → Term
term_of x = term x.0 x.1.0 x.1.1

pub term_says : (x : ℕ × (BinaryOperator × Operand)) → a_term.told (term_of x) ≡ term_shape.told x
term_says x = term_tells x.0 x.1.0 x.1.1

pub term_all : (z : Term) → (x : ℕ × (BinaryOperator × Operand)) × (term_of x ≡ z)
term_all z = (((out-Term z).token, ((out-Term z).operator, (out-Term z).operand)), roll-out-Term z)

pub term_starts : Starts begins_term a_term
term_starts =
    told_starts begins_term term_shape a_term term_of term_says term_all
    (λ n x r h. ap is_operator (class_at_word (binary_class x.1.0) (binary_fixed x.1.0)) ∙ ap is_there (binary_back x.1.0))

abbrev pub assign_word : AssignOperator → Word
assign_word o = word_of (assign_class o)

abbrev pub assignment_shape : Kind Word (ℕ × (AssignOperator × Cond))
assignment_shape = pair (place never) (λ _. pair (plain assign_word) (λ _. a_cond))

abbrev pub assignment_of : ℕ × (AssignOperator × Cond) → Assignment
assignment_of x = assignment x.0 x.1.0 x.1.1

pub assignment_says : (x : ℕ × (AssignOperator × Cond)) → an_assignment.told (assignment_of x) ≡ assignment_shape.told x
assignment_says x = assignment_tells x.0 x.1.0 x.1.1

pub assignment_all : (z : Assignment) → (x : ℕ × (AssignOperator × Cond)) × (assignment_of x ≡ z)
assignment_all z = (((out-Assignment z).token, ((out-Assignment z).operator, (out-Assignment z).value)), roll-out-Assignment z)

pub assignment_starts : Starts begins_assignment an_assignment
assignment_starts =
    told_starts begins_assignment assignment_shape an_assignment assignment_of assignment_says assignment_all
    (λ n x r h. ap is_assign (class_at_word (assign_class x.1.0) (assign_fixed x.1.0)) ∙ ap is_there (assign_back x.1.0))

-- ---- chains

abbrev pub chain_shape : Kind Word (ℕ × (Operand × List Term))
chain_shape = pair (place never) (λ _. pair an_operand (λ x. list begins_term a_term (an_operand.grabs x)))

abbrev pub chain_of : ℕ × (Operand × List Term) → Chain
chain_of x = chain x.0 x.1.0 x.1.1

pub chain_says : (x : ℕ × (Operand × List Term)) → a_chain.told (chain_of x) ≡ chain_shape.told x
chain_says x = chain_tells x.0 x.1.0 x.1.1

pub chain_all : (z : Chain) → (x : ℕ × (Operand × List Term)) × (chain_of x ≡ z)
chain_all z = (((out-Chain z).token, ((out-Chain z).first, (out-Chain z).rest)), roll-out-Chain z)

chain_starts : Starts begins_expr a_chain
chain_starts =
    told_starts begins_expr chain_shape a_chain chain_of chain_says chain_all
    (numbered_starts begins_expr never (λ _. pair an_operand (λ x. list begins_term a_term (an_operand.grabs x)))
    (λ k. pair_starts begins_expr an_operand (λ x. list begins_term a_term (an_operand.grabs x)) operand_starts))

-- ---- conditionals

abbrev pub cond_shape : Kind Word (ℕ × (Chain × Option Choice))
cond_shape = pair (place never) (λ _. pair a_chain (λ c. option (is classes.Question) a_choice (a_chain.grabs c)))

abbrev pub cond_of : ℕ × (Chain × Option Choice) → Cond
cond_of x = cond x.0 x.1.0 x.1.1

pub cond_says : (x : ℕ × (Chain × Option Choice)) → a_cond.told (cond_of x) ≡ cond_shape.told x
cond_says x = cond_tells x.0 x.1.0 x.1.1

pub cond_all : (z : Cond) → (x : ℕ × (Chain × Option Choice)) × (cond_of x ≡ z)
cond_all z = (((out-Cond z).token, ((out-Cond z).chain, (out-Cond z).choice)), roll-out-Cond z)

pub cond_starts : Starts begins_expr a_cond
cond_starts =
    told_starts begins_expr cond_shape a_cond cond_of cond_says cond_all
    (numbered_starts begins_expr never (λ _. pair a_chain (λ c. option (is classes.Question) a_choice (a_chain.grabs c)))
    (λ k. pair_starts begins_expr a_chain (λ c. option (is classes.Question) a_choice (a_chain.grabs c)) chain_starts))

choice_opened : (x : Choice) → choice_told x ≡ choice_told (choice (out-Choice x).token (out-Choice x).yes (out-Choice x).no)
choice_opened x = ap choice_told (sym (roll-out-Choice x))

pub choice_starts : (n : ℕ) (x : Choice) (r : List Word) → Is a_choice n x → first (words a_choice x ++ r) ≡ Some (word_of classes.Question)
choice_starts n x r h = ap (λ (t : Tells). first (words_in t.atoms ++ r)) (choice_opened x ∙ choice_tells (out-Choice x).token (out-Choice x).yes (out-Choice x).no)

pub choice_high : (x : Choice) → levels a_choice x ≤ 0 → ⊥
choice_high x few = omega (arith, few, ap (λ (t : Tells). t.levels) (choice_opened x ∙ choice_tells (out-Choice x).token (out-Choice x).yes (out-Choice x).no))

-- ---- expressions

abbrev pub expr_shape : Kind Word (ℕ × (Cond × List Assignment))
expr_shape = pair (place never) (λ _. pair a_cond (λ c. list begins_assignment an_assignment (a_cond.grabs c)))

abbrev pub expr_of : ℕ × (Cond × List Assignment) → CExpr
expr_of x = expr x.0 x.1.0 x.1.1

pub expr_says : (x : ℕ × (Cond × List Assignment)) → an_expr.told (expr_of x) ≡ expr_shape.told x
expr_says x = expr_tells x.0 x.1.0 x.1.1

pub expr_all : (z : CExpr) → (x : ℕ × (Cond × List Assignment)) × (expr_of x ≡ z)
expr_all z = (((out-CExpr z).token, ((out-CExpr z).first, (out-CExpr z).rest)), roll-out-CExpr z)

-- each expression begins so
pub expr_starts : Starts begins_expr an_expr
expr_starts =
    told_starts begins_expr expr_shape an_expr expr_of expr_says expr_all
    (numbered_starts begins_expr never (λ _. pair a_cond (λ c. list begins_assignment an_assignment (a_cond.grabs c)))
    (λ k. pair_starts begins_expr a_cond (λ c. list begins_assignment an_assignment (a_cond.grabs c)) cond_starts))

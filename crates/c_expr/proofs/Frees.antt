-- With which tokens a production doesn't go on.
use Rattle.std.proofs.Common.{◌≡◌, Bool, true, false, ◌||◌, Option, Some, None, refl, ap, ◌∙◌}
use denote.Enum.Bare.{sameb}
use Rattle.dpi_grammar.proofs.Many.{Apart}
use Rattle.c_tree.specs.contracts.class.Class.{the_type}
use Rattle.c_tree.specs.declared.class.Class.{Class}
use Rattle.c_tree.specs.declared.class.Class.TheVariants as classes
use Rattle.c_tree.specs.declared.expr.CExpr.{CExpr}
use Rattle.c_tree.specs.declared.expr.Assignment.{Assignment}
use Rattle.c_tree.specs.declared.expr.Cond.{Cond}
use Rattle.c_tree.specs.declared.expr.Chain.{Chain}
use Rattle.c_tree.specs.declared.expr.Term.{Term}
use Rattle.c_tree.specs.declared.expr.Operand.{Operand}
use Rattle.c_tree.specs.declared.expr.Primary.{Primary}
use Rattle.c_tree.specs.declared.expr.Suffix.{Suffix}
use Rattle.c_tree.specs.Classes.{is_class, is, word_of}
use Rattle.c_tree.proofs.ClassLemmas.{is_fixed, knows}
use Rattle.c_cursor.proofs.Tokens.{class_at_word}
use Rattle.c_expr.specs.Front.{is_operator, is_assign, is_suffix, begins_term, begins_assignment, begins_suffix}
use Rattle.c_expr.proofs.Goes.{behind_expr, a_primary, a_suffix, an_operand, a_term, a_chain, a_cond, an_assignment, an_expr, primary_more, operand_more, term_more, chain_more, cond_more, assignment_more, expr_more, suffix_grabs_are}
use Rattle.c_expr.proofs.Operators.{term_apart, assign_apart, suffix_apart}

-- ---- behind a whole expression

-- no expression goes on with the word of this class
abbrev pub stops : Class → Bool
stops c = is_assign (Some c) || (sameb the_type classes.Question c || (is_operator (Some c) || (is_suffix (Some c) || sameb the_type classes.OpenParen c)))

-- what an expression goes on with, by its class
abbrev expr_class : Option Class → Bool
expr_class c = is_assign c || (is_class classes.Question c || (is_operator c || (is_suffix c || is_class classes.OpenParen c)))

by_class : (c : Class) → expr_class (Some c) ≡ stops c
unfolding is_class
by_class c = refl

-- an expression doesn't go on with the word of this class
pub expr_stops : (c : Class) → is_fixed c ≡ true → stops c ≡ false → (e : CExpr) → an_expr.grabs e (Some (word_of c)) ≡ false
expr_stops c fixed stop e = (expr_more e).free (Some (word_of c)) (ap expr_class (class_at_word c fixed) ∙ by_class c ∙ stop)

pub expr_apart : (c : Class) → is_fixed c ≡ true → stops c ≡ false → (e : CExpr) → Apart (is c) (an_expr.grabs e)
expr_apart c fixed stop e t go = ap (an_expr.grabs e) ((knows c fixed).says t go) ∙ expr_stops c fixed stop e

none_behind : behind_expr None ≡ false
unfolding is_class
none_behind = refl

-- an expression ends at the end
pub expr_ends : (e : CExpr) → an_expr.grabs e None ≡ false
expr_ends e = (expr_more e).free None none_behind

-- ---- behind its parts

pub primary_apart : (p : Primary) → Apart begins_suffix (a_primary.grabs p)
primary_apart p t e = (primary_more p).free t (suffix_apart t e)

pub suffixes_apart : (x : Suffix) → Apart begins_suffix (a_suffix.grabs x)
suffixes_apart x t e = suffix_grabs_are x t

pub operand_apart : (x : Operand) → Apart begins_term (an_operand.grabs x)
operand_apart x t e = (operand_more x).free t (term_apart t e)

pub terms_apart : (x : Term) → Apart begins_term (a_term.grabs x)
terms_apart x t e = (term_more x).free t (term_apart t e)

pub cond_apart : (c : Cond) → Apart begins_assignment (a_cond.grabs c)
cond_apart c t e = (cond_more c).free t (assign_apart t e)

pub assignments_apart : (a : Assignment) → Apart begins_assignment (an_assignment.grabs a)
assignments_apart a t e = (assignment_more a).free t (assign_apart t e)

-- what a chain goes on with, by its class
abbrev chain_class : Option Class → Bool
chain_class c = is_operator c || (is_suffix c || is_class classes.OpenParen c)

question_other : chain_class (Some classes.Question) ≡ false
unfolding is_class
question_other = refl

-- the `?` stands behind a whole chain
pub chain_question : (c : Chain) → a_chain.grabs c (Some (word_of classes.Question)) ≡ false
chain_question c = (chain_more c).free (Some (word_of classes.Question)) (ap chain_class (class_at_word classes.Question refl) ∙ question_other)

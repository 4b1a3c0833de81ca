-- With which tokens a production doesn't go on.
use Rattle.std.proofs.Common.{◌≡◌, ℕ, Bool, true, false, ◌||◌, List, [], ◌∷◌, map, Option, Some, refl, sym, ap, ◌∙◌}
use denote.Enum.Bare.{sameb}
use Rattle.dpi_grammar.proofs.Lists.{true_not_false}
use Rattle.dpi_grammar.proofs.Exact.{Kind}
use Rattle.dpi_grammar.proofs.Many.{Apart, or_both, ends}
use Rattle.dpi_lex.specs.Words.{Word}
use Rattle.sv_tree.specs.contracts.class.Class.{the_type}
use Rattle.sv_tree.specs.declared.class.Class.{Class}
use Rattle.sv_tree.specs.declared.class.Class.TheVariants as classes
use Rattle.sv_tree.specs.declared.operators.BinaryOperator.{BinaryOperator}
use Rattle.sv_tree.specs.declared.expr.Expr.{Expr}
use Rattle.sv_tree.specs.declared.expr.Chain.{Chain, out-Chain, roll-out-Chain}
use Rattle.sv_tree.specs.declared.expr.Term.{Term, out-Term, roll-Term, roll-out-Term, fold-roll-Term}
use Rattle.sv_tree.specs.declared.expr.Operand.{Operand, out-Operand, roll-out-Operand}
use Rattle.sv_tree.specs.declared.expr.Primary.{Primary, out-Primary, roll-Primary, roll-out-Primary, fold-roll-Primary}
use Rattle.sv_tree.specs.declared.expr.Lvalue.{Lvalue, out-Lvalue, roll-out-Lvalue, fold-roll-Lvalue}
use Rattle.sv_tree.specs.declared.expr.Select.{Select}
use Rattle.sv_tree.specs.declared.expr.Primary.TheOpen.{Primary-F}
use Rattle.sv_tree.specs.Classes.{class_at, is_class, is, word_of}
use Rattle.sv_tree.proofs.ClassLemmas.{is_fixed, knows}
use Rattle.sv_cursor.proofs.Tokens.{class_is, class_at_word, word_is_not}
use Rattle.sv_expr.specs.Front.{is_operator, begins_term}
use Rattle.sv_expr.specs.Bounds.{Layer}
use Rattle.sv_expr.proofs.Goes.{Goes, goes_on, no_more, primary_goes, select_goes, call_goes, chain_goes, choice_goes, expr_goes, lvalue_goes, operand_goes, term_goes, primary_more, lvalue_more, operand_more, term_more, expr_more, a_primary, an_operand, a_term, a_chain, an_expr, chain_grabs_are, operand_grabs_are}

-- ---- classes

excluded : (c : Class) (f : Option Class → Bool) → f (Some c) ≡ false → (t : Option Word) (b : Bool) → is c t ≡ b → f (class_at t) ≡ true → is c t ≡ false
excluded c f other t true e go = true_not_false (f (class_at t)) go (ap f (class_is c t e) ∙ other)
excluded c f other t false e go = e

-- a token that passes a test that this class doesn't pass is not of this class
pub excludes : (c : Class) (f : Option Class → Bool) → f (Some c) ≡ false → (t : Option Word) → f (class_at t) ≡ true → is c t ≡ false
excludes c f other t go = excluded c f other t (is c t) refl go

-- no expression goes on with the word of this class
abbrev pub stops : Class → Bool
stops c = sameb the_type classes.Question c || (is_operator (Some c) || (sameb the_type classes.OpenBracket c || sameb the_type classes.OpenParen c))

abbrev stops_by : Bool → Bool → Bool → Bool → Bool
stops_by a b c d = a || (b || (c || d))

same_four : (a b c d a2 b2 c2 d2 : Bool) → a ≡ a2 → b ≡ b2 → c ≡ c2 → d ≡ d2 → stops_by a b c d ≡ stops_by a2 b2 c2 d2
same_four a b c d a2 b2 c2 d2 p q r s = cc

pub class_sees : (c k : Class) → is_fixed k ≡ true → is c (Some (word_of k)) ≡ sameb the_type c k
unfolding is_class
class_sees c k fixed = ap (is_class c) (class_at_word k fixed)

pub stops_word : (c : Class) → is_fixed c ≡ true → stops c ≡ false → goes_on (Some (word_of c)) ≡ false
stops_word c fixed stop =
    same_four _ _ _ _ _ _ _ _ (class_sees classes.Question c fixed) (ap is_operator (class_at_word c fixed)) (class_sees classes.OpenBracket c fixed) (class_sees classes.OpenParen c fixed) ∙ stop

-- an expression goes on with no such token
pub expr_free : (e : Expr) (t : Option Word) → goes_on t ≡ false → an_expr.grabs e t ≡ false
expr_free e t stop = (expr_more e).free t stop

-- an expression doesn't go on with the word of this class
pub expr_stops : (c : Class) → is_fixed c ≡ true → stops c ≡ false → (e : Expr) → an_expr.grabs e (Some (word_of c)) ≡ false
expr_stops c fixed stop e = expr_free e (Some (word_of c)) (stops_word c fixed stop)

pub expr_apart : (c : Class) → is_fixed c ≡ true → stops c ≡ false → (e : Expr) → Apart (is c) (an_expr.grabs e)
expr_apart c fixed stop e t go = ap (an_expr.grabs e) ((knows c fixed).says t go) ∙ expr_stops c fixed stop e

-- the last of some trees goes on as each does
pub ends_of : {X : Type 0} (K : Kind Word X) (prior : Option Word → Bool) (xs : List X) (t : Option Word) → prior t ≡ false → ((x : X) → K.grabs x t ≡ false) → ends prior (map K.grabs xs) t ≡ false
ends_of K prior [] t p each = p
ends_of K prior (x ∷ xs) t p each = ends_of K (K.grabs x) xs t (each x) each

-- ---- an operand goes on with brackets alone

layer_more : Layer → Goes
layer_more (Primary-F.Place l) = lvalue_more l
layer_more _ = no_more

primary_grabs_by : (l : Layer) → primary_more (roll-Primary l) ≡ layer_more l
unfolding layer_more
primary_grabs_by (Primary-F.Number n) = fold-roll-Primary Goes Goes Goes Goes Goes Goes Goes Goes Goes primary_goes select_goes call_goes chain_goes choice_goes expr_goes lvalue_goes operand_goes term_goes _
primary_grabs_by (Primary-F.Text t) = fold-roll-Primary Goes Goes Goes Goes Goes Goes Goes Goes Goes primary_goes select_goes call_goes chain_goes choice_goes expr_goes lvalue_goes operand_goes term_goes _
primary_grabs_by (Primary-F.Null k) = fold-roll-Primary Goes Goes Goes Goes Goes Goes Goes Goes Goes primary_goes select_goes call_goes chain_goes choice_goes expr_goes lvalue_goes operand_goes term_goes _
primary_grabs_by (Primary-F.Place l) = fold-roll-Primary Goes Goes Goes Goes Goes Goes Goes Goes Goes primary_goes select_goes call_goes chain_goes choice_goes expr_goes lvalue_goes operand_goes term_goes _
primary_grabs_by (Primary-F.Call c) = fold-roll-Primary Goes Goes Goes Goes Goes Goes Goes Goes Goes primary_goes select_goes call_goes chain_goes choice_goes expr_goes lvalue_goes operand_goes term_goes _
primary_grabs_by (Primary-F.Group k e) = fold-roll-Primary Goes Goes Goes Goes Goes Goes Goes Goes Goes primary_goes select_goes call_goes chain_goes choice_goes expr_goes lvalue_goes operand_goes term_goes _
primary_grabs_by (Primary-F.Concatenation k es) = fold-roll-Primary Goes Goes Goes Goes Goes Goes Goes Goes Goes primary_goes select_goes call_goes chain_goes choice_goes expr_goes lvalue_goes operand_goes term_goes _
primary_grabs_by (Primary-F.Repetition k n es) = fold-roll-Primary Goes Goes Goes Goes Goes Goes Goes Goes Goes primary_goes select_goes call_goes chain_goes choice_goes expr_goes lvalue_goes operand_goes term_goes _
primary_grabs_by (Primary-F.Signed k e) = fold-roll-Primary Goes Goes Goes Goes Goes Goes Goes Goes Goes primary_goes select_goes call_goes chain_goes choice_goes expr_goes lvalue_goes operand_goes term_goes _
primary_grabs_by (Primary-F.Unsigned k e) = fold-roll-Primary Goes Goes Goes Goes Goes Goes Goes Goes Goes primary_goes select_goes call_goes chain_goes choice_goes expr_goes lvalue_goes operand_goes term_goes _

-- what a layer of a primary goes on with
abbrev pub layer_grabs : Layer → Option Word → Bool
layer_grabs (Primary-F.Place l) t = (lvalue_more l).grabs t
layer_grabs _ t = false

layer_same : (l : Layer) (t : Option Word) → (layer_more l).grabs t ≡ layer_grabs l t
unfolding layer_more
layer_same (Primary-F.Place l) t = refl
layer_same _ t = refl

pub primary_grabs_are : (p : Primary) (l : Layer) → out-Primary p ≡ l → (t : Option Word) → a_primary.grabs p t ≡ layer_grabs l t
primary_grabs_are p l e t =
    ap (λ p. a_primary.grabs p t) (sym (roll-out-Primary p)) ∙ ap (λ g. g.grabs t) (primary_grabs_by (out-Primary p)) ∙ layer_same (out-Primary p) t ∙ ap (λ l. layer_grabs l t) e

-- what a name with these selects goes on with, where no `(` stands behind the name
abbrev pub place_grabs : List Select → Option Word → Bool
place_grabs ss t = is classes.OpenBracket t || ends (is classes.OpenParen) (map (λ _ _. false) ss) t

never_same : {X Y : Type 0} (prior : Option Word → Bool) (f : X → Y) (xs : List X) (t : Option Word) → ends prior (map (λ _ _. false) (map f xs)) t ≡ ends prior (map (λ _ _. false) xs) t
never_same prior f [] t = refl
never_same prior f (x ∷ xs) t = never_same (λ _. false) f xs t

pub lvalue_grabs_are : (l : Lvalue) (t : Option Word) → (lvalue_more l).grabs t ≡ place_grabs (out-Lvalue l).selects t
lvalue_grabs_are l t =
    ap (λ l. (lvalue_more l).grabs t) (sym (roll-out-Lvalue l))
    ∙ ap (λ g. g.grabs t) (fold-roll-Lvalue Goes Goes Goes Goes Goes Goes Goes Goes Goes primary_goes select_goes call_goes chain_goes choice_goes expr_goes lvalue_goes operand_goes term_goes (out-Lvalue l))
    ∙ ap (λ b. is classes.OpenBracket t || b) (never_same (is classes.OpenParen) _ (out-Lvalue l).selects t)

place_free : (ss : List Select) (prior : Option Word → Bool) (t : Option Word) → prior t ≡ false → ends prior (map (λ _ _. false) ss) t ≡ false
place_free [] prior t p = p
place_free (s ∷ ss) prior t p = place_free ss (λ _. false) t refl

layer_free : (l : Layer) (t : Option Word) → is classes.OpenBracket t ≡ false → is classes.OpenParen t ≡ false → layer_grabs l t ≡ false
layer_free (Primary-F.Place l) t p q = lvalue_grabs_are l t ∙ or_both _ _ p (place_free (out-Lvalue l).selects (is classes.OpenParen) t q)
layer_free _ t p q = refl

operand_free : (x : Operand) (t : Option Word) → is classes.OpenBracket t ≡ false → is classes.OpenParen t ≡ false → an_operand.grabs x t ≡ false
operand_free x t p q =
    ap (λ x. an_operand.grabs x t) (sym (roll-out-Operand x)) ∙ ap (λ g. g.grabs t) (operand_grabs_are (out-Operand x).token (out-Operand x).prefixes (out-Operand x).primary)
    ∙ primary_grabs_are (out-Operand x).primary _ refl t ∙ layer_free (out-Primary (out-Operand x).primary) t p q

pub term_grabs_are : (k : ℕ) (o : BinaryOperator) (x : Operand) → term_more (roll-Term (record { token = k; operator = o; operand = x })) ≡ operand_more x
term_grabs_are k o x = fold-roll-Term Goes Goes Goes Goes Goes Goes Goes Goes Goes primary_goes select_goes call_goes chain_goes choice_goes expr_goes lvalue_goes operand_goes term_goes _

term_free : (x : Term) (t : Option Word) → is classes.OpenBracket t ≡ false → is classes.OpenParen t ≡ false → a_term.grabs x t ≡ false
term_free x t p q =
    ap (λ x. a_term.grabs x t) (sym (roll-out-Term x)) ∙ ap (λ g. g.grabs t) (term_grabs_are (out-Term x).token (out-Term x).operator (out-Term x).operand) ∙ operand_free (out-Term x).operand t p q

-- an operator goes on with no operand
pub operand_apart : (x : Operand) → Apart begins_term (an_operand.grabs x)
operand_apart x t go = operand_free x t (excludes classes.OpenBracket is_operator refl t go) (excludes classes.OpenParen is_operator refl t go)

pub term_apart : (x : Term) → Apart begins_term (a_term.grabs x)
term_apart x t go = term_free x t (excludes classes.OpenBracket is_operator refl t go) (excludes classes.OpenParen is_operator refl t go)

goes_ends : (prior : Option Word → Bool) (xs : List Term) → prior (Some (word_of classes.Question)) ≡ false → ((x : Term) → a_term.grabs x (Some (word_of classes.Question)) ≡ false)
    → ends prior (map (λ g. g.grabs) (map term_more xs)) (Some (word_of classes.Question)) ≡ false
goes_ends prior [] p each = p
goes_ends prior (x ∷ xs) p each = goes_ends (a_term.grabs x) xs (each x) each

-- the test for a `?` stands behind a whole chain
pub chain_question : (c : Chain) → a_chain.grabs c (Some (word_of classes.Question)) ≡ false
chain_question c =
    let o = out-Chain c in
    let bracket = word_is_not classes.OpenBracket classes.Question refl refl in
    let paren = word_is_not classes.OpenParen classes.Question refl refl in
    ap (λ c. a_chain.grabs c (Some (word_of classes.Question))) (sym (roll-out-Chain c)) ∙ ap (λ g. g.grabs (Some (word_of classes.Question))) (chain_grabs_are o.token o.first o.rest)
    ∙ or_both _ _ (ap is_operator (class_at_word classes.Question refl))
    (goes_ends (an_operand.grabs o.first) o.rest (operand_free o.first (Some (word_of classes.Question)) bracket paren) (λ x. term_free x (Some (word_of classes.Question)) bracket paren))

-- With which tokens an expression goes on: the kinds of trees.
use Rattle.std.proofs.Common.{◌≡◌, ℕ, Bool, false, ◌||◌, List, [], ◌∷◌, map, Option, Some, None, refl, sym, ap, ◌∙◌}
use Rattle.dpi_grammar.proofs.Exact.{Kind}
use Rattle.dpi_grammar.proofs.Rules.{never}
use Rattle.dpi_grammar.proofs.Many.{or_left, or_right, or_both, ends, option_grabs}
use Rattle.dpi_lex.specs.Words.{Word}
use Rattle.c_tree.specs.declared.class.Class.TheVariants as classes
use Rattle.c_tree.specs.declared.expr.Prefix.{Prefix}
use Rattle.c_tree.specs.declared.expr.CExpr.{CExpr, fold-CExpr, fold-roll-CExpr}
use Rattle.c_tree.specs.declared.expr.Assignment.{Assignment, fold-Assignment, fold-roll-Assignment}
use Rattle.c_tree.specs.declared.expr.Cond.{Cond, fold-Cond, fold-roll-Cond}
use Rattle.c_tree.specs.declared.expr.Choice.{Choice, fold-Choice, fold-roll-Choice}
use Rattle.c_tree.specs.declared.expr.Chain.{Chain, fold-Chain, fold-roll-Chain}
use Rattle.c_tree.specs.declared.expr.Term.{Term, fold-Term, fold-roll-Term}
use Rattle.c_tree.specs.declared.expr.Operand.{Operand, fold-Operand, fold-roll-Operand}
use Rattle.c_tree.specs.declared.expr.Primary.{Primary, roll-Primary, out-Primary, roll-out-Primary, fold-Primary, fold-roll-Primary}
use Rattle.c_tree.specs.declared.expr.Suffix.{Suffix, roll-Suffix, out-Suffix, roll-out-Suffix, fold-Suffix, fold-roll-Suffix}
use Rattle.c_tree.specs.declared.expr.Primary.TheOpen.{Primary-F, Suffix-F, Assignment-F, CExpr-F, Chain-F, Choice-F, Cond-F, Operand-F, Term-F}
use Rattle.c_tree.specs.declared.operators.BinaryOperator.{BinaryOperator}
use Rattle.c_tree.specs.declared.operators.AssignOperator.{AssignOperator}
use Rattle.c_tree.specs.Classes.{is}
use Rattle.c_tree.specs.Expressions.{prefix_told, expr_told, assignment_told, cond_told, choice_told, chain_told, term_told, operand_told, primary_told, suffix_told}
use Rattle.c_expr.specs.Front.{begins_term, begins_assignment, begins_suffix}
use Rattle.c_expr.proofs.Trees.{Layer, SuffixLayer, expr, assignment, cond, choice, chain, term, operand}

-- ---- the tokens that some tree goes on with

abbrev pub behind_primary : Option Word → Bool
behind_primary t = is classes.OpenParen t

abbrev pub behind_operand : Option Word → Bool
behind_operand t = begins_suffix t || behind_primary t

abbrev pub behind_chain : Option Word → Bool
behind_chain t = begins_term t || behind_operand t

abbrev pub behind_cond : Option Word → Bool
behind_cond t = is classes.Question t || behind_chain t

abbrev pub behind_expr : Option Word → Bool
behind_expr t = begins_assignment t || behind_cond t

-- the tokens that one tree goes on with, which are some of these
pub record Goes (some : Option Word → Bool) : Type 0 where
  pub grabs : Option Word → Bool
  pub free : (t : Option Word) → some t ≡ false → grabs t ≡ false

-- none
abbrev pub no_more : {some : Option Word → Bool} → Goes some
no_more = record { grabs = λ t. never t; free = λ t e. refl }

-- more of them
abbrev pub wider : {some more : Option Word → Bool} → ((t : Option Word) → more t ≡ false → some t ≡ false) → Goes some → Goes more
wider narrow g = record { grabs = g.grabs; free = λ t e. g.free t (narrow t e) }

-- these, or what the last of some parts goes on with
abbrev pub last_of : {some : Option Word → Bool} → (Option Word → Bool) → List (Goes some) → Option Word → Bool
last_of prior gs t = ends prior (map (λ g. g.grabs) gs) t

pub last_free : {some : Option Word → Bool} (prior : Option Word → Bool) (gs : List (Goes some)) (t : Option Word) → some t ≡ false → prior t ≡ false → last_of prior gs t ≡ false
last_free prior [] t e p = p
last_free prior (g ∷ gs) t e p = last_free g.grabs gs t e (g.free t e)

abbrev pub some_more : {some : Option Word → Bool} → (begins : Option Word → Bool) → Goes some → List (Goes some) → Goes (λ t. begins t || some t)
some_more {some = some} begins g gs = record {
  grabs = λ t. begins t || last_of g.grabs gs t;
  free = λ t e. or_both _ _ (or_left (begins t) (some t) e) (last_free g.grabs gs t (or_right (begins t) (some t) e) (g.free t (or_right (begins t) (some t) e)));
}

-- ---- productions, with what each part goes on with in its place

abbrev pub OfPrimary : Type 0
OfPrimary = Goes behind_primary

abbrev pub OfOperand : Type 0
OfOperand = Goes behind_operand

abbrev pub OfChain : Type 0
OfChain = Goes behind_chain

abbrev pub OfCond : Type 0
OfCond = Goes behind_cond

abbrev pub OfExpr : Type 0
OfExpr = Goes behind_expr

-- a name that stands alone may be a call's
abbrev pub name_goes : OfPrimary
name_goes = record { grabs = λ t. is classes.OpenParen t || never t; free = λ t e. or_both _ _ e refl }

abbrev pub primary_goes : Primary-F OfPrimary OfPrimary OfCond OfExpr OfChain OfCond OfCond OfOperand OfOperand → OfPrimary
primary_goes (Primary-F.Name n) = name_goes
primary_goes _ = no_more

abbrev pub suffix_goes : Suffix-F OfPrimary OfPrimary OfCond OfExpr OfChain OfCond OfCond OfOperand OfOperand → OfPrimary
suffix_goes s = no_more

abbrev pub operand_goes : Operand-F OfPrimary OfPrimary OfCond OfExpr OfChain OfCond OfCond OfOperand OfOperand → OfOperand
operand_goes o = some_more begins_suffix o.primary o.suffixes

abbrev pub term_goes : Term-F OfPrimary OfPrimary OfCond OfExpr OfChain OfCond OfCond OfOperand OfOperand → OfOperand
term_goes t = t.operand

abbrev pub chain_goes : Chain-F OfPrimary OfPrimary OfCond OfExpr OfChain OfCond OfCond OfOperand OfOperand → OfChain
chain_goes c = some_more begins_term c.first c.rest

abbrev pub choice_goes : Choice-F OfPrimary OfPrimary OfCond OfExpr OfChain OfCond OfCond OfOperand OfOperand → OfCond
choice_goes c = c.no

abbrev pub cond_goes_by : OfChain → Option OfCond → OfCond
cond_goes_by c None = some_more (is classes.Question) c []
cond_goes_by c (Some g) = g

abbrev pub cond_goes : Cond-F OfPrimary OfPrimary OfCond OfExpr OfChain OfCond OfCond OfOperand OfOperand → OfCond
cond_goes c = cond_goes_by c.chain c.choice

abbrev pub assignment_goes : Assignment-F OfPrimary OfPrimary OfCond OfExpr OfChain OfCond OfCond OfOperand OfOperand → OfCond
assignment_goes a = a.value

abbrev pub expr_goes : CExpr-F OfPrimary OfPrimary OfCond OfExpr OfChain OfCond OfCond OfOperand OfOperand → OfExpr
expr_goes e = some_more begins_assignment e.first e.rest

abbrev pub primary_more : Primary → OfPrimary
primary_more = fold-Primary OfPrimary OfPrimary OfCond OfExpr OfChain OfCond OfCond OfOperand OfOperand primary_goes suffix_goes assignment_goes expr_goes chain_goes choice_goes cond_goes operand_goes term_goes

abbrev pub suffix_more : Suffix → OfPrimary
suffix_more = fold-Suffix OfPrimary OfPrimary OfCond OfExpr OfChain OfCond OfCond OfOperand OfOperand primary_goes suffix_goes assignment_goes expr_goes chain_goes choice_goes cond_goes operand_goes term_goes

abbrev pub operand_more : Operand → OfOperand
operand_more = fold-Operand OfPrimary OfPrimary OfCond OfExpr OfChain OfCond OfCond OfOperand OfOperand primary_goes suffix_goes assignment_goes expr_goes chain_goes choice_goes cond_goes operand_goes term_goes

abbrev pub term_more : Term → OfOperand
term_more = fold-Term OfPrimary OfPrimary OfCond OfExpr OfChain OfCond OfCond OfOperand OfOperand primary_goes suffix_goes assignment_goes expr_goes chain_goes choice_goes cond_goes operand_goes term_goes

abbrev pub chain_more : Chain → OfChain
chain_more = fold-Chain OfPrimary OfPrimary OfCond OfExpr OfChain OfCond OfCond OfOperand OfOperand primary_goes suffix_goes assignment_goes expr_goes chain_goes choice_goes cond_goes operand_goes term_goes

abbrev pub choice_more : Choice → OfCond
choice_more = fold-Choice OfPrimary OfPrimary OfCond OfExpr OfChain OfCond OfCond OfOperand OfOperand primary_goes suffix_goes assignment_goes expr_goes chain_goes choice_goes cond_goes operand_goes term_goes

abbrev pub cond_more : Cond → OfCond
cond_more = fold-Cond OfPrimary OfPrimary OfCond OfExpr OfChain OfCond OfCond OfOperand OfOperand primary_goes suffix_goes assignment_goes expr_goes chain_goes choice_goes cond_goes operand_goes term_goes

abbrev pub assignment_more : Assignment → OfCond
assignment_more = fold-Assignment OfPrimary OfPrimary OfCond OfExpr OfChain OfCond OfCond OfOperand OfOperand primary_goes suffix_goes assignment_goes expr_goes chain_goes choice_goes cond_goes operand_goes term_goes

abbrev pub expr_more : CExpr → OfExpr
expr_more = fold-CExpr OfPrimary OfPrimary OfCond OfExpr OfChain OfCond OfCond OfOperand OfOperand primary_goes suffix_goes assignment_goes expr_goes chain_goes choice_goes cond_goes operand_goes term_goes

-- ---- kinds

abbrev pub a_prefix : Kind Word Prefix
a_prefix = record { told = prefix_told; grabs = λ _ _. false }

abbrev pub a_suffix : Kind Word Suffix
a_suffix = record { told = suffix_told; grabs = λ x. (suffix_more x).grabs }

abbrev pub a_primary : Kind Word Primary
a_primary = record { told = primary_told; grabs = λ x. (primary_more x).grabs }

abbrev pub an_operand : Kind Word Operand
an_operand = record { told = operand_told; grabs = λ x. (operand_more x).grabs }

abbrev pub a_term : Kind Word Term
a_term = record { told = term_told; grabs = λ x. (term_more x).grabs }

abbrev pub a_chain : Kind Word Chain
a_chain = record { told = chain_told; grabs = λ x. (chain_more x).grabs }

abbrev pub a_choice : Kind Word Choice
a_choice = record { told = choice_told; grabs = λ x. (choice_more x).grabs }

abbrev pub a_cond : Kind Word Cond
a_cond = record { told = cond_told; grabs = λ x. (cond_more x).grabs }

abbrev pub an_assignment : Kind Word Assignment
an_assignment = record { told = assignment_told; grabs = λ x. (assignment_more x).grabs }

abbrev pub an_expr : Kind Word CExpr
an_expr = record { told = expr_told; grabs = λ x. (expr_more x).grabs }

-- ---- what each goes on with

last_same : {X : Type 0} {some : Option Word → Bool} (f : X → Goes some) (prior : Option Word → Bool) (xs : List X) (t : Option Word) → last_of prior (map f xs) t ≡ ends prior (map (λ x. (f x).grabs) xs) t
last_same f prior [] t = refl
last_same f prior (x ∷ xs) t = last_same f (f x).grabs xs t

layer_more : Layer → OfPrimary
layer_more (Primary-F.Name n) = name_goes
layer_more _ = no_more

primary_more_is : (l : Layer) → primary_more (roll-Primary l) ≡ layer_more l
unfolding layer_more
primary_more_is (Primary-F.Name n) = fold-roll-Primary OfPrimary OfPrimary OfCond OfExpr OfChain OfCond OfCond OfOperand OfOperand primary_goes suffix_goes assignment_goes expr_goes chain_goes choice_goes cond_goes operand_goes term_goes _
primary_more_is (Primary-F.Number n) = fold-roll-Primary OfPrimary OfPrimary OfCond OfExpr OfChain OfCond OfCond OfOperand OfOperand primary_goes suffix_goes assignment_goes expr_goes chain_goes choice_goes cond_goes operand_goes term_goes _
primary_more_is (Primary-F.Character c) = fold-roll-Primary OfPrimary OfPrimary OfCond OfExpr OfChain OfCond OfCond OfOperand OfOperand primary_goes suffix_goes assignment_goes expr_goes chain_goes choice_goes cond_goes operand_goes term_goes _
primary_more_is (Primary-F.Text t) = fold-roll-Primary OfPrimary OfPrimary OfCond OfExpr OfChain OfCond OfCond OfOperand OfOperand primary_goes suffix_goes assignment_goes expr_goes chain_goes choice_goes cond_goes operand_goes term_goes _
primary_more_is (Primary-F.Null k) = fold-roll-Primary OfPrimary OfPrimary OfCond OfExpr OfChain OfCond OfCond OfOperand OfOperand primary_goes suffix_goes assignment_goes expr_goes chain_goes choice_goes cond_goes operand_goes term_goes _
primary_more_is (Primary-F.Call n k es) = fold-roll-Primary OfPrimary OfPrimary OfCond OfExpr OfChain OfCond OfCond OfOperand OfOperand primary_goes suffix_goes assignment_goes expr_goes chain_goes choice_goes cond_goes operand_goes term_goes _
primary_more_is (Primary-F.Group k e) = fold-roll-Primary OfPrimary OfPrimary OfCond OfExpr OfChain OfCond OfCond OfOperand OfOperand primary_goes suffix_goes assignment_goes expr_goes chain_goes choice_goes cond_goes operand_goes term_goes _

-- what a layer of a primary goes on with
abbrev pub layer_grabs : Layer → Option Word → Bool
layer_grabs (Primary-F.Name n) t = is classes.OpenParen t || never t
layer_grabs _ t = false

layer_same : (l : Layer) (t : Option Word) → (layer_more l).grabs t ≡ layer_grabs l t
unfolding layer_more
layer_same (Primary-F.Name n) t = refl
layer_same _ t = refl

pub primary_grabs_are : (p : Primary) (l : Layer) → out-Primary p ≡ l → (t : Option Word) → a_primary.grabs p t ≡ layer_grabs l t
primary_grabs_are p l e t =
    ap (λ p. a_primary.grabs p t) (sym (roll-out-Primary p)) ∙ ap (λ g. g.grabs t) (primary_more_is (out-Primary p)) ∙ layer_same (out-Primary p) t ∙ ap (λ l. layer_grabs l t) e

suffix_more_is : (l : SuffixLayer) → suffix_more (roll-Suffix l) ≡ no_more
suffix_more_is (Suffix-F.Index k e) = fold-roll-Suffix OfPrimary OfPrimary OfCond OfExpr OfChain OfCond OfCond OfOperand OfOperand primary_goes suffix_goes assignment_goes expr_goes chain_goes choice_goes cond_goes operand_goes term_goes _
suffix_more_is (Suffix-F.Member k n) = fold-roll-Suffix OfPrimary OfPrimary OfCond OfExpr OfChain OfCond OfCond OfOperand OfOperand primary_goes suffix_goes assignment_goes expr_goes chain_goes choice_goes cond_goes operand_goes term_goes _
suffix_more_is (Suffix-F.Arrow k n) = fold-roll-Suffix OfPrimary OfPrimary OfCond OfExpr OfChain OfCond OfCond OfOperand OfOperand primary_goes suffix_goes assignment_goes expr_goes chain_goes choice_goes cond_goes operand_goes term_goes _
suffix_more_is (Suffix-F.Increment k) = fold-roll-Suffix OfPrimary OfPrimary OfCond OfExpr OfChain OfCond OfCond OfOperand OfOperand primary_goes suffix_goes assignment_goes expr_goes chain_goes choice_goes cond_goes operand_goes term_goes _
suffix_more_is (Suffix-F.Decrement k) = fold-roll-Suffix OfPrimary OfPrimary OfCond OfExpr OfChain OfCond OfCond OfOperand OfOperand primary_goes suffix_goes assignment_goes expr_goes chain_goes choice_goes cond_goes operand_goes term_goes _

pub suffix_grabs_are : (x : Suffix) (t : Option Word) → a_suffix.grabs x t ≡ false
suffix_grabs_are x t = ap (λ x. a_suffix.grabs x t) (sym (roll-out-Suffix x)) ∙ ap (λ g. g.grabs t) (suffix_more_is (out-Suffix x))

pub operand_grabs_are : (k : ℕ) (ps : List Prefix) (p : Primary) (ss : List Suffix) (t : Option Word) → an_operand.grabs (operand k ps p ss) t ≡ (begins_suffix t || ends (a_primary.grabs p) (map a_suffix.grabs ss) t)
operand_grabs_are k ps p ss t = ap (λ g. g.grabs t) (fold-roll-Operand OfPrimary OfPrimary OfCond OfExpr OfChain OfCond OfCond OfOperand OfOperand primary_goes suffix_goes assignment_goes expr_goes chain_goes choice_goes cond_goes operand_goes term_goes _) ∙ ap (λ b. begins_suffix t || b) (last_same suffix_more (a_primary.grabs p) ss t)

pub term_grabs_are : (k : ℕ) (o : BinaryOperator) (x : Operand) (t : Option Word) → a_term.grabs (term k o x) t ≡ an_operand.grabs x t
term_grabs_are k o x t = ap (λ g. g.grabs t) (fold-roll-Term OfPrimary OfPrimary OfCond OfExpr OfChain OfCond OfCond OfOperand OfOperand primary_goes suffix_goes assignment_goes expr_goes chain_goes choice_goes cond_goes operand_goes term_goes _)

pub chain_grabs_are : (k : ℕ) (x : Operand) (xs : List Term) (t : Option Word) → a_chain.grabs (chain k x xs) t ≡ (begins_term t || ends (an_operand.grabs x) (map a_term.grabs xs) t)
chain_grabs_are k x xs t = ap (λ g. g.grabs t) (fold-roll-Chain OfPrimary OfPrimary OfCond OfExpr OfChain OfCond OfCond OfOperand OfOperand primary_goes suffix_goes assignment_goes expr_goes chain_goes choice_goes cond_goes operand_goes term_goes _) ∙ ap (λ b. begins_term t || b) (last_same term_more (an_operand.grabs x) xs t)

pub choice_grabs_are : (k : ℕ) (x : CExpr) (y : Cond) (t : Option Word) → a_choice.grabs (choice k x y) t ≡ a_cond.grabs y t
choice_grabs_are k x y t = ap (λ g. g.grabs t) (fold-roll-Choice OfPrimary OfPrimary OfCond OfExpr OfChain OfCond OfCond OfOperand OfOperand primary_goes suffix_goes assignment_goes expr_goes chain_goes choice_goes cond_goes operand_goes term_goes _)

pub cond_grabs_are : (k : ℕ) (c : Chain) (o : Option Choice) (t : Option Word) → a_cond.grabs (cond k c o) t ≡ option_grabs (is classes.Question) a_choice (a_chain.grabs c) o t
cond_grabs_are k c None t = ap (λ g. g.grabs t) (fold-roll-Cond OfPrimary OfPrimary OfCond OfExpr OfChain OfCond OfCond OfOperand OfOperand primary_goes suffix_goes assignment_goes expr_goes chain_goes choice_goes cond_goes operand_goes term_goes _)
cond_grabs_are k c (Some x) t = ap (λ g. g.grabs t) (fold-roll-Cond OfPrimary OfPrimary OfCond OfExpr OfChain OfCond OfCond OfOperand OfOperand primary_goes suffix_goes assignment_goes expr_goes chain_goes choice_goes cond_goes operand_goes term_goes _)

pub assignment_grabs_are : (k : ℕ) (o : AssignOperator) (c : Cond) (t : Option Word) → an_assignment.grabs (assignment k o c) t ≡ a_cond.grabs c t
assignment_grabs_are k o c t = ap (λ g. g.grabs t) (fold-roll-Assignment OfPrimary OfPrimary OfCond OfExpr OfChain OfCond OfCond OfOperand OfOperand primary_goes suffix_goes assignment_goes expr_goes chain_goes choice_goes cond_goes operand_goes term_goes _)

pub expr_grabs_are : (k : ℕ) (c : Cond) (xs : List Assignment) (t : Option Word) → an_expr.grabs (expr k c xs) t ≡ (begins_assignment t || ends (a_cond.grabs c) (map an_assignment.grabs xs) t)
expr_grabs_are k c xs t = ap (λ g. g.grabs t) (fold-roll-CExpr OfPrimary OfPrimary OfCond OfExpr OfChain OfCond OfCond OfOperand OfOperand primary_goes suffix_goes assignment_goes expr_goes chain_goes choice_goes cond_goes operand_goes term_goes _) ∙ ap (λ b. begins_assignment t || b) (last_same assignment_more (a_cond.grabs c) xs t)

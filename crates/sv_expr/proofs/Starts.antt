-- What each production begins with, and a shortest expression.
use Rattle.std.proofs.Common.{◌≡◌, ℕ, ◌+◌, ◌≤◌, Bool, true, false, ◌||◌, List, [], ◌∷◌, ◌++◌, map, length, Option, Some, None, refl, sym, ap, ◌∙◌, subst, arith, append_assoc}
use Rattle.std.specs.Prelude.{option_map}
use Rattle.dpi_grammar.specs.Told.{◌&◌, noted, maybe, each, deeper, nothing, words_in, IsRight}
use Rattle.dpi_grammar.specs.Parser.{first, is_there}
use Rattle.dpi_grammar.proofs.Lists.{words_append, right_split}
use Rattle.dpi_grammar.proofs.Exact.{words, levels, Is, Viable}
use Rattle.dpi_grammar.proofs.Many.{Starts, and_assoc}
use Rattle.dpi_lex.specs.Words.{Word}
use Rattle.sv_tree.specs.declared.class.Class.{Class}
use Rattle.sv_tree.specs.declared.class.Class.TheVariants as classes
use Rattle.sv_tree.specs.declared.leaves.Name.{Name}
use Rattle.sv_tree.specs.declared.leaves.Number.{Number}
use Rattle.sv_tree.specs.declared.expr.Prefix.{Prefix}
use Rattle.sv_tree.specs.declared.expr.Expr.{Expr, out-Expr, roll-out-Expr}
use Rattle.sv_tree.specs.declared.expr.Choice.{Choice, out-Choice, roll-out-Choice}
use Rattle.sv_tree.specs.declared.expr.Chain.{Chain, out-Chain, roll-out-Chain}
use Rattle.sv_tree.specs.declared.expr.Term.{Term, out-Term, roll-out-Term}
use Rattle.sv_tree.specs.declared.expr.Operand.{Operand, out-Operand, roll-out-Operand}
use Rattle.sv_tree.specs.declared.expr.Primary.{Primary, out-Primary}
use Rattle.sv_tree.specs.declared.expr.Primary.TheVariants as forms
use Rattle.sv_tree.specs.declared.expr.Lvalue.{Lvalue, out-Lvalue, roll-out-Lvalue}
use Rattle.sv_tree.specs.declared.expr.Select.{Select, out-Select}
use Rattle.sv_tree.specs.declared.expr.Call.{out-Call, roll-out-Call}
use Rattle.sv_tree.specs.declared.expr.Primary.TheOpen.{Primary-F, Select-F}
use Rattle.sv_tree.specs.Classes.{a_word, class_at, word_of}
use Rattle.sv_tree.specs.Operators.{unary_class, binary_class}
use Rattle.sv_tree.specs.Expressions.{Tells, quoted, expr_told, chain_told, choice_told, operand_told, term_told, primary_told, select_told, call_told, lvalue_told, prefix_told, name_told, number_told}
use Rattle.sv_cursor.proofs.Tokens.{class_is, class_at_word, name_class}
use Rattle.sv_expr.specs.Front.{front_of, is_some_front, is_prefix, is_operator, begins_prefix, begins_term, begins_expr}
use Rattle.sv_expr.specs.Bounds.{Layer}
use Rattle.sv_expr.proofs.Goes.{a_prefix, a_primary, a_select, an_operand, a_term, a_chain, a_choice, an_expr}
use Rattle.sv_expr.proofs.Trees.{SelectLayer, expr, chain, operand, expr_tells, choice_tells, chain_tells, term_tells, operand_tells, lvalue_tells, call_tells, layer_told, primary_tells, select_layer_told, select_tells}
use Rattle.sv_expr.proofs.Operators.{unary_back, unary_fixed, binary_back, binary_fixed}

-- ---- a shortest expression

-- an expression that is prefixes and a number
abbrev pub simple : ℕ → ℕ → ℕ → List Prefix → Number → Expr
simple k k2 k3 us m = expr k (chain k2 (operand k3 us (forms.Number m)) []) None

pub simple_tells : (k k2 k3 : ℕ) (us : List Prefix) (m : Number) → expr_told (simple k k2 k3 us m) ≡ noted k & (noted k2 & (noted k3 & each (map prefix_told us) & number_told m) & nothing) & nothing
simple_tells k k2 k3 us m = expr_tells k _ None
    ∙ ap (λ (c : Tells). noted k & c & nothing) (chain_tells k2 _ [] ∙ ap (λ (x : Tells). noted k2 & x & nothing)
    (operand_tells k3 us _ ∙ ap (λ (p : Tells). noted k3 & each (map prefix_told us) & p) (primary_tells (forms.Number m) _ (forms.outs-Number m))))

abbrev pub number_at : ℕ → Number
number_at n = record { token = n; bytes = [] }

pub number_viable : (d n : ℕ) → Viable a_primary d n []
number_viable d n =
    let e = primary_tells (forms.Number (number_at n)) _ (forms.outs-Number (number_at n)) in
    record {
      tree = forms.Number (number_at n);
      left = words a_primary (forms.Number (number_at n));
      begins = refl;
      is = subst (λ (a : Tells). IsRight n a.atoms) (sym e) (refl, tt);
      few = subst (λ (a : Tells). a.levels ≤ d) (sym e) (omega arith);
    }

pub operand_viable : (d n : ℕ) → Viable an_operand d n []
operand_viable d n =
    let e = operand_tells n [] (forms.Number (number_at n)) ∙ ap (λ (p : Tells). noted n & nothing & p) (primary_tells (forms.Number (number_at n)) _ (forms.outs-Number (number_at n))) in
    record {
      tree = operand n [] (forms.Number (number_at n));
      left = words an_operand (operand n [] (forms.Number (number_at n)));
      begins = refl;
      is = subst (λ (a : Tells). IsRight n a.atoms) (sym e) (refl, (refl, tt));
      few = subst (λ (a : Tells). a.levels ≤ d) (sym e) (omega arith);
    }

pub expr_viable : (d n : ℕ) → Viable an_expr d n []
expr_viable d n =
    let e = simple_tells n n n [] (number_at n) in
    record {
      tree = simple n n n [] (number_at n);
      left = words an_expr (simple n n n [] (number_at n));
      begins = refl;
      is = subst (λ (a : Tells). IsRight n a.atoms) (sym e) (refl, (refl, (refl, (refl, tt))));
      few = subst (λ (a : Tells). a.levels ≤ d) (sym e) (omega arith);
    }

-- ---- the trees of each type

pub expr_opened : (e : Expr) → expr_told e ≡ noted (out-Expr e).token & chain_told (out-Expr e).chain & maybe (option_map choice_told (out-Expr e).choice)
expr_opened e = ap expr_told (sym (roll-out-Expr e)) ∙ expr_tells (out-Expr e).token (out-Expr e).chain (out-Expr e).choice

chain_opened : (c : Chain) → chain_told c ≡ noted (out-Chain c).token & operand_told (out-Chain c).first & each (map term_told (out-Chain c).rest)
chain_opened c = ap chain_told (sym (roll-out-Chain c)) ∙ chain_tells (out-Chain c).token (out-Chain c).first (out-Chain c).rest

operand_opened : (x : Operand) → operand_told x ≡ noted (out-Operand x).token & each (map prefix_told (out-Operand x).prefixes) & primary_told (out-Operand x).primary
operand_opened x = ap operand_told (sym (roll-out-Operand x)) ∙ operand_tells (out-Operand x).token (out-Operand x).prefixes (out-Operand x).primary

term_opened : (x : Term) → term_told x ≡ noted (out-Term x).token & quoted (binary_class (out-Term x).operator) & operand_told (out-Term x).operand
term_opened x = ap term_told (sym (roll-out-Term x)) ∙ term_tells (out-Term x).token (out-Term x).operator (out-Term x).operand

choice_opened : (x : Choice) → choice_told x ≡ deeper (noted (out-Choice x).token & quoted classes.Question & expr_told (out-Choice x).yes & quoted classes.Colon & expr_told (out-Choice x).no)
choice_opened x = ap choice_told (sym (roll-out-Choice x)) ∙ choice_tells (out-Choice x).token (out-Choice x).yes (out-Choice x).no

lvalue_opened : (l : Lvalue) → lvalue_told l ≡ name_told (out-Lvalue l).name & each (map select_told (out-Lvalue l).selects)
lvalue_opened l = ap lvalue_told (sym (roll-out-Lvalue l)) ∙ lvalue_tells (out-Lvalue l).name (out-Lvalue l).selects

-- ---- first tokens

regroup : (a b : Tells) (r : List Word) → words_in (a & b).atoms ++ r ≡ words_in a.atoms ++ (words_in b.atoms ++ r)
regroup a b r = ap (λ w. w ++ r) (words_append a.atoms b.atoms) ∙ append_assoc (words_in a.atoms) (words_in b.atoms) r

-- what begins a part begins the whole
front_starts : (f : Option Word → Bool) (a b whole : Tells) (n : ℕ) (r : List Word) → whole ≡ a & b → ((m : List Word) → IsRight n a.atoms → f (first (words_in a.atoms ++ m)) ≡ true) → IsRight n whole.atoms
    → f (first (words_in whole.atoms ++ r)) ≡ true
front_starts f a b whole n r e starts is =
    let h = (right_split n (n + length (words_in a.atoms)) a.atoms b.atoms refl (subst (λ (t : Tells). IsRight n t.atoms) e is)).0 in
    ap (λ (t : Tells). f (first (words_in t.atoms ++ r))) e ∙ ap (λ w. f (first w)) (regroup a b r) ∙ starts (words_in b.atoms ++ r) h

-- the class of the token that a primary begins with
abbrev pub class_in : Layer → Class
class_in (Primary-F.Number n) = classes.Number
class_in (Primary-F.Text t) = classes.Text
class_in (Primary-F.Null k) = classes.Null
class_in (Primary-F.Place l) = classes.Name
class_in (Primary-F.Call c) = classes.Name
class_in (Primary-F.Group k e) = classes.OpenParen
class_in (Primary-F.Concatenation k es) = classes.OpenBrace
class_in (Primary-F.Repetition k n es) = classes.OpenBrace
class_in (Primary-F.Signed k e) = classes.ToSigned
class_in (Primary-F.Unsigned k e) = classes.ToUnsigned

-- what begins with a name
named_class : (n : ℕ) (a : Name) (b whole : Tells) (r : List Word) → whole ≡ name_told a & b → IsRight n whole.atoms → class_at (first (words_in whole.atoms ++ r)) ≡ Some classes.Name
named_class n a b whole r e is =
    let h = subst (λ (t : Tells). IsRight n t.atoms) e is in
    ap (λ (t : Tells). class_at (first (words_in t.atoms ++ r))) e ∙ class_is classes.Name (Some (a_word a.bytes)) (name_class a.bytes h.1.0)

layer_class : (n : ℕ) (l : Layer) (r : List Word) → IsRight n (layer_told l).atoms → class_at (first (words_in (layer_told l).atoms ++ r)) ≡ Some (class_in l)
layer_class n (Primary-F.Number m) r is = refl
layer_class n (Primary-F.Text t) r is = refl
layer_class n (Primary-F.Null k) r is = class_at_word classes.Null refl
layer_class n (Primary-F.Place l) r is = named_class n (out-Lvalue l).name _ (lvalue_told l) r (lvalue_opened l) is
layer_class n (Primary-F.Call c) r is =
    named_class n (out-Call c).name _ (call_told c) r (ap call_told (sym (roll-out-Call c)) ∙ call_tells (out-Call c).name (out-Call c).token (out-Call c).actuals) is
layer_class n (Primary-F.Group k e) r is = class_at_word classes.OpenParen refl
layer_class n (Primary-F.Concatenation k es) r is = class_at_word classes.OpenBrace refl
layer_class n (Primary-F.Repetition k m es) r is = class_at_word classes.OpenBrace refl
layer_class n (Primary-F.Signed k e) r is = class_at_word classes.ToSigned refl
layer_class n (Primary-F.Unsigned k e) r is = class_at_word classes.ToUnsigned refl

pub primary_class : (n : ℕ) (p : Primary) (r : List Word) → Is a_primary n p → class_at (first (words a_primary p ++ r)) ≡ Some (class_in (out-Primary p))
primary_class n p r is =
    let e = primary_tells p (out-Primary p) refl in
    ap (λ (t : Tells). class_at (first (words_in t.atoms ++ r))) e ∙ layer_class n (out-Primary p) r (subst (λ (t : Tells). IsRight n t.atoms) e is)

layer_fronts : (l : Layer) → is_some_front (front_of (Some (class_in l))) ≡ true
layer_fronts (Primary-F.Number n) = refl
layer_fronts (Primary-F.Text t) = refl
layer_fronts (Primary-F.Null k) = refl
layer_fronts (Primary-F.Place l) = refl
layer_fronts (Primary-F.Call c) = refl
layer_fronts (Primary-F.Group k e) = refl
layer_fronts (Primary-F.Concatenation k es) = refl
layer_fronts (Primary-F.Repetition k n es) = refl
layer_fronts (Primary-F.Signed k e) = refl
layer_fronts (Primary-F.Unsigned k e) = refl

pub primary_fronts : (n : ℕ) (p : Primary) (r : List Word) → Is a_primary n p → is_some_front (front_of (class_at (first (words a_primary p ++ r)))) ≡ true
primary_fronts n p r is = ap (λ c. is_some_front (front_of c)) (primary_class n p r is) ∙ layer_fronts (out-Primary p)

layer_no_prefix : (l : Layer) → is_prefix (Some (class_in l)) ≡ false
layer_no_prefix (Primary-F.Number n) = refl
layer_no_prefix (Primary-F.Text t) = refl
layer_no_prefix (Primary-F.Null k) = refl
layer_no_prefix (Primary-F.Place l) = refl
layer_no_prefix (Primary-F.Call c) = refl
layer_no_prefix (Primary-F.Group k e) = refl
layer_no_prefix (Primary-F.Concatenation k es) = refl
layer_no_prefix (Primary-F.Repetition k n es) = refl
layer_no_prefix (Primary-F.Signed k e) = refl
layer_no_prefix (Primary-F.Unsigned k e) = refl

-- no prefix begins a primary
pub primary_no_prefix : (n : ℕ) (p : Primary) (r : List Word) → Is a_primary n p → begins_prefix (first (words a_primary p ++ r)) ≡ false
primary_no_prefix n p r is = ap is_prefix (primary_class n p r is) ∙ layer_no_prefix (out-Primary p)

pub prefix_starts : Starts begins_prefix a_prefix
prefix_starts n u r is = ap is_prefix (class_at_word (unary_class u.operator) (unary_fixed u.operator)) ∙ ap is_there (unary_back u.operator)

or_first : (a b : Bool) → a ≡ true → (a || b) ≡ true
or_first a b e = ap (λ a. a || b) e

or_second : (a b : Bool) → b ≡ true → (a || b) ≡ true
or_second true b e = refl
or_second false b e = e

operand_starts_by : (n : ℕ) (us : List Prefix) (p : Primary) (m : List Word) → IsRight n (each (map prefix_told us) & primary_told p).atoms → begins_expr (first (words_in (each (map prefix_told us) & primary_told p).atoms ++ m)) ≡ true
operand_starts_by n [] p m is = or_first _ _ (primary_fronts n p m is)
operand_starts_by n (u ∷ us) p m is = or_second (is_some_front (front_of (class_at (Some (word_of (unary_class u.operator)))))) _ (prefix_starts n u [] (is.0, tt))

operand_starts : Starts begins_expr an_operand
operand_starts n x r is =
    let o = out-Operand x in
    let e = operand_opened x in
    ap (λ (t : Tells). begins_expr (first (words_in t.atoms ++ r))) e ∙ operand_starts_by n o.prefixes o.primary r (subst (λ (t : Tells). IsRight n t.atoms) e is).1

chain_starts : Starts begins_expr a_chain
chain_starts n c r is =
    let o = out-Chain c in
    front_starts begins_expr (noted o.token & operand_told o.first) (each (map term_told o.rest)) (chain_told c) n r (chain_opened c ∙ sym (and_assoc (noted o.token) (operand_told o.first) (each (map term_told o.rest)))) (λ m h. operand_starts n o.first m h.1) is

-- each expression begins so
pub expr_starts : Starts begins_expr an_expr
expr_starts n e r is =
    let o = out-Expr e in
    front_starts begins_expr (noted o.token & chain_told o.chain) (maybe (option_map choice_told o.choice)) (expr_told e) n r (expr_opened e ∙ sym (and_assoc (noted o.token) (chain_told o.chain) (maybe (option_map choice_told o.choice)))) (λ m h. chain_starts n o.chain m h.1) is

pub term_starts : Starts begins_term a_term
term_starts n x r is =
    let o = (out-Term x).operator in
    ap (λ (t : Tells). begins_term (first (words_in t.atoms ++ r))) (term_opened x) ∙ ap is_operator (class_at_word (binary_class o) (binary_fixed o)) ∙ ap is_there (binary_back o)

pub choice_starts : (n : ℕ) (x : Choice) (r : List Word) → Is a_choice n x → first (words a_choice x ++ r) ≡ Some (word_of classes.Question)
choice_starts n x r is = ap (λ (t : Tells). first (words_in t.atoms ++ r)) (choice_opened x)

pub choice_high : (x : Choice) → levels a_choice x ≤ 0 → ⊥
choice_high x few = omega (arith, ap (λ (t : Tells). t.levels) (choice_opened x))

layer_bracket : (l : SelectLayer) (r : List Word) → first (words_in (select_layer_told l).atoms ++ r) ≡ Some (word_of classes.OpenBracket)
layer_bracket (Select-F.Index k e) r = refl
layer_bracket (Select-F.Range k a b) r = refl
layer_bracket (Select-F.Up k e n) r = refl
layer_bracket (Select-F.Down k e n) r = refl

layer_high : (l : SelectLayer) → (select_layer_told l).levels ≤ 0 → ⊥
layer_high (Select-F.Index k e) few = omega (arith, few)
layer_high (Select-F.Range k a b) few = omega (arith, few)
layer_high (Select-F.Up k e n) few = omega (arith, few)
layer_high (Select-F.Down k e n) few = omega (arith, few)

pub select_starts : (n : ℕ) (x : Select) (r : List Word) → Is a_select n x → first (words a_select x ++ r) ≡ Some (word_of classes.OpenBracket)
select_starts n x r is = ap (λ (t : Tells). first (words_in t.atoms ++ r)) (select_tells x (out-Select x) refl) ∙ layer_bracket (out-Select x) r

pub select_high : (x : Select) → levels a_select x ≤ 0 → ⊥
select_high x few = layer_high (out-Select x) (subst (λ (t : Tells). t.levels ≤ 0) (select_tells x (out-Select x) refl) few)

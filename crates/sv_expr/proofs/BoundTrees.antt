-- Expressions that are a bound or a number tell what it tells; and each bound is such an expression.
use Rattle.std.proofs.Common.{◌≡◌, ℕ, Bool, true, false, List, [], ◌∷◌, map, Option, Some, None, if◌then◌else◌, refl, sym, ap, ◌∙◌, subst, arith}
use denote.Enum.Bare.{sameb, same_true}
use Rattle.dpi_grammar.specs.Told.{◌&◌, noted, nothing, each, words_in, IsRight}
use Rattle.dpi_grammar.proofs.Exact.{Is}
use Rattle.sv_tree.specs.contracts.operators.UnaryOperator.{the_type}
use Rattle.sv_tree.specs.declared.operators.UnaryOperator.TheVariants as unary
use Rattle.sv_tree.specs.declared.leaves.Number.{Number}
use Rattle.sv_tree.specs.declared.leaves.Bound.{Bound}
use Rattle.sv_tree.specs.declared.expr.Prefix.{Prefix}
use Rattle.sv_tree.specs.declared.expr.Expr.{Expr, out-Expr, out-roll-Expr, roll-out-Expr}
use Rattle.sv_tree.specs.declared.expr.Choice.{Choice}
use Rattle.sv_tree.specs.declared.expr.Chain.{Chain, out-Chain, out-roll-Chain, roll-out-Chain}
use Rattle.sv_tree.specs.declared.expr.Term.{Term}
use Rattle.sv_tree.specs.declared.expr.Operand.{Operand, out-Operand, out-roll-Operand, roll-out-Operand}
use Rattle.sv_tree.specs.declared.expr.Primary.{Primary, out-Primary, roll-Primary, roll-out-Primary}
use Rattle.sv_tree.specs.declared.expr.Primary.TheVariants as forms
use Rattle.sv_tree.specs.declared.expr.Primary.TheOpen.{Primary-F}
use Rattle.sv_tree.specs.Expressions.{Tells, expr_told, prefix_told, number_told, bound_told}
use Rattle.sv_cursor.proofs.LeafRules.{a_number, a_bound}
use Rattle.sv_expr.specs.Bounds.{Layer, sign_of, layer_number, number_in, bound_by, operand_bound, alone, chain_bound, unchosen, bound_of, positive, number_of}
use Rattle.sv_expr.proofs.Goes.{an_expr}
use Rattle.sv_expr.proofs.Trees.{expr, chain, operand}
use Rattle.sv_expr.proofs.Starts.{simple, simple_tells}

-- ---- what an expression that is a bound is made of

-- it is prefixes and a number, which make this bound
pub record Simple (x : Expr) (a : Bound) : Type 0 where
  pub token : ℕ
  pub inner : ℕ
  pub prefixes : List Prefix
  pub same : simple a.token token inner prefixes a.number ≡ x
  pub sign : sign_of prefixes ≡ Some a.negative

number_layer : (l : Layer) (m : Number) → layer_number l ≡ Some m → l ≡ Primary-F.Number m
number_layer (Primary-F.Number n) m e = let same : n ≡ m = cc in ap (λ n. let l : Layer = Primary-F.Number n in l) same
number_layer _ m e = let bad : None ≡ Some m = e in absurd (cc)

number_primary : (p : Primary) (m : Number) → number_in p ≡ Some m → forms.Number m ≡ p
number_primary p m e = sym (forms.rolls-Number m) ∙ ap roll-Primary (sym (number_layer (out-Primary p) m e)) ∙ roll-out-Primary p

bound_parts : (k : ℕ) (o : Option Bool) (m : Option Number) (a : Bound) → bound_by k o m ≡ Some a → (o ≡ Some a.negative) × (m ≡ Some a.number) × (k ≡ a.token)
bound_parts k (Some b) (Some n) a e =
    let same : record { token = k; negative = b; number = n } ≡ a = cc in (ap (λ (a : Bound). Some a.negative) same, ap (λ (a : Bound). Some a.number) same, ap (λ (a : Bound). a.token) same)
bound_parts k (Some b) None a e = let bad : None ≡ Some a = e in absurd (cc)
bound_parts k None m a e = let bad : None ≡ Some a = e in absurd (cc)

alone_parts : (k : ℕ) (y : Operand) (ts : List Term) (a : Bound) → alone k y ts ≡ Some a → (ts ≡ []) × (operand_bound k y ≡ Some a)
alone_parts k y [] a e = (refl, e)
alone_parts k y (t ∷ ts) a e = let bad : None ≡ Some a = e in absurd (cc)

unchosen_parts : (k : ℕ) (c : Chain) (o : Option Choice) (a : Bound) → unchosen k c o ≡ Some a → (o ≡ None) × (chain_bound k c ≡ Some a)
unchosen_parts k c None a e = (refl, e)
unchosen_parts k c (Some x) a e = let bad : None ≡ Some a = e in absurd (cc)

is_simple : (x : Expr) (a : Bound) → bound_of x ≡ Some a → Simple x a
is_simple x a e =
    let ex = out-Expr x in
    let c = out-Chain ex.chain in
    let y = out-Operand c.first in
    let h = unchosen_parts ex.token ex.chain ex.choice a e in
    let g = alone_parts ex.token c.first c.rest a h.1 in
    let f = bound_parts ex.token (sign_of y.prefixes) (number_in y.primary) a g.1 in
    let the_operand : operand y.token y.prefixes (forms.Number a.number) ≡ c.first = ap (operand y.token y.prefixes) (number_primary y.primary a.number f.1) ∙ roll-out-Operand c.first in
    let the_chain : chain c.token (operand y.token y.prefixes (forms.Number a.number)) [] ≡ ex.chain = ap (λ y. chain c.token y []) the_operand ∙ ap (chain c.token c.first) (sym g.0) ∙ roll-out-Chain ex.chain in
    record {
      token = c.token;
      inner = y.token;
      prefixes = y.prefixes;
      same = ap (λ k. simple k c.token y.token y.prefixes a.number) (sym f.2) ∙ ap (λ c. expr ex.token c None) the_chain ∙ ap (expr ex.token ex.chain) (sym h.0) ∙ roll-out-Expr x;
      sign = f.0;
    }

-- ---- what such an expression tells

abbrev simple_told : ℕ → ℕ → ℕ → List Prefix → Number → Tells
simple_told k k2 k3 us m = noted k & (noted k2 & (noted k3 & each (map prefix_told us) & number_told m) & nothing) & nothing

-- the same words at the same places
pub record TellsAs (n : ℕ) (a b : Tells) : Type 0 where
  pub words_same : words_in a.atoms ≡ words_in b.atoms
  pub right : IsRight n b.atoms
  pub levels_same : a.levels ≡ b.levels

minus_only : (t b : Bool) → (if t then Some true else None) ≡ Some b → (t ≡ true) × (b ≡ true)
minus_only true b e = (refl, cc)
minus_only false b e = absurd (cc)

abbrev bound_made : ℕ → Bool → Number → Bound
bound_made k b m = record { token = k; negative = b; number = m }

simple_as : (n k k2 k3 : ℕ) (us : List Prefix) (m : Number) (b : Bool) → sign_of us ≡ Some b → IsRight n (simple_told k k2 k3 us m).atoms → TellsAs n (simple_told k k2 k3 us m) (bound_told (bound_made k b m))
simple_as n k k2 k3 [] m false e h = record { words_same = refl; right = (h.0, h.1.1.1); levels_same = omega arith }
simple_as n k k2 k3 [] m true e h = absurd (cc)
simple_as n k k2 k3 (p ∷ []) m true e h =
    let minus : p.operator ≡ unary.Minus = same_true the_type tt p.operator unary.Minus (minus_only (sameb the_type p.operator unary.Minus) true e).0 in
    record {
      words_same = ap (λ o. words_in (prefix_told (record { token = p.token; operator = o }) & number_told m).atoms) minus;
      right = (h.0, h.1.1.1.1);
      levels_same = omega arith;
    }
simple_as n k k2 k3 (p ∷ []) m false e h = let bad : false ≡ true = (minus_only (sameb the_type p.operator unary.Minus) false e).1 in absurd (cc)
simple_as n k k2 k3 (p ∷ q ∷ us) m b e h = let bad : None ≡ Some b = e in absurd (cc)

-- an expression that is a bound tells what the bound does
pub bound_as : (n : ℕ) (x : Expr) (a : Bound) → bound_of x ≡ Some a → Is an_expr n x → TellsAs n (expr_told x) (bound_told a)
bound_as n x a e h =
    let s = is_simple x a e in
    let tells : simple_told a.token s.token s.inner s.prefixes a.number ≡ expr_told x = sym (simple_tells a.token s.token s.inner s.prefixes a.number) ∙ ap expr_told s.same in
    subst (λ (t : Tells). TellsAs n t (bound_told a)) tells
    (simple_as n a.token s.token s.inner s.prefixes a.number a.negative s.sign (subst (λ (t : Tells). IsRight n t.atoms) (sym tells) h))

positive_if : (a : Bound) (m : Number) (b : Bool) → a.negative ≡ b → (if b then None else Some a.number) ≡ Some m → a ≡ bound_made a.token false m
positive_if a m true e f = absurd (cc)
positive_if a m false e f = let same : a.number ≡ m = cc in ap (λ b. bound_made a.token b a.number) e ∙ ap (bound_made a.token false) same

positive_is : (o : Option Bound) (m : Number) → positive o ≡ Some m → (k : ℕ) × (o ≡ Some (bound_made k false m))
positive_is None m e = absurd (cc)
positive_is (Some a) m e = (a.token, ap Some (positive_if a m a.negative refl e))

-- an expression that is a number tells what the number does
pub number_as : (n : ℕ) (x : Expr) (m : Number) → number_of x ≡ Some m → Is an_expr n x → TellsAs n (expr_told x) (number_told m)
number_as n x m e h =
    let p = positive_is (bound_of x) m e in
    let b = bound_as n x (bound_made p.0 false m) p.1 h in
    record { words_same = b.words_same; right = b.right.1; levels_same = omega (arith, b.levels_same) }

-- ---- the expression of each bound

abbrev sign_prefixes : Bool → ℕ → List Prefix
sign_prefixes true k = (record { token = k; operator = unary.Minus }) ∷ []
sign_prefixes false k = []

-- its first tokens all have the bound's number
abbrev pub bound_expr : Bound → Expr
bound_expr a = simple a.token a.token a.token (sign_prefixes a.negative a.token) a.number

sign_back : (b : Bool) (k : ℕ) → sign_of (sign_prefixes b k) ≡ Some b
sign_back true k = refl
sign_back false k = refl

pub bound_back : (a : Bound) → bound_of (bound_expr a) ≡ Some a
bound_back a =
    let k = a.token in
    let us = sign_prefixes a.negative k in
    let y = operand k us (forms.Number a.number) in
    let c = chain k y [] in
    ap (λ l. unchosen l.token l.chain l.choice) (out-roll-Expr (record { token = k; chain = c; choice = None }))
    ∙ ap (λ l. alone k l.first l.rest) (out-roll-Chain (record { token = k; first = y; rest = [] }))
    ∙ ap (λ l. bound_by k (sign_of l.prefixes) (number_in l.primary)) (out-roll-Operand (record { token = k; prefixes = us; primary = forms.Number a.number }))
    ∙ ap (λ l. bound_by k (sign_of us) (layer_number l)) (forms.outs-Number a.number)
    ∙ ap (λ o. bound_by k o (Some a.number)) (sign_back a.negative k)

abbrev pub number_expr : Number → Expr
number_expr m = bound_expr (bound_made m.token false m)

pub number_back : (m : Number) → number_of (number_expr m) ≡ Some m
number_back m = ap positive (bound_back (bound_made m.token false m))

bound_told_as : (n : ℕ) (b : Bool) (k : ℕ) (m : Number) → IsRight n (bound_told (bound_made k b m)).atoms → IsRight n (simple_told k k k (sign_prefixes b k) m).atoms
bound_told_as n true k m h = (h.0, (h.0, (h.0, (h.0, h.1))))
bound_told_as n false k m h = (h.0, (h.0, (h.0, h.1)))

-- it stands where the bound does
pub bound_is : (n : ℕ) (a : Bound) → Is a_bound n a → Is an_expr n (bound_expr a)
bound_is n a h = subst (λ (t : Tells). IsRight n t.atoms) (sym (simple_tells a.token a.token a.token (sign_prefixes a.negative a.token) a.number)) (bound_told_as n a.negative a.token a.number h)

pub number_is : (n : ℕ) (m : Number) → Is a_number n m → Is an_expr n (number_expr m)
number_is n m h = bound_is n (bound_made m.token false m) (h.0, h)

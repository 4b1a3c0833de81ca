-- Tokens that stand for an operator, and what a first token says.
use Rattle.std.proofs.Common.{◌≡◌, true, Option, Some, None, refl, sym, ap}
use Rattle.dpi_grammar.proofs.Lists.{true_not_false}
use Rattle.dpi_grammar.proofs.Rules.{Reader, always}
use Rattle.sv_tree.specs.declared.class.Class.{Class}
use Rattle.sv_tree.specs.declared.class.Class.TheVariants as classes
use Rattle.sv_tree.specs.declared.operators.UnaryOperator.{UnaryOperator}
use Rattle.sv_tree.specs.declared.operators.UnaryOperator.TheVariants as unary
use Rattle.sv_tree.specs.declared.operators.BinaryOperator.{BinaryOperator}
use Rattle.sv_tree.specs.declared.operators.BinaryOperator.TheVariants as binary
use Rattle.sv_tree.specs.Operators.{unary_class, unary_of, binary_class, binary_of}
use Rattle.sv_tree.specs.Classes.{class_at, word_of}
use Rattle.sv_tree.proofs.ClassLemmas.{is_fixed}
use Rattle.sv_cursor.proofs.Tokens.{class_reader}
use Rattle.sv_expr.specs.declared.front.Front.{Front}
use Rattle.sv_expr.specs.declared.front.Front.TheVariants as fronts
use Rattle.sv_expr.specs.declared.front.Wrap.TheVariants as wraps
use Rattle.sv_expr.specs.Front.{front_of, is_some_front}

unary_says : (o : Option Class) (u : UnaryOperator) → unary_of o ≡ Some u → o ≡ Some (unary_class u)
unary_says (Some classes.Plus) u e = let same : unary.Plus ≡ u = cc in ap (λ u. Some (unary_class u)) same
unary_says (Some classes.Minus) u e = let same : unary.Minus ≡ u = cc in ap (λ u. Some (unary_class u)) same
unary_says (Some classes.Not) u e = let same : unary.Not ≡ u = cc in ap (λ u. Some (unary_class u)) same
unary_says (Some classes.Tilde) u e = let same : unary.Tilde ≡ u = cc in ap (λ u. Some (unary_class u)) same
unary_says (Some classes.And) u e = let same : unary.And ≡ u = cc in ap (λ u. Some (unary_class u)) same
unary_says (Some classes.TildeAnd) u e = let same : unary.TildeAnd ≡ u = cc in ap (λ u. Some (unary_class u)) same
unary_says (Some classes.Or) u e = let same : unary.Or ≡ u = cc in ap (λ u. Some (unary_class u)) same
unary_says (Some classes.TildeOr) u e = let same : unary.TildeOr ≡ u = cc in ap (λ u. Some (unary_class u)) same
unary_says (Some classes.Xor) u e = let same : unary.Xor ≡ u = cc in ap (λ u. Some (unary_class u)) same
unary_says (Some classes.TildeXor) u e = let same : unary.TildeXor ≡ u = cc in ap (λ u. Some (unary_class u)) same
unary_says (Some classes.XorTilde) u e = let same : unary.XorTilde ≡ u = cc in ap (λ u. Some (unary_class u)) same
unary_says _ u e = let bad : None ≡ Some u = e in absurd (cc)

pub unary_back : (u : UnaryOperator) → unary_of (Some (unary_class u)) ≡ Some u
unary_back unary.Plus = refl
unary_back unary.Minus = refl
unary_back unary.Not = refl
unary_back unary.Tilde = refl
unary_back unary.And = refl
unary_back unary.TildeAnd = refl
unary_back unary.Or = refl
unary_back unary.TildeOr = refl
unary_back unary.Xor = refl
unary_back unary.TildeXor = refl
unary_back unary.XorTilde = refl

pub unary_fixed : (u : UnaryOperator) → is_fixed (unary_class u) ≡ true
unary_fixed unary.Plus = refl
unary_fixed unary.Minus = refl
unary_fixed unary.Not = refl
unary_fixed unary.Tilde = refl
unary_fixed unary.And = refl
unary_fixed unary.TildeAnd = refl
unary_fixed unary.Or = refl
unary_fixed unary.TildeOr = refl
unary_fixed unary.Xor = refl
unary_fixed unary.TildeXor = refl
unary_fixed unary.XorTilde = refl

pub unary_reader : Reader (λ t. unary_of (class_at t)) always (λ u. word_of (unary_class u))
unary_reader = class_reader unary_of unary_class unary_says unary_back unary_fixed

binary_says : (o : Option Class) (b : BinaryOperator) → binary_of o ≡ Some b → o ≡ Some (binary_class b)
binary_says (Some classes.Star) b e = let same : binary.Star ≡ b = cc in ap (λ b. Some (binary_class b)) same
binary_says (Some classes.Slash) b e = let same : binary.Slash ≡ b = cc in ap (λ b. Some (binary_class b)) same
binary_says (Some classes.Percent) b e = let same : binary.Percent ≡ b = cc in ap (λ b. Some (binary_class b)) same
binary_says (Some classes.Plus) b e = let same : binary.Plus ≡ b = cc in ap (λ b. Some (binary_class b)) same
binary_says (Some classes.Minus) b e = let same : binary.Minus ≡ b = cc in ap (λ b. Some (binary_class b)) same
binary_says (Some classes.ShiftLeft) b e = let same : binary.ShiftLeft ≡ b = cc in ap (λ b. Some (binary_class b)) same
binary_says (Some classes.ShiftRight) b e = let same : binary.ShiftRight ≡ b = cc in ap (λ b. Some (binary_class b)) same
binary_says (Some classes.ArithmeticShiftLeft) b e = let same : binary.ArithmeticShiftLeft ≡ b = cc in ap (λ b. Some (binary_class b)) same
binary_says (Some classes.ArithmeticShiftRight) b e = let same : binary.ArithmeticShiftRight ≡ b = cc in ap (λ b. Some (binary_class b)) same
binary_says (Some classes.Less) b e = let same : binary.Less ≡ b = cc in ap (λ b. Some (binary_class b)) same
binary_says (Some classes.LessOrEqual) b e = let same : binary.LessOrEqual ≡ b = cc in ap (λ b. Some (binary_class b)) same
binary_says (Some classes.Greater) b e = let same : binary.Greater ≡ b = cc in ap (λ b. Some (binary_class b)) same
binary_says (Some classes.GreaterOrEqual) b e = let same : binary.GreaterOrEqual ≡ b = cc in ap (λ b. Some (binary_class b)) same
binary_says (Some classes.Equal) b e = let same : binary.Equal ≡ b = cc in ap (λ b. Some (binary_class b)) same
binary_says (Some classes.NotEqual) b e = let same : binary.NotEqual ≡ b = cc in ap (λ b. Some (binary_class b)) same
binary_says (Some classes.CaseEqual) b e = let same : binary.CaseEqual ≡ b = cc in ap (λ b. Some (binary_class b)) same
binary_says (Some classes.CaseNotEqual) b e = let same : binary.CaseNotEqual ≡ b = cc in ap (λ b. Some (binary_class b)) same
binary_says (Some classes.And) b e = let same : binary.And ≡ b = cc in ap (λ b. Some (binary_class b)) same
binary_says (Some classes.Xor) b e = let same : binary.Xor ≡ b = cc in ap (λ b. Some (binary_class b)) same
binary_says (Some classes.TildeXor) b e = let same : binary.TildeXor ≡ b = cc in ap (λ b. Some (binary_class b)) same
binary_says (Some classes.XorTilde) b e = let same : binary.XorTilde ≡ b = cc in ap (λ b. Some (binary_class b)) same
binary_says (Some classes.Or) b e = let same : binary.Or ≡ b = cc in ap (λ b. Some (binary_class b)) same
binary_says (Some classes.AndAnd) b e = let same : binary.AndAnd ≡ b = cc in ap (λ b. Some (binary_class b)) same
binary_says (Some classes.OrOr) b e = let same : binary.OrOr ≡ b = cc in ap (λ b. Some (binary_class b)) same
binary_says _ b e = let bad : None ≡ Some b = e in absurd (cc)

pub binary_back : (b : BinaryOperator) → binary_of (Some (binary_class b)) ≡ Some b
binary_back binary.Star = refl
binary_back binary.Slash = refl
binary_back binary.Percent = refl
binary_back binary.Plus = refl
binary_back binary.Minus = refl
binary_back binary.ShiftLeft = refl
binary_back binary.ShiftRight = refl
binary_back binary.ArithmeticShiftLeft = refl
binary_back binary.ArithmeticShiftRight = refl
binary_back binary.Less = refl
binary_back binary.LessOrEqual = refl
binary_back binary.Greater = refl
binary_back binary.GreaterOrEqual = refl
binary_back binary.Equal = refl
binary_back binary.NotEqual = refl
binary_back binary.CaseEqual = refl
binary_back binary.CaseNotEqual = refl
binary_back binary.And = refl
binary_back binary.Xor = refl
binary_back binary.TildeXor = refl
binary_back binary.XorTilde = refl
binary_back binary.Or = refl
binary_back binary.AndAnd = refl
binary_back binary.OrOr = refl

pub binary_fixed : (b : BinaryOperator) → is_fixed (binary_class b) ≡ true
binary_fixed binary.Star = refl
binary_fixed binary.Slash = refl
binary_fixed binary.Percent = refl
binary_fixed binary.Plus = refl
binary_fixed binary.Minus = refl
binary_fixed binary.ShiftLeft = refl
binary_fixed binary.ShiftRight = refl
binary_fixed binary.ArithmeticShiftLeft = refl
binary_fixed binary.ArithmeticShiftRight = refl
binary_fixed binary.Less = refl
binary_fixed binary.LessOrEqual = refl
binary_fixed binary.Greater = refl
binary_fixed binary.GreaterOrEqual = refl
binary_fixed binary.Equal = refl
binary_fixed binary.NotEqual = refl
binary_fixed binary.CaseEqual = refl
binary_fixed binary.CaseNotEqual = refl
binary_fixed binary.And = refl
binary_fixed binary.Xor = refl
binary_fixed binary.TildeXor = refl
binary_fixed binary.XorTilde = refl
binary_fixed binary.Or = refl
binary_fixed binary.AndAnd = refl
binary_fixed binary.OrOr = refl

pub binary_reader : Reader (λ t. binary_of (class_at t)) always (λ b. word_of (binary_class b))
binary_reader = class_reader binary_of binary_class binary_says binary_back binary_fixed

-- ---- what a first token says

-- the class that says so
abbrev pub front_class : Front → Class
front_class fronts.Number = classes.Number
front_class fronts.Text = classes.Text
front_class fronts.Null = classes.Null
front_class fronts.Name = classes.Name
front_class (fronts.Wrapped wraps.Group) = classes.OpenParen
front_class (fronts.Wrapped wraps.Signed) = classes.ToSigned
front_class (fronts.Wrapped wraps.Unsigned) = classes.ToUnsigned
front_class fronts.Braces = classes.OpenBrace
front_class fronts.Other = classes.Other

says_by : (f g : Front) → f ≡ g → Some (front_class f) ≡ Some (front_class g)
says_by f g e = ap (λ f. Some (front_class f)) e

pub front_says : (o : Option Class) (f : Front) → front_of o ≡ f → is_some_front f ≡ true → o ≡ Some (front_class f)
front_says (Some classes.Number) f e some = says_by fronts.Number f e
front_says (Some classes.Text) f e some = says_by fronts.Text f e
front_says (Some classes.Null) f e some = says_by fronts.Null f e
front_says (Some classes.Name) f e some = says_by fronts.Name f e
front_says (Some classes.OpenParen) f e some = says_by (fronts.Wrapped wraps.Group) f e
front_says (Some classes.ToSigned) f e some = says_by (fronts.Wrapped wraps.Signed) f e
front_says (Some classes.ToUnsigned) f e some = says_by (fronts.Wrapped wraps.Unsigned) f e
front_says (Some classes.OpenBrace) f e some = says_by fronts.Braces f e
front_says _ f e some = true_not_false (is_some_front f) some (ap is_some_front (sym e))

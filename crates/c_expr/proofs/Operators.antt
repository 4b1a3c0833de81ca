-- Tokens that stand for an operator, and with which tokens what stands before an operator doesn't go on.
use Rattle.std.proofs.Common.{◌≡◌, Bool, true, false, ◌||◌, Option, Some, None, refl, ap, ◌∙◌}
use Rattle.dpi_grammar.specs.Parser.{is_there}
use Rattle.dpi_grammar.proofs.Rules.{Reader, always}
use Rattle.dpi_grammar.proofs.Many.{Apart}
use Rattle.dpi_grammar.proofs.Firsts.{or_apart}
use Rattle.c_tree.specs.declared.class.Class.{Class}
use Rattle.c_tree.specs.declared.class.Class.TheVariants as classes
use Rattle.c_tree.specs.declared.operators.UnaryOperator.{UnaryOperator}
use Rattle.c_tree.specs.declared.operators.UnaryOperator.TheVariants as unary
use Rattle.c_tree.specs.declared.operators.BinaryOperator.{BinaryOperator}
use Rattle.c_tree.specs.declared.operators.BinaryOperator.TheVariants as binary
use Rattle.c_tree.specs.declared.operators.AssignOperator.{AssignOperator}
use Rattle.c_tree.specs.declared.operators.AssignOperator.TheVariants as assign
use Rattle.c_tree.specs.Operators.{unary_class, unary_of, binary_class, binary_of, assign_class, assign_of}
use Rattle.c_tree.specs.Classes.{class_at, is_class, is, word_of}
use Rattle.c_tree.specs.declared.types.BaseWord.{BaseWord}
use Rattle.c_tree.specs.declared.types.BaseWord.TheVariants as base_words
use Rattle.c_tree.specs.Bases.{base_class, base_word_of}
use Rattle.c_tree.proofs.ClassLemmas.{is_fixed}
use Rattle.c_cursor.proofs.Tokens.{class_reader, apart_by}
use Rattle.c_types.specs.Reading.{begins_base, begins_type}
use Rattle.c_types.proofs.BaseWords.{base_from_class}
use Rattle.c_expr.specs.Front.{is_sign, is_plain, begins_lead, begins_expr, is_operator, is_suffix, begins_term, begins_assignment, begins_suffix}
use Rattle.c_expr.proofs.Goes.{behind_primary, behind_operand, behind_cond}

pub unary_says : (o : Option Class) (u : UnaryOperator) → unary_of o ≡ Some u → o ≡ Some (unary_class u)
unary_says (Some classes.Plus) u e = let same : unary.Plus ≡ u = cc in ap (λ u. Some (unary_class u)) same
unary_says (Some classes.Minus) u e = let same : unary.Minus ≡ u = cc in ap (λ u. Some (unary_class u)) same
unary_says (Some classes.Not) u e = let same : unary.Not ≡ u = cc in ap (λ u. Some (unary_class u)) same
unary_says (Some classes.Tilde) u e = let same : unary.Tilde ≡ u = cc in ap (λ u. Some (unary_class u)) same
unary_says (Some classes.Star) u e = let same : unary.Star ≡ u = cc in ap (λ u. Some (unary_class u)) same
unary_says (Some classes.And) u e = let same : unary.And ≡ u = cc in ap (λ u. Some (unary_class u)) same
unary_says (Some classes.Increment) u e = let same : unary.Increment ≡ u = cc in ap (λ u. Some (unary_class u)) same
unary_says (Some classes.Decrement) u e = let same : unary.Decrement ≡ u = cc in ap (λ u. Some (unary_class u)) same
unary_says _ u e = let bad : None ≡ Some u = e in absurd (cc)

pub unary_back : (u : UnaryOperator) → unary_of (Some (unary_class u)) ≡ Some u
unary_back unary.Plus = refl
unary_back unary.Minus = refl
unary_back unary.Not = refl
unary_back unary.Tilde = refl
unary_back unary.Star = refl
unary_back unary.And = refl
unary_back unary.Increment = refl
unary_back unary.Decrement = refl

pub unary_fixed : (u : UnaryOperator) → is_fixed (unary_class u) ≡ true
unary_fixed unary.Plus = refl
unary_fixed unary.Minus = refl
unary_fixed unary.Not = refl
unary_fixed unary.Tilde = refl
unary_fixed unary.Star = refl
unary_fixed unary.And = refl
unary_fixed unary.Increment = refl
unary_fixed unary.Decrement = refl

pub unary_reader : Reader (λ t. unary_of (class_at t)) always (λ u. word_of (unary_class u))
unary_reader = class_reader unary_of unary_class unary_says unary_back unary_fixed

pub binary_says : (o : Option Class) (b : BinaryOperator) → binary_of o ≡ Some b → o ≡ Some (binary_class b)
binary_says (Some classes.Star) b e = let same : binary.Star ≡ b = cc in ap (λ b. Some (binary_class b)) same
binary_says (Some classes.Slash) b e = let same : binary.Slash ≡ b = cc in ap (λ b. Some (binary_class b)) same
binary_says (Some classes.Percent) b e = let same : binary.Percent ≡ b = cc in ap (λ b. Some (binary_class b)) same
binary_says (Some classes.Plus) b e = let same : binary.Plus ≡ b = cc in ap (λ b. Some (binary_class b)) same
binary_says (Some classes.Minus) b e = let same : binary.Minus ≡ b = cc in ap (λ b. Some (binary_class b)) same
binary_says (Some classes.ShiftLeft) b e = let same : binary.ShiftLeft ≡ b = cc in ap (λ b. Some (binary_class b)) same
binary_says (Some classes.ShiftRight) b e = let same : binary.ShiftRight ≡ b = cc in ap (λ b. Some (binary_class b)) same
binary_says (Some classes.Less) b e = let same : binary.Less ≡ b = cc in ap (λ b. Some (binary_class b)) same
binary_says (Some classes.LessOrEqual) b e = let same : binary.LessOrEqual ≡ b = cc in ap (λ b. Some (binary_class b)) same
binary_says (Some classes.Greater) b e = let same : binary.Greater ≡ b = cc in ap (λ b. Some (binary_class b)) same
binary_says (Some classes.GreaterOrEqual) b e = let same : binary.GreaterOrEqual ≡ b = cc in ap (λ b. Some (binary_class b)) same
binary_says (Some classes.Equal) b e = let same : binary.Equal ≡ b = cc in ap (λ b. Some (binary_class b)) same
binary_says (Some classes.NotEqual) b e = let same : binary.NotEqual ≡ b = cc in ap (λ b. Some (binary_class b)) same
binary_says (Some classes.And) b e = let same : binary.And ≡ b = cc in ap (λ b. Some (binary_class b)) same
binary_says (Some classes.Xor) b e = let same : binary.Xor ≡ b = cc in ap (λ b. Some (binary_class b)) same
binary_says (Some classes.Or) b e = let same : binary.Or ≡ b = cc in ap (λ b. Some (binary_class b)) same
binary_says (Some classes.AndAnd) b e = let same : binary.AndAnd ≡ b = cc in ap (λ b. Some (binary_class b)) same
binary_says (Some classes.OrOr) b e = let same : binary.OrOr ≡ b = cc in ap (λ b. Some (binary_class b)) same
binary_says _ b e = let bad : None ≡ Some b = e in absurd (cc)

pub binary_back : (b : BinaryOperator) → binary_of (Some (binary_class b)) ≡ Some b
binary_back binary.Star = refl
binary_back binary.Slash = refl
binary_back binary.Percent = refl
binary_back binary.Plus = refl
binary_back binary.Minus = refl
binary_back binary.ShiftLeft = refl
binary_back binary.ShiftRight = refl
binary_back binary.Less = refl
binary_back binary.LessOrEqual = refl
binary_back binary.Greater = refl
binary_back binary.GreaterOrEqual = refl
binary_back binary.Equal = refl
binary_back binary.NotEqual = refl
binary_back binary.And = refl
binary_back binary.Xor = refl
binary_back binary.Or = refl
binary_back binary.AndAnd = refl
binary_back binary.OrOr = refl

pub binary_fixed : (b : BinaryOperator) → is_fixed (binary_class b) ≡ true
binary_fixed binary.Star = refl
binary_fixed binary.Slash = refl
binary_fixed binary.Percent = refl
binary_fixed binary.Plus = refl
binary_fixed binary.Minus = refl
binary_fixed binary.ShiftLeft = refl
binary_fixed binary.ShiftRight = refl
binary_fixed binary.Less = refl
binary_fixed binary.LessOrEqual = refl
binary_fixed binary.Greater = refl
binary_fixed binary.GreaterOrEqual = refl
binary_fixed binary.Equal = refl
binary_fixed binary.NotEqual = refl
binary_fixed binary.And = refl
binary_fixed binary.Xor = refl
binary_fixed binary.Or = refl
binary_fixed binary.AndAnd = refl
binary_fixed binary.OrOr = refl

pub binary_reader : Reader (λ t. binary_of (class_at t)) always (λ b. word_of (binary_class b))
binary_reader = class_reader binary_of binary_class binary_says binary_back binary_fixed

pub assign_says : (o : Option Class) (a : AssignOperator) → assign_of o ≡ Some a → o ≡ Some (assign_class a)
assign_says (Some classes.Assign) a e = let same : assign.Plain ≡ a = cc in ap (λ a. Some (assign_class a)) same
assign_says (Some classes.AddAssign) a e = let same : assign.Add ≡ a = cc in ap (λ a. Some (assign_class a)) same
assign_says (Some classes.SubtractAssign) a e = let same : assign.Subtract ≡ a = cc in ap (λ a. Some (assign_class a)) same
assign_says (Some classes.MultiplyAssign) a e = let same : assign.Multiply ≡ a = cc in ap (λ a. Some (assign_class a)) same
assign_says (Some classes.DivideAssign) a e = let same : assign.Divide ≡ a = cc in ap (λ a. Some (assign_class a)) same
assign_says (Some classes.RemainderAssign) a e = let same : assign.Remainder ≡ a = cc in ap (λ a. Some (assign_class a)) same
assign_says (Some classes.AndAssign) a e = let same : assign.And ≡ a = cc in ap (λ a. Some (assign_class a)) same
assign_says (Some classes.OrAssign) a e = let same : assign.Or ≡ a = cc in ap (λ a. Some (assign_class a)) same
assign_says (Some classes.XorAssign) a e = let same : assign.Xor ≡ a = cc in ap (λ a. Some (assign_class a)) same
assign_says (Some classes.ShiftLeftAssign) a e = let same : assign.ShiftLeft ≡ a = cc in ap (λ a. Some (assign_class a)) same
assign_says (Some classes.ShiftRightAssign) a e = let same : assign.ShiftRight ≡ a = cc in ap (λ a. Some (assign_class a)) same
assign_says _ a e = let bad : None ≡ Some a = e in absurd (cc)

pub assign_back : (a : AssignOperator) → assign_of (Some (assign_class a)) ≡ Some a
assign_back assign.Plain = refl
assign_back assign.Add = refl
assign_back assign.Subtract = refl
assign_back assign.Multiply = refl
assign_back assign.Divide = refl
assign_back assign.Remainder = refl
assign_back assign.And = refl
assign_back assign.Or = refl
assign_back assign.Xor = refl
assign_back assign.ShiftLeft = refl
assign_back assign.ShiftRight = refl

pub assign_fixed : (a : AssignOperator) → is_fixed (assign_class a) ≡ true
assign_fixed assign.Plain = refl
assign_fixed assign.Add = refl
assign_fixed assign.Subtract = refl
assign_fixed assign.Multiply = refl
assign_fixed assign.Divide = refl
assign_fixed assign.Remainder = refl
assign_fixed assign.And = refl
assign_fixed assign.Or = refl
assign_fixed assign.Xor = refl
assign_fixed assign.ShiftLeft = refl
assign_fixed assign.ShiftRight = refl

pub assign_reader : Reader (λ t. assign_of (class_at t)) always (λ a. word_of (assign_class a))
assign_reader = class_reader assign_of assign_class assign_says assign_back assign_fixed

-- ---- what stands before an operator

pub there : {A : Type 0} (o : Option A) → is_there o ≡ true → (a : A) × (o ≡ Some a)
there (Some a) e = (a, refl)
there None e = let bad : false ≡ true = e in absurd (cc)

-- what an operand goes on with, by its class
abbrev operand_class : Option Class → Bool
operand_class c = is_suffix c || is_class classes.OpenParen c

-- what a conditional goes on with
abbrev cond_class : Option Class → Bool
cond_class c = is_class classes.Question c || (is_operator c || operand_class c)

binary_other : (b : BinaryOperator) → operand_class (Some (binary_class b)) ≡ false
unfolding is_class
binary_other binary.Star = refl
binary_other binary.Slash = refl
binary_other binary.Percent = refl
binary_other binary.Plus = refl
binary_other binary.Minus = refl
binary_other binary.ShiftLeft = refl
binary_other binary.ShiftRight = refl
binary_other binary.Less = refl
binary_other binary.LessOrEqual = refl
binary_other binary.Greater = refl
binary_other binary.GreaterOrEqual = refl
binary_other binary.Equal = refl
binary_other binary.NotEqual = refl
binary_other binary.And = refl
binary_other binary.Xor = refl
binary_other binary.Or = refl
binary_other binary.AndAnd = refl
binary_other binary.OrOr = refl

assign_other : (a : AssignOperator) → cond_class (Some (assign_class a)) ≡ false
unfolding is_class
assign_other assign.Plain = refl
assign_other assign.Add = refl
assign_other assign.Subtract = refl
assign_other assign.Multiply = refl
assign_other assign.Divide = refl
assign_other assign.Remainder = refl
assign_other assign.And = refl
assign_other assign.Or = refl
assign_other assign.Xor = refl
assign_other assign.ShiftLeft = refl
assign_other assign.ShiftRight = refl

pub term_apart : Apart begins_term behind_operand
term_apart t e =
    let b = there (binary_of (class_at t)) e in
    ap operand_class (binary_says (class_at t) b.0 b.1) ∙ binary_other b.0

pub assign_apart : Apart begins_assignment behind_cond
assign_apart t e =
    let a = there (assign_of (class_at t)) e in
    ap cond_class (assign_says (class_at t) a.0 a.1) ∙ assign_other a.0

suffix_other : (c : Option Class) → is_suffix c ≡ true → is_class classes.OpenParen c ≡ false
unfolding is_class
suffix_other (Some classes.OpenBracket) e = refl
suffix_other (Some classes.Dot) e = refl
suffix_other (Some classes.Arrow) e = refl
suffix_other (Some classes.Increment) e = refl
suffix_other (Some classes.Decrement) e = refl
suffix_other _ e = let bad : false ≡ true = e in absurd (cc)

pub suffix_apart : Apart begins_suffix behind_primary
suffix_apart t e = suffix_other (class_at t) e

-- ---- no type begins as an expression does

-- what an expression begins with, by its class
abbrev expr_class : Option Class → Bool
expr_class c = (is_class classes.OpenParen c || is_sign c) || is_plain c

const_other : expr_class (Some classes.Const) ≡ false
unfolding is_class
const_other = refl

base_other : (w : BaseWord) → expr_class (Some (base_class w)) ≡ false
unfolding is_class
base_other base_words.Void = refl
base_other base_words.Char = refl
base_other base_words.Short = refl
base_other base_words.Int = refl
base_other base_words.Long = refl
base_other base_words.Signed = refl
base_other base_words.Unsigned = refl
base_other base_words.SvBit = refl
base_other base_words.SvLogic = refl
base_other base_words.SvBitVecVal = refl
base_other base_words.SvLogicVecVal = refl
base_other base_words.SvOpenArrayHandle = refl
base_other base_words.SvScope = refl
base_other base_words.Int8 = refl
base_other base_words.Uint8 = refl
base_other base_words.Int16 = refl
base_other base_words.Uint16 = refl
base_other base_words.Int32 = refl
base_other base_words.Uint32 = refl
base_other base_words.Int64 = refl
base_other base_words.Uint64 = refl

base_apart : Apart begins_base begins_expr
base_apart t e =
    let w = there (base_word_of (class_at t)) e in
    ap expr_class (base_from_class (class_at t) w.0 w.1) ∙ base_other w.0

pub type_apart : Apart begins_type begins_expr
type_apart = or_apart (is classes.Const) begins_base begins_expr (apart_by classes.Const expr_class const_other) base_apart

-- ---- what an operand without prefixes begins with is no prefix

-- what prefixes begin with, by their class
abbrev lead_class : Option Class → Bool
lead_class c = is_class classes.OpenParen c || is_sign c

plain_other : (c : Class) → is_plain (Some c) ≡ true → lead_class (Some c) ≡ false
unfolding is_class
plain_other classes.Name e = refl
plain_other classes.Number e = refl
plain_other classes.Character e = refl
plain_other classes.Text e = refl
plain_other classes.Null e = refl
plain_other _ e = let bad : false ≡ true = e in absurd (cc)

pub plain_no_lead : (c : Class) → is_plain (Some c) ≡ true → Apart (is c) begins_lead
plain_no_lead c plainly = apart_by c lead_class (plain_other c plainly)

-- ---- a `)` begins no expression

close_other : expr_class (Some classes.CloseParen) ≡ false
unfolding is_class
close_other = refl

pub close_apart : Apart (is classes.CloseParen) begins_expr
close_apart = apart_by classes.CloseParen expr_class close_other

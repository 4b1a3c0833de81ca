-- Binary operators (Table 11-21).
use Rattle.std.specs.Prelude.{ℕ, max, Bool, true, false, ◌&&◌, ◌||◌, if◌then◌else◌, Option, Some, None, ◌++◌}
use Rattle.dpi_rules.specs.declared.violation.Violation.{Violation}
use Rattle.dpi_rules.specs.Order.{lesser, joined}
use Rattle.dpi_rules.specs.Least.{noted}
use Rattle.sv_tree.specs.declared.operators.BinaryOperator.{BinaryOperator}
use Rattle.sv_tree.specs.declared.operators.BinaryOperator.TheVariants as binary
use Rattle.sv_typing.specs.declared.types.ExprType.{ExprType}
use Rattle.sv_typing.specs.declared.types.ExprType.TheVariants as types
use Rattle.sv_typing.specs.declared.types.Operand.{Operand}
use Rattle.sv_typing.specs.declared.operators.Family.{Family}
use Rattle.sv_typing.specs.declared.operators.Family.TheVariants as families
use Rattle.sv_typing.specs.declared.operators.Part.{Part}
use Rattle.sv_typing.specs.declared.operators.Binary.{Binary}
use Rattle.sv_typing.specs.Types.{is_packed, is_condition, is_text, is_chandle, is_four, is_signed_bits, width_of}
use Rattle.sv_typing.specs.Judged.{Judged, fine, wrong, unseen, behind, sized, kind_broken, width_broken}
use Rattle.sv_typing.specs.Prefixes.{one_bit, with_own}

-- what the operators have in common
abbrev pub family_of : BinaryOperator → Family
family_of binary.Star = families.Arithmetic
family_of binary.Slash = families.Division
family_of binary.Percent = families.Division
family_of binary.Plus = families.Arithmetic
family_of binary.Minus = families.Arithmetic
family_of binary.ShiftLeft = families.Shift
family_of binary.ShiftRight = families.Shift
family_of binary.ArithmeticShiftLeft = families.Shift
family_of binary.ArithmeticShiftRight = families.Shift
family_of binary.Less = families.Ordering
family_of binary.LessOrEqual = families.Ordering
family_of binary.Greater = families.Ordering
family_of binary.GreaterOrEqual = families.Ordering
family_of binary.Equal = families.Equality
family_of binary.NotEqual = families.Equality
family_of binary.CaseEqual = families.CaseEquality
family_of binary.CaseNotEqual = families.CaseEquality
family_of binary.And = families.Bitwise
family_of binary.Xor = families.Bitwise
family_of binary.TildeXor = families.Bitwise
family_of binary.XorTilde = families.Bitwise
family_of binary.Or = families.Bitwise
family_of binary.AndAnd = families.Logical
family_of binary.OrOr = families.Logical

-- how strongly an operator binds
abbrev pub rank_of : BinaryOperator → ℕ
rank_of binary.Star = 10
rank_of binary.Slash = 10
rank_of binary.Percent = 10
rank_of binary.Plus = 9
rank_of binary.Minus = 9
rank_of binary.ShiftLeft = 8
rank_of binary.ShiftRight = 8
rank_of binary.ArithmeticShiftLeft = 8
rank_of binary.ArithmeticShiftRight = 8
rank_of binary.Less = 7
rank_of binary.LessOrEqual = 7
rank_of binary.Greater = 7
rank_of binary.GreaterOrEqual = 7
rank_of binary.Equal = 6
rank_of binary.NotEqual = 6
rank_of binary.CaseEqual = 6
rank_of binary.CaseNotEqual = 6
rank_of binary.And = 5
rank_of binary.Xor = 4
rank_of binary.TildeXor = 4
rank_of binary.XorTilde = 4
rank_of binary.Or = 3
rank_of binary.AndAnd = 2
rank_of binary.OrOr = 1

-- two operands that size each other: as wide as the wider, signed only where both are
abbrev pub common : ExprType → ExprType → Bool → ExprType
common a b four = types.Bits (max (width_of a) (width_of b)) (is_signed_bits a && is_signed_bits b) four

-- a bit of either can be x or z
abbrev pub either_four : ExprType → ExprType → Bool
either_four a b = is_four a || is_four b

-- one unsigned bit; the operands, as wide as the wider, are so reached
abbrev pub compared : ExprType → ExprType → Option Violation → Bool → Judged
compared a b reach four = sized (max (width_of a) (width_of b)) reach (types.Bits 1 false four) None

-- a value of both operands, which are so reached, and are so by a wider context too
abbrev pub combined : ExprType → ExprType → Option Violation → Bool → Judged
combined a b reach four = sized (max (width_of a) (width_of b)) reach (common a b four) reach

-- what an operator makes of two packed operands; `left` and `right` are reached in them
abbrev pub of_bits : ℕ → ℕ → Family → ExprType → ExprType → Option Violation → Option Violation → Judged
of_bits file token families.Arithmetic a b left right = combined a b (with_own file token (joined left right)) (either_four a b)
of_bits file token families.Division a b left right = combined a b (with_own file token (joined left right)) true
of_bits file token families.Bitwise a b left right = combined a b (joined left right) (either_four a b)
of_bits file token families.Shift a b left right = fine (types.Bits (width_of a) (is_signed_bits a) (either_four a b)) left
of_bits file token families.Ordering a b left right = compared a b (with_own file token (joined left right)) (either_four a b)
of_bits file token families.Equality a b left right = compared a b (joined left right) (either_four a b)
of_bits file token families.CaseEquality a b left right = compared a b (joined left right) false
of_bits file token families.Logical a b left right = one_bit (either_four a b)

-- what an operator takes: equality two of one kind other than arrays, `&&` and `||` conditions, the others packed bits
abbrev pub are_taken : Family → ExprType → ExprType → Bool
are_taken families.Equality a b = (is_packed a && is_packed b) || ((is_text a && is_text b) || (is_chandle a && is_chandle b))
are_taken families.Logical a b = is_condition a && is_condition b
are_taken other a b = is_packed a && is_packed b

-- an operator between two operands; no rule on types looks where either has no type
abbrev pub operated : ℕ → ℕ → BinaryOperator → Option Operand → Option Operand → Judged
operated file token operator None right = unseen
operated file token operator (Some a) None = unseen
operated file token operator (Some a) (Some b) =
    if are_taken (family_of operator) a.of b.of
    then of_bits file token (family_of operator) a.of b.of a.reach b.reach
    else wrong (kind_broken file token)

-- an operator between two judged parts, behind what they violate
abbrev pub between : Binary → Judged → Judged → Judged
between o l r = behind (l.found ++ r.found) (operated o.file o.token o.operator l.value r.value)

-- the same of what is kept of them
abbrev pub part_between : Binary → Part → Part → Part
part_between o l r = record {
  found = noted (joined l.found r.found) (operated o.file o.token o.operator l.value r.value).found;
  value = (operated o.file o.token o.operator l.value r.value).value;
}

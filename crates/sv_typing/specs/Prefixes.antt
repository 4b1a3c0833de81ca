-- Prefix operators (Table 11-21).
use Rattle.std.specs.Prelude.{ℕ, Bool, true, false, if◌then◌else◌, Option, Some, None}
use Rattle.dpi_rules.specs.declared.violation.Violation.{Violation}
use Rattle.dpi_rules.specs.Order.{lesser}
use Rattle.sv_tree.specs.declared.operators.UnaryOperator.{UnaryOperator}
use Rattle.sv_tree.specs.declared.operators.UnaryOperator.TheVariants as unary
use Rattle.sv_typing.specs.declared.types.ExprType.{ExprType}
use Rattle.sv_typing.specs.declared.types.ExprType.TheVariants as types
use Rattle.sv_typing.specs.declared.types.Operand.{Operand}
use Rattle.sv_typing.specs.declared.prefixes.Sort.{Sort}
use Rattle.sv_typing.specs.declared.prefixes.Sort.TheVariants as sorts
use Rattle.sv_typing.specs.Types.{is_packed, is_condition, is_four, width_of}
use Rattle.sv_typing.specs.Judged.{Judged, fine, wrong, unseen, sized, kind_broken, width_broken}

-- what the prefixes have in common
abbrev pub sort_of : UnaryOperator → Sort
sort_of unary.Plus = sorts.Arithmetic
sort_of unary.Minus = sorts.Arithmetic
sort_of unary.Not = sorts.Condition
sort_of unary.Tilde = sorts.Bitwise
sort_of other = sorts.Reduction

-- one unsigned bit of what was so many-stated
abbrev pub one_bit : Bool → Judged
one_bit four = fine (types.Bits 1 false four) None

-- arithmetic of so reached operands, at its own place
abbrev pub with_own : ℕ → ℕ → Option Violation → Option Violation
with_own file token reach = lesser reach (width_broken file token)

-- what a prefix makes of packed bits: arithmetic and `~` keep their type, the others give one bit
abbrev pub prefix_bits : ℕ → ℕ → Sort → ExprType → Option Violation → Judged
prefix_bits file token sorts.Arithmetic type reach = sized (width_of type) (with_own file token reach) type (with_own file token reach)
prefix_bits file token sorts.Bitwise type reach = fine type reach
prefix_bits file token sorts.Condition type reach = one_bit (is_four type)
prefix_bits file token sorts.Reduction type reach = one_bit (is_four type)

-- what a prefix takes: `!` a condition, the others packed bits
abbrev pub is_taken : Sort → ExprType → Bool
is_taken sorts.Condition type = is_condition type
is_taken other type = is_packed type

-- a prefix before an operand
abbrev pub prefixed : ℕ → ℕ → UnaryOperator → Option Operand → Judged
prefixed file token operator None = unseen
prefixed file token operator (Some o) =
    if is_taken (sort_of operator) o.of
    then prefix_bits file token (sort_of operator) o.of o.reach
    else wrong (kind_broken file token)

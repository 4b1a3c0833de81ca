-- Assignments: of a value to a variable, a formal, a result or a part of a pattern; assignment operators; `++` and `--`.
use Rattle.std.specs.Prelude.{ℕ, max, Bool, true, false, ◌==◌, ◌&&◌, if◌then◌else◌, Option, Some, None, List, [], ◌∷◌}
use Rattle.dpi_rules.specs.declared.violation.Violation.{Violation}
use Rattle.dpi_rules.specs.Order.{violation}
use Rattle.dpi_shape.specs.declared.range.Range.{Range}
use Rattle.dpi_shape.specs.declared.leaf.Leaf.{Leaf}
use Rattle.dpi_shape.specs.declared.shape.Shape.{Shape}
use Rattle.dpi_shape.specs.Range.{size}
use Rattle.dpi_shape.specs.Leaf.{width, is_four_state}
use Rattle.dpi_shape.specs.Shape.{leaf_of}
use Rattle.sv_tree.specs.declared.operators.AssignOperator.{AssignOperator}
use Rattle.sv_tree.specs.declared.operators.AssignOperator.TheVariants as assigns
use Rattle.sv_tree.specs.declared.operators.BinaryOperator.{BinaryOperator}
use Rattle.sv_tree.specs.declared.operators.BinaryOperator.TheVariants as binary
use Rattle.sv_typing.specs.declared.types.ExprType.{ExprType}
use Rattle.sv_typing.specs.declared.types.ExprType.TheVariants as types
use Rattle.sv_typing.specs.declared.types.Operand.{Operand}
use Rattle.sv_typing.specs.Types.{is_signed, range_left}
use Rattle.sv_typing.specs.Judged.{reached}
use Rattle.sv_typing.specs.Operators.{operated}

-- arrays that don't fit each other
abbrev pub array_broken : ℕ → ℕ → Violation
array_broken file token = violation file token 14

-- two kinds
abbrev pub kinds_broken : ℕ → ℕ → Violation
kinds_broken file token = violation file token 17

abbrev pub same : Bool → Bool → Bool
same true b = b
same false true = false
same false false = true

-- two dimensions of as many indices, or none
abbrev pub is_size_equal : Option Range → Option Range → Bool
is_size_equal None None = true
is_size_equal None (Some q) = false
is_size_equal (Some r) None = false
is_size_equal (Some r) (Some q) = size r == size q

-- as many dimensions, each of as many indices; there are three at most
abbrev pub are_sizes_equal : Shape → ℕ → Shape → ℕ → Bool
are_sizes_equal a taken b gone =
    is_size_equal (range_left a taken 0) (range_left b gone 0)
    && (is_size_equal (range_left a taken 1) (range_left b gone 1) && is_size_equal (range_left a taken 2) (range_left b gone 2))

-- elements of equal width, states and sign
abbrev pub are_elements_equal : Leaf → Leaf → Bool
are_elements_equal a b =
    (width a == width b) && (same (is_four_state a) (is_four_state b) && same (is_signed a) (is_signed b))

-- the arrays that so many indices of two variables name fit each other
abbrev pub is_fitting : Shape → ℕ → Shape → ℕ → Bool
is_fitting a taken b gone =
    are_elements_equal (leaf_of a) (leaf_of b) && are_sizes_equal a taken b gone

-- the arrays fit, else the rule on arrays is broken
abbrev pub fitted : ℕ → ℕ → Bool → List Violation
fitted file token true = []
fitted file token false = array_broken file token ∷ []

-- By the type of the value, and what is reached in it. Packed bits are a context of packed bits.
abbrev pub stored_by : ℕ → ℕ → ExprType → ExprType → Option Violation → List Violation
stored_by file token (types.Bits w s f) (types.Bits v t g) reach = reached (max w v) reach
stored_by file token types.Text types.Text reach = []
stored_by file token types.Chandle types.Chandle reach = []
stored_by file token (types.Array a taken) (types.Array b gone) reach = fitted file token (is_fitting a taken b gone)
stored_by file token target other reach = kinds_broken file token ∷ []

-- a value that is assigned to what has this type, by the first token of the value
abbrev pub stored : ℕ → ℕ → ExprType → Operand → List Violation
stored file token target value = stored_by file token target value.of value.reach

-- an assignment looks where both sides have a type
abbrev pub assigned : ℕ → ℕ → Option ExprType → Option Operand → List Violation
assigned file token None value = []
assigned file token (Some target) None = []
assigned file token (Some target) (Some value) = stored file token target value

-- the operator that an assignment operator computes
abbrev pub computing : AssignOperator → BinaryOperator
computing assigns.Add = binary.Plus
computing assigns.Subtract = binary.Minus
computing assigns.Multiply = binary.Star
computing assigns.Divide = binary.Slash
computing assigns.Remainder = binary.Percent
computing assigns.And = binary.And
computing assigns.Or = binary.Or
computing assigns.Xor = binary.Xor
computing assigns.ShiftLeft = binary.ShiftLeft
computing assigns.ShiftRight = binary.ShiftRight

-- `a op= b` is judged as the operator between both
abbrev pub computed : ℕ → ℕ → AssignOperator → Option Operand → Option Operand → List Violation
computed file token operator target value = (operated file token (computing operator) target value).found

-- `++` and `--` add or subtract a 1 of the operand's own type
abbrev pub stepped : ℕ → ℕ → Option Operand → List Violation
stepped file token target = (operated file token binary.Plus target target).found

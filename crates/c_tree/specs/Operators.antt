-- Operators and the classes of their tokens.
use Rattle.std.specs.Prelude.{Option, Some, None}
use Rattle.c_tree.specs.declared.class.Class.{Class}
use Rattle.c_tree.specs.declared.class.Class.TheVariants as classes
use Rattle.c_tree.specs.declared.operators.UnaryOperator.{UnaryOperator}
use Rattle.c_tree.specs.declared.operators.UnaryOperator.TheVariants as unary
use Rattle.c_tree.specs.declared.operators.BinaryOperator.{BinaryOperator}
use Rattle.c_tree.specs.declared.operators.BinaryOperator.TheVariants as binary
use Rattle.c_tree.specs.declared.operators.AssignOperator.{AssignOperator}
use Rattle.c_tree.specs.declared.operators.AssignOperator.TheVariants as assign

-- the class of a prefix
abbrev pub unary_class : UnaryOperator → Class
unary_class unary.Plus = classes.Plus
unary_class unary.Minus = classes.Minus
unary_class unary.Not = classes.Not
unary_class unary.Tilde = classes.Tilde
unary_class unary.Star = classes.Star
unary_class unary.And = classes.And
unary_class unary.Increment = classes.Increment
unary_class unary.Decrement = classes.Decrement

-- a prefix of a class
abbrev pub unary_of : Option Class → Option UnaryOperator
unary_of (Some classes.Plus) = Some unary.Plus
unary_of (Some classes.Minus) = Some unary.Minus
unary_of (Some classes.Not) = Some unary.Not
unary_of (Some classes.Tilde) = Some unary.Tilde
unary_of (Some classes.Star) = Some unary.Star
unary_of (Some classes.And) = Some unary.And
unary_of (Some classes.Increment) = Some unary.Increment
unary_of (Some classes.Decrement) = Some unary.Decrement
unary_of _ = None

-- the class of an operator between operands
abbrev pub binary_class : BinaryOperator → Class
binary_class binary.Star = classes.Star
binary_class binary.Slash = classes.Slash
binary_class binary.Percent = classes.Percent
binary_class binary.Plus = classes.Plus
binary_class binary.Minus = classes.Minus
binary_class binary.ShiftLeft = classes.ShiftLeft
binary_class binary.ShiftRight = classes.ShiftRight
binary_class binary.Less = classes.Less
binary_class binary.LessOrEqual = classes.LessOrEqual
binary_class binary.Greater = classes.Greater
binary_class binary.GreaterOrEqual = classes.GreaterOrEqual
binary_class binary.Equal = classes.Equal
binary_class binary.NotEqual = classes.NotEqual
binary_class binary.And = classes.And
binary_class binary.Xor = classes.Xor
binary_class binary.Or = classes.Or
binary_class binary.AndAnd = classes.AndAnd
binary_class binary.OrOr = classes.OrOr

-- an operator between operands of a class
abbrev pub binary_of : Option Class → Option BinaryOperator
binary_of (Some classes.Star) = Some binary.Star
binary_of (Some classes.Slash) = Some binary.Slash
binary_of (Some classes.Percent) = Some binary.Percent
binary_of (Some classes.Plus) = Some binary.Plus
binary_of (Some classes.Minus) = Some binary.Minus
binary_of (Some classes.ShiftLeft) = Some binary.ShiftLeft
binary_of (Some classes.ShiftRight) = Some binary.ShiftRight
binary_of (Some classes.Less) = Some binary.Less
binary_of (Some classes.LessOrEqual) = Some binary.LessOrEqual
binary_of (Some classes.Greater) = Some binary.Greater
binary_of (Some classes.GreaterOrEqual) = Some binary.GreaterOrEqual
binary_of (Some classes.Equal) = Some binary.Equal
binary_of (Some classes.NotEqual) = Some binary.NotEqual
binary_of (Some classes.And) = Some binary.And
binary_of (Some classes.Xor) = Some binary.Xor
binary_of (Some classes.Or) = Some binary.Or
binary_of (Some classes.AndAnd) = Some binary.AndAnd
binary_of (Some classes.OrOr) = Some binary.OrOr
binary_of _ = None

-- the class of an assigning operator
abbrev pub assign_class : AssignOperator → Class
assign_class assign.Plain = classes.Assign
assign_class assign.Add = classes.AddAssign
assign_class assign.Subtract = classes.SubtractAssign
assign_class assign.Multiply = classes.MultiplyAssign
assign_class assign.Divide = classes.DivideAssign
assign_class assign.Remainder = classes.RemainderAssign
assign_class assign.And = classes.AndAssign
assign_class assign.Or = classes.OrAssign
assign_class assign.Xor = classes.XorAssign
assign_class assign.ShiftLeft = classes.ShiftLeftAssign
assign_class assign.ShiftRight = classes.ShiftRightAssign

-- an assigning operator of a class
abbrev pub assign_of : Option Class → Option AssignOperator
assign_of (Some classes.Assign) = Some assign.Plain
assign_of (Some classes.AddAssign) = Some assign.Add
assign_of (Some classes.SubtractAssign) = Some assign.Subtract
assign_of (Some classes.MultiplyAssign) = Some assign.Multiply
assign_of (Some classes.DivideAssign) = Some assign.Divide
assign_of (Some classes.RemainderAssign) = Some assign.Remainder
assign_of (Some classes.AndAssign) = Some assign.And
assign_of (Some classes.OrAssign) = Some assign.Or
assign_of (Some classes.XorAssign) = Some assign.Xor
assign_of (Some classes.ShiftLeftAssign) = Some assign.ShiftLeft
assign_of (Some classes.ShiftRightAssign) = Some assign.ShiftRight
assign_of _ = None

-- What a first token says of an expression.
use Rattle.std.specs.Prelude.{Bool, true, false, ◌||◌, Option, Some}
use Rattle.dpi_grammar.specs.Parser.{is_there}
use Rattle.dpi_lex.specs.Words.{Word}
use Rattle.c_tree.specs.declared.class.Class.{Class}
use Rattle.c_tree.specs.declared.class.Class.TheVariants as classes
use Rattle.c_tree.specs.Classes.{class_at, is}
use Rattle.c_tree.specs.Operators.{unary_of, binary_of, assign_of}

-- a prefix that is an operator
abbrev pub is_sign : Option Class → Bool
is_sign c = is_there (unary_of c)

-- an operator between operands
abbrev pub is_operator : Option Class → Bool
is_operator c = is_there (binary_of c)

-- an operator that assigns
abbrev pub is_assign : Option Class → Bool
is_assign c = is_there (assign_of c)

-- what suffixes begin with
abbrev pub is_suffix : Option Class → Bool
is_suffix (Some classes.OpenBracket) = true
is_suffix (Some classes.Dot) = true
is_suffix (Some classes.Arrow) = true
is_suffix (Some classes.Increment) = true
is_suffix (Some classes.Decrement) = true
is_suffix _ = false

-- what an operand without prefixes and parentheses begins with
abbrev pub is_plain : Option Class → Bool
is_plain (Some classes.Name) = true
is_plain (Some classes.Number) = true
is_plain (Some classes.Character) = true
is_plain (Some classes.Text) = true
is_plain (Some classes.Null) = true
is_plain _ = false

-- the same of tokens
abbrev pub begins_sign : Option Word → Bool
begins_sign t = is_sign (class_at t)

abbrev pub begins_term : Option Word → Bool
begins_term t = is_operator (class_at t)

abbrev pub begins_assignment : Option Word → Bool
begins_assignment t = is_assign (class_at t)

abbrev pub begins_suffix : Option Word → Bool
begins_suffix t = is_suffix (class_at t)

abbrev pub begins_plain : Option Word → Bool
begins_plain t = is_plain (class_at t)

-- what prefixes begin with, and expressions in parentheses
abbrev pub begins_lead : Option Word → Bool
begins_lead t = is classes.OpenParen t || begins_sign t

-- what expressions begin with
abbrev pub begins_expr : Option Word → Bool
begins_expr t = begins_lead t || begins_plain t

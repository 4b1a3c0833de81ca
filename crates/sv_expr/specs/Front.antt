-- What a first token says of an expression.
use Rattle.std.specs.Prelude.{Bool, true, false, ◌||◌, Option, Some}
use Rattle.dpi_grammar.specs.Parser.{is_there}
use Rattle.dpi_lex.specs.Words.{Word}
use Rattle.sv_tree.specs.declared.class.Class.{Class}
use Rattle.sv_tree.specs.declared.class.Class.TheVariants as classes
use Rattle.sv_tree.specs.Classes.{class_at}
use Rattle.sv_tree.specs.Operators.{unary_of, binary_of}
use Rattle.sv_expr.specs.declared.front.Front.{Front}
use Rattle.sv_expr.specs.declared.front.Front.TheVariants as fronts
use Rattle.sv_expr.specs.declared.front.Wrap.TheVariants as wraps

-- what a first token of this class says of an operand without prefixes
abbrev pub front_of : Option Class → Front
front_of (Some classes.Number) = fronts.Number
front_of (Some classes.Text) = fronts.Text
front_of (Some classes.Null) = fronts.Null
front_of (Some classes.Name) = fronts.Name
front_of (Some classes.OpenParen) = fronts.Wrapped wraps.Group
front_of (Some classes.ToSigned) = fronts.Wrapped wraps.Signed
front_of (Some classes.ToUnsigned) = fronts.Wrapped wraps.Unsigned
front_of (Some classes.OpenBrace) = fronts.Braces
front_of _ = fronts.Other

-- an operand begins so
abbrev pub is_some_front : Front → Bool
is_some_front fronts.Other = false
is_some_front _ = true

-- a prefix
abbrev pub is_prefix : Option Class → Bool
is_prefix c = is_there (unary_of c)

-- an operator between operands
abbrev pub is_operator : Option Class → Bool
is_operator c = is_there (binary_of c)

-- what an expression begins with
abbrev pub is_start : Option Class → Bool
is_start c = is_some_front (front_of c) || is_prefix c

-- the same of tokens
abbrev pub begins_prefix : Option Word → Bool
begins_prefix t = is_prefix (class_at t)

abbrev pub begins_term : Option Word → Bool
begins_term t = is_operator (class_at t)

abbrev pub begins_expr : Option Word → Bool
begins_expr t = is_start (class_at t)

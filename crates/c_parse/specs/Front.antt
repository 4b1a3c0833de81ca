-- What a first token says of a statement or a declaration.
use Rattle.std.specs.Prelude.{Bool, true, false, ◌||◌, Option, Some, None}
use Rattle.dpi_grammar.specs.Parser.{is_there}
use Rattle.dpi_lex.specs.Words.{Word}
use Rattle.c_tree.specs.declared.class.Class.{Class}
use Rattle.c_tree.specs.declared.class.Class.TheVariants as classes
use Rattle.c_tree.specs.Classes.{class_at, is}
use Rattle.c_tree.specs.Stores.{store_of}
use Rattle.c_types.specs.Reading.{begins_type}
use Rattle.c_expr.specs.Front.{begins_expr}
use Rattle.c_parse.specs.declared.front.Front.{Front}
use Rattle.c_parse.specs.declared.front.Front.TheVariants as fronts
use Rattle.c_parse.specs.declared.front.Nest.TheVariants as nests

-- what a first token of this class says of a statement; any other one can only begin an expression
abbrev pub front_of : Option Class → Front
front_of (Some classes.Semicolon) = fronts.Empty
front_of (Some classes.Return) = fronts.Return
front_of (Some classes.Break) = fronts.Break
front_of (Some classes.Continue) = fronts.Continue
front_of (Some classes.OpenBrace) = fronts.Nested nests.Block
front_of (Some classes.If) = fronts.Nested nests.If
front_of (Some classes.While) = fronts.Nested nests.While
front_of (Some classes.Do) = fronts.Nested nests.Do
front_of (Some classes.For) = fronts.Nested nests.For
front_of _ = fronts.Expr

-- a statement that is no expression begins so
abbrev pub is_marked : Front → Bool
is_marked fronts.Expr = false
is_marked _ = true

-- what a statement begins with
abbrev pub begins_stmt : Option Word → Bool
begins_stmt t = is_marked (front_of (class_at t)) || begins_expr t

-- "static" | "extern"
abbrev pub begins_store : Option Word → Bool
begins_store t = is_there (store_of (class_at t))

-- what a declaration of variables begins with
abbrev pub begins_variables : Option Word → Bool
begins_variables t = begins_store t || begins_type t

-- what a part of a block begins with
abbrev pub begins_part : Option Word → Bool
begins_part t = begins_variables t || begins_stmt t

-- what an external declaration begins with
abbrev pub begins_external : Option Word → Bool
begins_external t = is classes.Define t || begins_variables t

-- what a size begins with
abbrev pub begins_size : Option Word → Bool
begins_size t = is classes.Number t || is classes.Name t

-- What a first token says of a statement.
use Rattle.std.specs.Prelude.{Bool, true, false, ◌||◌, Option, Some, None}
use Rattle.dpi_grammar.specs.Parser.{is_there}
use Rattle.dpi_lex.specs.Words.{Word}
use Rattle.sv_tree.specs.declared.class.Class.{Class}
use Rattle.sv_tree.specs.declared.class.Class.TheVariants as classes
use Rattle.sv_tree.specs.Classes.{class_at, is}
use Rattle.sv_tree.specs.Kinds.{step_of, show_of}
use Rattle.sv_expr.specs.Front.{begins_expr}

-- a class of the tokens that begin a statement
abbrev pub is_statement : Option Class → Bool
is_statement (Some classes.Semicolon) = true
is_statement (Some classes.Begin) = true
is_statement (Some classes.If) = true
is_statement (Some classes.Case) = true
is_statement (Some classes.While) = true
is_statement (Some classes.Repeat) = true
is_statement (Some classes.Forever) = true
is_statement (Some classes.For) = true
is_statement (Some classes.Return) = true
is_statement (Some classes.Break) = true
is_statement (Some classes.Continue) = true
is_statement (Some classes.Disable) = true
is_statement (Some classes.Finish) = true
is_statement (Some classes.Display) = true
is_statement (Some classes.Write) = true
is_statement (Some classes.Void) = true
is_statement (Some classes.Name) = true
is_statement _ = false

abbrev pub begins_statement : Option Word → Bool
begins_statement t = is_statement (class_at t)

-- "$display" | "$write"
abbrev pub begins_show : Option Word → Bool
begins_show t = is_there (show_of (class_at t))

-- "++" | "--"
abbrev pub begins_step : Option Word → Bool
begins_step t = is_there (step_of (class_at t))

-- what a case item begins with
abbrev pub begins_item : Option Word → Bool
begins_item t = is classes.Default t || begins_expr t

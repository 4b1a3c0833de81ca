-- What is told of one name, of a size, and of an expression by itself.
use Rattle.std.specs.Prelude.{ℕ, ℤ, pos, ◌||◌, if◌then◌else◌, Option, Some, None, option_map, List, [], ◌∷◌}
use Rattle.std.specs.Option.{is_some}
use Rattle.dpi_literal.specs.declared.c_constants.CConstant.{CConstant}
use Rattle.dpi_literal.specs.declared.number_type.NumberType.{NumberType}
use Rattle.dpi_literal.specs.declared.number_type.NumberType.TheVariants as numbers
use Rattle.c_tree.specs.declared.leaves.Name.{Name}
use Rattle.c_tree.specs.declared.declarations.Size.{Size}
use Rattle.c_tree.specs.declared.declarations.Size.TheVariants as sizes
use Rattle.c_tree.specs.declared.expr.CExpr.{CExpr, out-CExpr}
use Rattle.c_typing.specs.declared.operand.Operand.{Operand}
use Rattle.c_typing.specs.Operands.{constant}
use Rattle.c_library.specs.Names.{call_named}
use Rattle.c_library.specs.Reserved.{is_printf, is_word_count, scalar_named, word_count}
use Rattle.c_names.specs.declared.entry.Entry.{Entry}
use Rattle.c_names.specs.declared.entry.Thing.{Thing}
use Rattle.c_names.specs.declared.entry.Thing.TheVariants as things
use Rattle.c_judge.specs.Calls.{Env}
use Rattle.c_judge.specs.Judge.{judge}
use Rattle.c_walk.specs.Around.{Values}
use Rattle.c_facts.specs.declared.facts.CMeant.{CMeant}
use Rattle.c_facts.specs.declared.facts.CMeant.TheVariants as meanings
use Rattle.c_facts.specs.declared.facts.CFact.{CFact}
use Rattle.c_facts.specs.declared.facts.CFact.TheVariants as facts
use Rattle.c_facts.specs.Widths.{one_number}

-- ---- names

-- a number of this type
abbrev pub number_meant : NumberType → ℤ → CMeant
number_meant of value = meanings.Constant (constant of).of value

-- a define of this type, by its value
abbrev pub define_meant : NumberType → Option ℤ → Option CMeant
define_meant of None = None
define_meant of (Some value) = Some (number_meant of value)

-- what a name means that declares this at this token, where defines have these values
abbrev pub thing_meant : Values → ℕ → Thing → Option CMeant
thing_meant values token (things.Object operand lasts) = Some (meanings.Object token)
thing_meant values token (things.Function n) = Some (meanings.Function token)
thing_meant values token (things.Number of) = define_meant of (values token)

-- one of the constants of svdpi.h, which are of type `int`
abbrev pub scalar_meant : Option ℕ → Option CMeant
scalar_meant None = None
scalar_meant (Some value) = Some (number_meant numbers.Int (pos value))

-- where a value stands
abbrev pub value_meant : Values → List ℕ → Option Entry → Option CMeant
value_meant values name None = scalar_meant (scalar_named name)
value_meant values name (Some e) = thing_meant values e.token e.thing

-- so many words
abbrev pub words_meant : Option CConstant → Option CMeant
words_meant None = None
words_meant (Some c) = Some (number_meant c.of c.value)

-- before a `(`, where nothing declares the name, and its argument is a number of these bytes
abbrev pub library_meant : List ℕ → Option (List ℕ) → Option CMeant
library_meant name width =
    if is_printf name || is_some (call_named name) then Some meanings.Library
    else (if is_word_count name then words_meant (option_map word_count width) else None)

-- before a `(`
abbrev pub called_meant : Values → List ℕ → Option Entry → Option (List ℕ) → Option CMeant
called_meant values name None width = library_meant name width
called_meant values name (Some e) width = thing_meant values e.token e.thing

-- the name at this token, if it means anything
abbrev pub name_facts : ℕ → Option CMeant → List CFact
name_facts token None = []
name_facts token (Some m) = facts.Name token m ∷ []

-- a name where a value stands
abbrev pub value_facts : Env → Values → Name → List CFact
value_facts env values name = name_facts name.token (value_meant values name.bytes (env.names name.bytes))

-- a called name, with its arguments
abbrev pub called_facts : Env → Values → Name → List CExpr → List CFact
called_facts env values name es = name_facts name.token (called_meant values name.bytes (env.names name.bytes) (one_number es))

-- ---- sizes

-- before a `(` in a size, with these bytes of a number behind it
abbrev pub size_words : List ℕ → List ℕ → Option CMeant
size_words name width = if is_word_count name then words_meant (Some (word_count width)) else None

-- the name in the size of an array
abbrev pub size_facts : Env → Values → Size → List CFact
size_facts env values (sizes.Number n) = []
size_facts env values (sizes.Name n) = value_facts env values n
size_facts env values (sizes.Call n k w) = name_facts n.token (size_words n.bytes w.bytes)

-- ---- expressions

-- what begins at this token, if it has a value
abbrev pub type_fact : ℕ → Option Operand → List CFact
type_fact token None = []
type_fact token (Some o) = facts.Type token o.of ∷ []

-- the type of an expression by itself, if it has one
abbrev pub type_facts : Env → CExpr → List CFact
type_facts env e = type_fact (out-CExpr e).token (judge env e).value

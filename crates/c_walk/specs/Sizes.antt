-- Sizes of arrays (ISO C 6.7.6.2).
use Rattle.std.specs.Prelude.{ℕ, ℤ, pos, if◌then◌else◌, Option, Some, None, List, []}
use Rattle.dpi_rules.specs.declared.violation.Violation.{Violation}
use Rattle.dpi_literal.specs.Constants.{number_of}
use Rattle.c_tree.specs.declared.leaves.Name.{Name}
use Rattle.c_tree.specs.declared.leaves.Number.{Number}
use Rattle.c_tree.specs.declared.declarations.Size.{Size}
use Rattle.c_tree.specs.declared.declarations.Size.TheVariants as sizes
use Rattle.c_tree.specs.declared.declarations.Array.{Array}
use Rattle.c_tree.specs.declared.declarations.ParamArray.{ParamArray}
use Rattle.c_typing.specs.declared.place.Place.{Place}
use Rattle.c_typing.specs.Judged.{rule_at}
use Rattle.c_typing.specs.Written.{size_rule, cells_of}
use Rattle.c_library.specs.Reserved.{is_word_count, scalar_named, word_count}
use Rattle.c_names.specs.declared.entry.Entry.{Entry}
use Rattle.c_names.specs.declared.entry.Thing.{Thing}
use Rattle.c_names.specs.declared.entry.Thing.TheVariants as things
use Rattle.c_names.specs.Names.{Names}
use Rattle.c_names.specs.Scopes.{find}
use Rattle.c_names.specs.Uses.{unknown_rule}
use Rattle.c_walk.specs.Around.{Around, at}

-- what a size breaks, and the cells that it gives, where it is one
pub record Sized : Type 0 where
  pub found : List Violation
  pub cells : Option ℕ

-- a size of this value: rule 4 where it isn't from 1 to 65,536
abbrev pub sized : Place → ℤ → Sized
sized p n = record { found = rule_at p (size_rule n); cells = cells_of n }

-- no size, by this rule
abbrev pub no_size : Place → ℕ → Sized
no_size p rule = record { found = rule_at p (Some rule); cells = None }

-- a define, by its value
abbrev pub define_size : Place → Option ℤ → Sized
define_size p None = record { found = []; cells = None }
define_size p (Some v) = sized p v

-- a define is a size; an object and a function are none: rule 3
abbrev pub thing_size : Around → Place → ℕ → Thing → Sized
thing_size a p token (things.Object operand lasts) = no_size p 3
thing_size a p token (things.Function n) = no_size p 3
thing_size a p token (things.Number of) = define_size p (a.values token)

-- a name that no file declares: a constant of svdpi.h by its value, else rule 2, or rule 3 at another of its names
abbrev pub undeclared_size : Place → List ℕ → Option ℕ → Sized
undeclared_size p name None = no_size p (unknown_rule name)
undeclared_size p name (Some v) = sized p (pos v)

-- a name, by its declaration
abbrev pub named_size : Around → Place → List ℕ → Option Entry → Sized
named_size a p name None = undeclared_size p name (scalar_named name)
named_size a p name (Some e) = thing_size a p e.token e.thing

abbrev pub size_by_name : Around → List Names → Name → Sized
size_by_name a names n = named_size a (at a n.token) n.bytes (find names n.bytes)

-- a name before a `(` that isn't the macro for words: rule 3, or 2 where no file declares it
abbrev pub no_macro_rule : List ℕ → Option Entry → ℕ
no_macro_rule name None = unknown_rule name
no_macro_rule name (Some e) = 3

-- the macro for words of a number
abbrev pub words_size : Place → List ℕ → Option Entry → List ℕ → Sized
words_size p name entry width = if is_word_count name then sized p (word_count width).value else no_size p (no_macro_rule name entry)

abbrev pub size_by_words : Around → List Names → Name → Number → Sized
size_by_words a names n w = words_size (at a n.token) n.bytes (find names n.bytes) w.bytes

-- a number, a name, or the macro for words
abbrev pub size : Around → List Names → Size → Sized
size a names (sizes.Number n) = sized (at a n.token) (number_of n.bytes).value
size a names (sizes.Name n) = size_by_name a names n
size a names (sizes.Call n k w) = size_by_words a names n w

-- the cells of a declarator: one where it is no array
abbrev pub array_size : Around → List Names → Option Array → Sized
array_size a names None = record { found = []; cells = Some 1 }
array_size a names (Some x) = size a names x.size

-- what a size of a parameter's array breaks by the name in it
abbrev pub name_size_violations : Around → List Names → Option Size → List Violation
name_size_violations a names (Some (sizes.Name n)) = (size_by_name a names n).found
name_size_violations a names (Some (sizes.Call n k w)) = (size_by_words a names n w).found
name_size_violations a names _ = []

abbrev pub param_size_violations : Around → List Names → Option ParamArray → List Violation
param_size_violations a names None = []
param_size_violations a names (Some x) = name_size_violations a names x.size

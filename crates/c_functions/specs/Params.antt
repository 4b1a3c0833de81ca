-- Parameters: their types, and what they break (ISO C 6.7.6.3).
use Rattle.std.specs.Prelude.{ℕ, ◌+◌, ◌/◌, pos, Bool, is_some, if◌then◌else◌, Option, Some, None, List, [], ◌++◌}
use Rattle.dpi_rules.specs.declared.violation.Violation.{Violation}
use Rattle.dpi_literal.specs.Constants.{number_value}
use Rattle.c_base.specs.declared.base.CBase.TheVariants as bases
use Rattle.c_base.specs.declared.ctype.CType.{CType}
use Rattle.c_tree.specs.declared.leaves.Name.{Name}
use Rattle.c_tree.specs.declared.declarations.Size.{Size}
use Rattle.c_tree.specs.declared.declarations.Size.TheVariants as sizes
use Rattle.c_tree.specs.declared.declarations.ParamArray.{ParamArray}
use Rattle.c_tree.specs.declared.declarations.Param.{Param}
use Rattle.c_typing.specs.declared.place.Place.{Place}
use Rattle.c_typing.specs.declared.written.Declared.{Declared}
use Rattle.c_typing.specs.Judged.{rule_at}
use Rattle.c_typing.specs.Pointers.{bare, is_base}
use Rattle.c_typing.specs.Written.{declared_of, adjusted, star_rule, void_rule, size_rule}
use Rattle.c_library.specs.Reserved.{is_word_count, name_violations}

abbrev pub place : ℕ → ℕ → Place
place file token = record { file = file; token = token }

-- ---- types

abbrev pub adjusted_by : Bool → Option Declared → Option Declared
adjusted_by is_array None = None
adjusted_by is_array (Some d) = adjusted is_array d

-- what a parameter is, an array being a pointer to its cells
abbrev pub written : Param → Option Declared
written p = adjusted_by (is_some p.array) (declared_of p.kind p.stars)

-- the type without const of its own; what has a name isn't void
abbrev pub type_by : Bool → Option Declared → Option CType
type_by named None = None
type_by named (Some d) = if named then (if is_base bases.Void d.of then None else Some (bare d.of)) else Some (bare d.of)

-- the type of a parameter, as its function's type has it
abbrev pub param_type : Param → Option CType
param_type p = type_by (is_some p.name) (written p)

-- ---- what is broken

-- a parameter's name, else the first token of its type
abbrev pub place_token : ℕ → Option Name → ℕ
place_token first None = first
place_token first (Some n) = n.token

-- rule 21 at a name of svdpi.h
abbrev pub reserved_violations : ℕ → Option Name → List Violation
reserved_violations file None = []
reserved_violations file (Some n) = name_violations file n.token n.bytes

-- rule 5 at a name that is declared void
abbrev pub void_violations : ℕ → Option Name → Option Declared → List Violation
void_violations file None d = []
void_violations file (Some n) None = []
void_violations file (Some n) (Some d) = rule_at (place file n.token) (void_rule d.of)

-- rule 4 at a size; before a `(` nothing but the macro for words stands: rule 3. A name is judged where names are known
abbrev pub size_violations : ℕ → Size → List Violation
size_violations file (sizes.Number n) = rule_at (place file n.token) (size_rule (pos (number_value n.bytes)))
size_violations file (sizes.Name n) = []
size_violations file (sizes.Call n k w) =
    if is_word_count n.bytes
    then rule_at (place file n.token) (size_rule (pos ((number_value w.bytes + 31) / 32)))
    else rule_at (place file n.token) (Some 3)

abbrev pub written_size_violations : ℕ → Option Size → List Violation
written_size_violations file None = []
written_size_violations file (Some s) = size_violations file s

abbrev pub array_violations : ℕ → Option ParamArray → List Violation
array_violations file None = []
array_violations file (Some a) = written_size_violations file a.size

-- what a parameter breaks: rule 22 on its stars, rule 5, rules 3 and 4 on its size, and rule 21
abbrev pub param_violations : ℕ → Param → List Violation
param_violations file p =
    rule_at (place file (place_token p.kind.token p.name)) (star_rule p.stars (is_some p.array))
    ++ void_violations file p.name (written p)
    ++ array_violations file p.array
    ++ reserved_violations file p.name

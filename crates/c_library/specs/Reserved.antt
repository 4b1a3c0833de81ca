-- Names that no declaration may have: the calls and constants of svdpi.h, and printf.
use Rattle.std.specs.Prelude.{ℕ, ◌+◌, ◌/◌, Bool, ◌||◌, if◌then◌else◌, pos, Option, Some, None, List, [], ◌∷◌, codes, bytes_eq}
use Rattle.std.specs.Option.{is_some}
use Rattle.dpi_rules.specs.declared.violation.Violation.{Violation}
use Rattle.dpi_rules.specs.Order.{violation}
use Rattle.dpi_literal.specs.declared.c_constants.CConstant.{CConstant}
use Rattle.dpi_literal.specs.Constants.{number_type, number_value}
use Rattle.c_library.specs.Names.{call_named}

abbrev pub is_printf : List ℕ → Bool
is_printf name = bytes_eq name (codes "printf")

-- the values of a scalar: 0, 1, z and x
abbrev pub scalar_named : List ℕ → Option ℕ
scalar_named name =
    if bytes_eq name (codes "sv_0") then Some 0
    else (if bytes_eq name (codes "sv_1") then Some 1
    else (if bytes_eq name (codes "sv_z") then Some 2
    else (if bytes_eq name (codes "sv_x") then Some 3 else None)))

-- the macro that gives the words of a vector of so many bits
abbrev pub is_word_count : List ℕ → Bool
is_word_count name = bytes_eq name (codes "SV_PACKED_DATA_NELEMS")

-- the words of a vector of so many bits, a number of the type of that number
abbrev pub word_count : List ℕ → CConstant
word_count bytes = record { of = number_type bytes; value = pos ((number_value bytes + 31) / 32) }

-- a name of svdpi.h, or printf
abbrev pub is_reserved : List ℕ → Bool
is_reserved name = is_printf name || (is_word_count name || (is_some (scalar_named name) || is_some (call_named name)))

-- rule 21 at a declared name
abbrev pub name_violations : ℕ → ℕ → List ℕ → List Violation
name_violations file token name = if is_reserved name then violation file token 21 ∷ [] else []

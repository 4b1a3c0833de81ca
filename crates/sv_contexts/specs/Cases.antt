-- `case` statements (12.5).
use Rattle.std.specs.Prelude.{ℕ, max, Bool, true, false, if◌then◌else◌, Option, Some, None, List, [], ◌∷◌, flat_map}
use Rattle.std.specs.List.{list_all}
use Rattle.dpi_rules.specs.declared.violation.Violation.{Violation}
use Rattle.dpi_rules.specs.Order.{violation}
use Rattle.sv_typing.specs.declared.types.Operand.{Operand}
use Rattle.sv_typing.specs.Types.{is_packed, is_text, width_of}
use Rattle.sv_typing.specs.Judged.{reached}

-- the expression and the items aren't all packed or all text
abbrev pub case_broken : ℕ → ℕ → Violation
case_broken file token = violation file token 25

-- what has no type is passed over
abbrev pub is_packed_item : Option Operand → Bool
is_packed_item None = true
is_packed_item (Some o) = is_packed o.of

abbrev pub is_text_item : Option Operand → Bool
is_text_item None = true
is_text_item (Some o) = is_text o.of

abbrev pub item_width : Option Operand → ℕ
item_width None = 0
item_width (Some o) = width_of o.of

-- the width of the widest
abbrev pub widest : List (Option Operand) → ℕ
widest [] = 0
widest (o ∷ os) = max (item_width o) (widest os)

-- a context of so many bits comes to an item
abbrev pub item_reached : ℕ → Option Operand → List Violation
item_reached width None = []
item_reached width (Some o) = reached width o.reach

-- The expression and the items of a `case`, by its keyword: all packed, each a context of the others, or all text.
abbrev pub case_violations : ℕ → ℕ → List (Option Operand) → List Violation
case_violations file token values =
    if list_all is_packed_item values
    then flat_map (item_reached (widest values)) values
    else (if list_all is_text_item values then [] else case_broken file token ∷ [])

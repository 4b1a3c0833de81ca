-- How many values an initialiser has (ISO C 6.7.9).
use Rattle.std.specs.Prelude.{ℕ, nat_le, Bool, true, not, Option, Some, None, List, length}
use Rattle.dpi_rules.specs.declared.violation.Violation.{Violation}
use Rattle.c_tree.specs.declared.declarations.Init.{Init}
use Rattle.c_tree.specs.declared.declarations.Init.TheVariants as inits
use Rattle.c_typing.specs.declared.place.Place.{Place}
use Rattle.c_typing.specs.Judged.{unless, rule_at}

-- no more values than cells; without a size nothing is looked at
abbrev pub has_room : Option ℕ → ℕ → Bool
has_room None values = true
has_room (Some cells) values = nat_le values cells

-- a list has a value for each cell at most, and an array begins with a list
abbrev pub fits : Bool → Option ℕ → Init → Bool
fits is_array cells (inits.Value e) = not is_array
fits is_array cells (inits.List k es) = has_room cells (length es)

-- rule 19 at the `=`: too many values, or an array without a list
abbrev pub value_violations : Place → Bool → Option ℕ → Init → List Violation
value_violations p is_array cells init = rule_at p (unless (fits is_array cells init) 19)

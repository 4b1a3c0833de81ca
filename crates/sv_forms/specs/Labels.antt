-- Closing labels.
use Rattle.std.specs.Prelude.{ℕ, Bool, true, false, Option, Some, None, List, []}
use Rattle.std.specs.Prelude.{◌∷◌}
use Rattle.std.specs.Str.{bytes_eq}
use Rattle.dpi_rules.specs.declared.violation.Violation.{Violation}
use Rattle.dpi_rules.specs.Order.{violation}
use Rattle.sv_tree.specs.declared.leaves.Name.{Name}
use Rattle.sv_tree.specs.declared.statements.Label.{Label}

-- the label has the name's bytes
abbrev pub repeats : Name → Label → Bool
repeats name label = bytes_eq name.bytes label.name.bytes

-- the label behind `end` has the bytes of the one behind `begin`
abbrev pub repeats_label : Option Label → Label → Bool
repeats_label None label = false
repeats_label (Some begin) label = repeats begin.name label

-- a label that repeats nothing breaks the rule
abbrev pub unless_repeated : ℕ → Label → Bool → List Violation
unless_repeated file label true = []
unless_repeated file label false = violation file label.name.token 7 ∷ []

-- what a closing label breaks behind what has this name
abbrev pub end_violations : ℕ → Name → Option Label → List Violation
end_violations file name None = []
end_violations file name (Some label) = unless_repeated file label (repeats name label)

-- what the closing label of a block breaks
abbrev pub block_end_violations : ℕ → Option Label → Option Label → List Violation
block_end_violations file begin None = []
block_end_violations file begin (Some label) = unless_repeated file label (repeats_label begin label)

-- Names whose calls are refused, each with the rule.
use Rattle.std.specs.Prelude.{ℕ, Option, Some, None, List, if◌then◌else◌}
use Rattle.std.specs.BTreeMap.{get_by}
use Rattle.std.specs.Cmp.Lexicographic.{slice_cmp}
use Rattle.std.specs.Ordering.{nat_cmp}
use Rattle.std.specs.Str.{bytes_eq}
use Rattle.c_calls.specs.declared.refusals.Refusals.{Refusals}

-- the rule that a call of each name breaks, if it breaks one
abbrev pub Rules : Type 0
Rules = List ℕ → Option ℕ

abbrev pub no_rules : Rules
no_rules name = None

-- the first of both that is there
abbrev pub or_else : {A : Type 0} → Option A → Option A → Option A
or_else None b = b
or_else (Some a) b = Some a

-- one name more, which keeps a rule that it has
abbrev pub refused : Rules → List ℕ → ℕ → Rules
refused rules name rule other = or_else (rules other) (if bytes_eq name other then Some rule else None)

-- what the code's table means
abbrev pub rules_of : Refusals → Rules
rules_of table name = get_by (λ k. slice_cmp nat_cmp name k.now) table.rules

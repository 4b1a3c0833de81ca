-- Bounds, and the ranges that two of them write.
use Rattle.std.specs.Prelude.{ℕ, ◌^◌, nat_lt, nat_le, Bool, true, false, if◌then◌else◌, ℤ, pos, neg_ℤ, Option, Some, None, List, [], ◌∷◌, ◌++◌}
use Rattle.dpi_rules.specs.declared.violation.Violation.{Violation}
use Rattle.dpi_rules.specs.Order.{violation}
use Rattle.dpi_literal.specs.SvNumber.{decimal_of}
use Rattle.dpi_shape.specs.declared.range.Range.{Range}
use Rattle.sv_tree.specs.declared.leaves.Bound.{Bound}

-- the rule on shapes is broken at this token
abbrev pub shape_broken : ℕ → ℕ → Violation
shape_broken file token = violation file token 8

-- the violation where there is no value, else nothing
abbrev pub unless_some : {T : Type 0} → Option T → Violation → List Violation
unless_some None v = v ∷ []
unless_some (Some x) v = []

-- the number, if it is one of 32 signed bits
abbrev pub positive : Option ℕ → Option ℤ
positive None = None
positive (Some n) = if nat_lt n (2 ^ 31) then Some (pos n) else None

-- the number behind a `-`, if that is one of 32 signed bits
abbrev pub negative : Option ℕ → Option ℤ
negative None = None
negative (Some n) = if nat_le n (2 ^ 31) then Some (neg_ℤ (pos n)) else None

-- the number with its sign
abbrev pub signed_value : Bool → Option ℕ → Option ℤ
signed_value true number = negative number
signed_value false number = positive number

-- the value of a bound, if it is a plain decimal number of 32 signed bits
abbrev pub bound_value : Bound → Option ℤ
bound_value b = signed_value b.negative (decimal_of b.number.bytes)

-- a bound without a value breaks the rule at its number
abbrev pub bound_violations : ℕ → Bound → List Violation
bound_violations file b = unless_some (bound_value b) (shape_broken file b.number.token)

-- a range, if both bounds have values
abbrev pub ranged : Option ℤ → Option ℤ → Option Range
ranged (Some left) (Some right) = Some (record { left = left; right = right })
ranged (Some left) None = None
ranged None right = None

-- the range from the one bound to the other
abbrev pub range_between : Bound → Bound → Option Range
range_between left right = ranged (bound_value left) (bound_value right)

-- what two bounds break
abbrev pub bounds_violations : ℕ → Bound → Bound → List Violation
bounds_violations file left right = bound_violations file left ++ bound_violations file right

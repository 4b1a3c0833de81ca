-- Concatenations, repetitions, `$signed` and `$unsigned` (11.4.12, 11.7).
use Rattle.std.specs.Prelude.{ℕ, ◌*◌, nat_lt, nat_le, Bool, true, false, ◌&&◌, if◌then◌else◌, ℤ, pos, negsuc, Option, Some, None, is_some, List, sum_by}
use Rattle.std.specs.List.{list_any, list_all}
use Rattle.dpi_rules.specs.declared.violation.Violation.{Violation}
use Rattle.dpi_rules.specs.Order.{violation}
use Rattle.dpi_shape.specs.declared.shape.TheConstants.{MOST_WIDTH}
use Rattle.dpi_literal.specs.SvNumber.{known_value}
use Rattle.sv_typing.specs.declared.types.ExprType.TheVariants as types
use Rattle.sv_typing.specs.declared.types.Operand.{Operand}
use Rattle.sv_typing.specs.declared.concatenations.Joint.{Joint}
use Rattle.sv_typing.specs.Types.{is_packed, is_four, width_of}
use Rattle.sv_typing.specs.Judged.{Judged, fine, wrong, unseen, kind_broken}

-- past the widest, a count that isn't known, or a number without a size
abbrev pub joint_broken : ℕ → ℕ → Violation
joint_broken file token = violation file token 19

-- the part has a type
abbrev pub is_typed : Joint → Bool
is_typed p = is_some p.operand

-- what the part's type tells, where it has one
abbrev pub is_packed_joint : Option Operand → Bool
is_packed_joint None = false
is_packed_joint (Some o) = is_packed o.of

abbrev pub is_four_joint : Option Operand → Bool
is_four_joint None = false
is_four_joint (Some o) = is_four o.of

abbrev pub joint_width : Option Operand → ℕ
joint_width None = 0
joint_width (Some o) = width_of o.of

-- the bits of all parts together
abbrev pub total_width : List Joint → ℕ
total_width parts = sum_by (λ p. joint_width p.operand) parts

-- so many bits, if an element may have them
abbrev pub narrow : ℕ → Option ℕ
narrow width = if nat_le width MOST_WIDTH then Some width else None

-- so many times as many bits, if an element may have them
abbrev pub times : Option ℕ → Option ℕ → Option ℕ
times None width = None
times (Some count) None = None
times (Some count) (Some width) = narrow (count * width)

-- the bits of the parts, so many times
abbrev pub joined_width : Option ℕ → List Joint → Option ℕ
joined_width count parts = times count (narrow (total_width parts))

-- unsigned bits; no context reaches the parts
abbrev pub jointed : ℕ → ℕ → Bool → Option ℕ → Judged
jointed file token four None = wrong (joint_broken file token)
jointed file token four (Some width) = fine (types.Bits width false four) None

-- packed parts, so many times: no number among them is without a size
abbrev pub joined_by : ℕ → ℕ → Option ℕ → List Joint → Judged
joined_by file token count parts =
    if list_any (λ p. p.bare) parts
    then wrong (joint_broken file token)
    else jointed file token (list_any (λ p. is_four_joint p.operand) parts) (joined_width count parts)

-- The parts, so many times, by the `{`. No rule looks where a part has no type.
abbrev pub repeated : ℕ → ℕ → Option ℕ → List Joint → Judged
repeated file token count parts =
    if list_all is_typed parts
    then (if list_all (λ p. is_packed_joint p.operand) parts then joined_by file token count parts else wrong (kind_broken file token))
    else unseen

-- a concatenation has its parts once
abbrev pub concatenated : ℕ → ℕ → List Joint → Judged
concatenated file token parts = repeated file token (Some 1) parts

-- a known number from 1 up; one past the widest is past it with any part
abbrev pub count_by : Option ℤ → Option ℕ
count_by None = None
count_by (Some (pos n)) = if nat_lt 0 n && nat_le n MOST_WIDTH then Some n else None
count_by (Some (negsuc n)) = None

-- how often a repetition has its parts, if it can have them so often
abbrev pub count_of : List ℕ → Option ℕ
count_of bytes = count_by (known_value bytes)

-- `$signed` and `$unsigned`, by the word, of what stands alone
abbrev pub cast : ℕ → ℕ → Bool → Option Operand → Judged
cast file token signed None = unseen
cast file token signed (Some o) =
    if is_packed o.of then fine (types.Bits (width_of o.of) signed (is_four o.of)) None else wrong (kind_broken file token)

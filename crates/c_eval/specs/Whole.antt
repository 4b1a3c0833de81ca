-- Whole numbers, and the bits that stand for them at a whole type.
use Rattle.std.specs.Prelude.{◌≡◌, ℕ, ◌-◌, ◌^◌, ℤ, pos, neg_ℤ, ◌-ℤ◌, ◌≤ℤ◌, ◌<ℤ◌, Bool, false}
use Rattle.std.specs.Prelude.{not, ◌&&◌, nat_le, int_le, int_lt, unsigned_abs, if◌then◌else◌}
use Rattle.std.specs.Prelude.{Result, Ok, Err}
use Rattle.std.specs.Int.{int_rem_euclid}
use Rattle.c_base.specs.declared.base.CBase.{CBase}
use Rattle.c_base.specs.Base.{width, is_signed}
use Rattle.c_eval.specs.declared.trap.OpTrap.{OpTrap}
use Rattle.c_eval.specs.declared.trap.OpTrap.TheVariants.{SignedOverflow}

-- how many numbers a whole type has
abbrev pub size : CBase → ℕ
size of = 2 ^ width of

-- the first number past those that a signed type has
abbrev pub half : CBase → ℕ
half of = 2 ^ (width of - 1)

-- the whole number that bits stand for, in two's complement where the type is signed
abbrev pub value_of : CBase → ℕ → ℤ
value_of of bits =
    if is_signed of && nat_le (half of) bits then pos bits -ℤ pos (size of) else pos bits

-- the bits that stand for a whole number: the number modulo 2 to the width
abbrev pub bits_of : CBase → ℤ → ℕ
bits_of of n = unsigned_abs (int_rem_euclid n (pos (size of)))

-- a signed type has the number: it lies from -2^(width - 1) up to 2^(width - 1), without the latter
abbrev pub is_within : CBase → ℤ → Bool
is_within of n = int_le (neg_ℤ (pos (half of))) n && int_lt n (pos (half of))

-- the number is past a signed type
abbrev pub overflows : CBase → ℤ → Bool
overflows of n = is_signed of && not (is_within of n)

-- a mathematical result at a type: an overflow where a signed type doesn't have it, and modulo 2 to
-- the width at an unsigned one
abbrev pub fitted : CBase → ℤ → Result ℕ OpTrap
fitted of n = if overflows of n then Err SignedOverflow else Ok (bits_of of n)

-- between -2^64 and 2^64
pub record IsSmall (n : ℤ) : Type 0 where
  pub low : neg_ℤ (pos (2 ^ 64)) ≤ℤ n
  pub high : n ≤ℤ pos (2 ^ 64)

-- a number that an operand of the type can have
pub record IsOperand (of : CBase) (n : ℤ) : Type 0 where
  pub low : neg_ℤ (pos (2 ^ 64)) ≤ℤ n
  pub high : n <ℤ pos (2 ^ 64)
  pub unsigned : is_signed of ≡ false → pos 0 ≤ℤ n

use Rattle.std.proofs.Common.{◌≡◌, ◌-◌, min, length, drop}
use Rattle.dpi_literal.specs.SvNumber.{written, filler_of, leading}
use Rattle.dpi_literal.proofs.Padding.{filled_up}
use Rattle.dpi_literal.proofs.bits.padded.Given as goal

-- the digits from the right that have been put
abbrev pub invariant-loop-i : goal.invariant-loop-i
invariant-loop-i l =
    let done = written l.base (drop (length l.digits - l.i) l.digits) in
    (l.value ≡ filled_up l.width (filler_of (leading l.digits)) done)
    × (l.at ≡ min (length done) l.width)

use Rattle.std.proofs.Common.{◌∙◌, ap}
use Rattle.std.specs.Int.{bit_at}
use Rattle.std.proofs.lemmas.Nat.Bits.{bit_at_cat_low, bit_at_cat_high}
use Rattle.dpi_bits.proofs.Slide.{side_by_side}
use Rattle.dpi_bits.proofs.numbers.joined.Goals as goal

pub returns-clause-near : goal.returns-clause-near
returns-clause-near c i h = ap (λ n. bit_at n i) (side_by_side c.args.low c.args.high c.ranges.low.fits c.ranges.high.fits) ∙ bit_at_cat_low c.args.high 32 c.args.low i h

pub returns-clause-far : goal.returns-clause-far
returns-clause-far c i h = ap (λ n. bit_at n i) (side_by_side c.args.low c.args.high c.ranges.low.fits c.ranges.high.fits) ∙ bit_at_cat_high c.args.high 32 c.args.low i c.ranges.low.fits h

use Rattle.dpi_bits.proofs.Slide.{slide_near, slide_far}
use Rattle.dpi_bits.proofs.window.slide.Goals as goal

pub returns-clause-near : goal.returns-clause-near
returns-clause-near c i = slide_near _ _ _ i c.ranges.low.fits c.ranges.high.fits

pub returns-clause-far : goal.returns-clause-far
returns-clause-far c i = slide_far _ _ _ i c.ranges.low.fits c.ranges.high.fits

use Rattle.std.proofs.Common.{◌*◌, ◌+◌, ◌∙◌, refl, ap, arith, get_or}
use Rattle.std.specs.Int.Count.{ones}
use Rattle.std.proofs.lemmas.Nat.{ones-le}
use Rattle.dpi_bits.specs.Words.{blank}
use Rattle.dpi_bits.specs.Layout.{digits_below}
use Rattle.dpi_bits.proofs.Counted.{digits_step, digits_le}
use Rattle.dpi_bits.proofs.reduce.count_ones.Goals as goal

pub loop-j-init : goal.loop-j-init
unfolding digits_below
loop-j-init c = refl

pub overflow_add-count : goal.overflow_add-count
overflow_add-count c =
    omega (arith, digits_le c.args.words.now (32 * c.loop-j.j), ones-le 32 (get_or c.args.words.now c.loop-j.j blank).aval c.loop-j-test.element_fits.fits)

pub loop-j-preserved : goal.loop-j-preserved
loop-j-preserved c =
    ap (λ n. n + ones (get_or c.args.words.now c.loop-j.j blank).aval) c.loop-j.invariant ∙ digits_step c.args.words.now c.loop-j.j c.loop-j-test.element_fits.fits

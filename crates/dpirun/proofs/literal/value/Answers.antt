use Rattle.std.proofs.Common.{◌∙◌, sym}
use Rattle.dpirun.proofs.Digits.{value_of-stops, value_of-whole, if-none}
use Rattle.dpirun.proofs.literal.value.Goals as goal

pub returns-in_err-value : goal.returns-in_err-value
returns-in_err-value c =
    let h = c.loop-digit.invariant in
    c.from_residual.ensures ∙ sym (
    value_of-stops c.args.digits.now c.loop-digit.value c.loop-digit.digit-index c.loop-digit-test.true
    h.read h.all (if-none _ _ c.in_err-value.ensures)
    )

pub returns : goal.returns
returns c =
    let h = c.loop-digit.invariant in
    sym (value_of-whole c.args.digits.now c.loop-digit.value c.loop-digit.digit-index c.loop-digit-test.false h.fits h.read h.all)

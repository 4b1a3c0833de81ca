use Rattle.std.proofs.Common.{◌≡◌, Bool, true, false, sym, ap, ◌∙◌, drop, ◌+◌}
use Rattle.std.specs.Prelude.{◌&&◌, slice_get}
use Rattle.sv_contexts.specs.Formats.{are_shown, fits_at}
use Rattle.sv_contexts.proofs.Decimals.{shown_next}
use Rattle.sv_contexts.proofs.formats.are_shown.Goals as goal

pub loop-place-preserved : goal.loop-place-preserved
loop-place-preserved c =
    let arg = c.index-args-place.result in
    let place = c.loop-place.place in
    let rest : Bool = are_shown (drop (place + 1) c.args.args.now) (drop (place + 1) c.args.conversions.now) in
    let fits : fits_at (slice_get c.args.conversions.now place) arg.operand ≡ true =
    sym (c.fits_at.ensures ∙ ap (λ o. fits_at o arg.operand) c.conversion_at.ensures) ∙ c.if-not-fits_at.false in
    c.loop-place.invariant
    ∙ shown_next c.args.args.now c.args.conversions.now place arg c.loop-place-test.true c.index-args-place.is
    ∙ ap (λ (b : Bool). b && rest) fits

pub returns-then-not-fits_at : goal.returns-then-not-fits_at
returns-then-not-fits_at c =
    let arg = c.index-args-place.result in
    let place = c.loop-place.place in
    let rest : Bool = are_shown (drop (place + 1) c.args.args.now) (drop (place + 1) c.args.conversions.now) in
    let fits : fits_at (slice_get c.args.conversions.now place) arg.operand ≡ false =
    sym (c.fits_at.ensures ∙ ap (λ o. fits_at o arg.operand) c.conversion_at.ensures) ∙ c.if-not-fits_at.true in
    sym
    (c.loop-place.invariant
    ∙ shown_next c.args.args.now c.args.conversions.now place arg c.loop-place-test.true c.index-args-place.is
    ∙ ap (λ (b : Bool). b && rest) fits)

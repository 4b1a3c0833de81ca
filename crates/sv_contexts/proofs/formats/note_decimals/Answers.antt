use Rattle.std.proofs.Common.{ap, ◌∙◌}
use Rattle.dpi_rules.specs.Least.{noted}
use Rattle.sv_contexts.specs.Formats.{decimal_violations}
use Rattle.sv_contexts.proofs.Decimals.{decimals_next}
use Rattle.sv_contexts.proofs.formats.note_decimals.Goals as goal

pub loop-place-preserved : goal.loop-place-preserved
loop-place-preserved c =
    let arg = c.index-args-place.result in
    c.loop-place.invariant
    ∙ decimals_next
    c.args.file
    c.args.args.now
    c.args.conversions.now
    c.loop-place.place
    arg
    c.loop-place.found
    c.note_decimal.new.found
    c.loop-place-test.true
    c.index-args-place.is
    (c.note_decimal.ensures ∙ ap (λ o. noted c.loop-place.found (decimal_violations c.args.file arg o)) c.conversion_at.ensures)

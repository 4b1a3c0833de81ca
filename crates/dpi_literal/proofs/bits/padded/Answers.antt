use Rattle.std.proofs.Common.{◌≡◌, ◌+◌, ◌-◌, min, length, get_or, drop, ap, sym, ◌∙◌, ◌++◌, arith, length-append}
use Rattle.std.specs.Prelude.{pos}
use Rattle.dpi_bits.specs.Parts.{put}
use Rattle.dpi_literal.specs.SvNumber.{written, digit_bits, filler_of, leading}
use Rattle.dpi_literal.proofs.Padding.{filled_up, length-filled_up, put_digit_padded, written_more}
use Rattle.dpi_literal.proofs.bits.padded.Goals as goal

pub loop-i-preserved : goal.loop-i-preserved
loop-i-preserved c =
    let width = c.args.width in
    let base = c.args.base in
    let digits = c.args.digits.now in
    let i = c.loop-i.i in
    let at = c.loop-i.at in
    let f = filler_of (leading digits) in
    let done = written base (drop (length digits - i) digits) in
    let d = digit_bits base (get_or digits (length digits - 1 - i) 0) in
    let more : written base (drop (length digits - (i + 1)) digits) ≡ done ++ d =
    written_more base digits i (omega arith) in
    let same : c.loop-i.value ≡ filled_up width f done = c.loop-i.invariant.0 in
    let place : at ≡ min (length done) width = c.loop-i.invariant.1 in (
      c.put_digit-at.ensures.bits
          ∙ ap (put (pos at) d) same
          ∙ put_digit_padded width f done d at place
          ∙ ap (filled_up width f) (sym more),
      c.put_digit-at.ensures.next
          ∙ omega (arith, ap length same, length-filled_up width f done, ap length more, length-append done d, place),
    )

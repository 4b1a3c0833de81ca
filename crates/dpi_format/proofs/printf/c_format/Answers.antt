use Rattle.std.proofs.Common.{◌∙◌, sym, refl, ap}
use Rattle.dpi_format.specs.CFirst.{first_of}
use Rattle.dpi_format.specs.CFormat.{spelled, IsPlain}
use Rattle.dpi_format.proofs.Codes.{unknown, step}
use Rattle.dpi_format.proofs.CPieces.{told, begins}
use Rattle.dpi_format.proofs.printf.c_format.Goals as goal

pub returns-in_default-clause-unknown : goal.returns-in_default-clause-unknown
returns-in_default-clause-unknown c _ pieces is =
    unknown first_of spelled IsPlain told refl c.before_zero-format.result.now c.loop-place.place
    c.loop-place.pieces.items c.loop-place.invariant.plain c.loop-place.invariant.same c.loop-place-test.true
    (sym (c.first_of.ensures ∙ ap first_of c.bytes_from.ensures) ∙ c.in_default.is) pieces
    (is.0, c.before_zero-format.ensures ∙ is.1)

pub loop-place-preserved : goal.loop-place-preserved
loop-place-preserved c =
    rw (c.spelled_len-place.ensures.len, c.in_ok-push.ensures.items)
    (step spelled IsPlain c.before_zero-format.result.now c.loop-place.place c.loop-place.pieces.items c.in-Some.piece
    c.loop-place.invariant
    (begins _ c.in-Some.piece (sym (c.first_of.ensures ∙ ap first_of c.bytes_from.ensures) ∙ c.in-Some.is)))

use Rattle.std.proofs.Common.{◌∙◌, sym, refl, ap}
use Rattle.dpi_format.specs.SvFirst.{first_of}
use Rattle.dpi_format.specs.SvFormat.{spelled, IsPlain}
use Rattle.dpi_format.proofs.Codes.{unknown, step}
use Rattle.dpi_format.proofs.SvPieces.{told, begins}
use Rattle.dpi_format.proofs.display.sv_format.Goals as goal

pub returns-in_default-clause-unknown : goal.returns-in_default-clause-unknown
returns-in_default-clause-unknown c _ pieces is =
    unknown first_of spelled IsPlain told refl c.args.bytes.now c.loop-place.place c.loop-place.pieces.items
    c.loop-place.invariant.plain c.loop-place.invariant.same c.loop-place-test.true
    (sym (c.first_of.ensures ∙ ap first_of c.bytes_from.ensures) ∙ c.in_default.is) pieces is

pub loop-place-preserved : goal.loop-place-preserved
loop-place-preserved c =
    rw (c.spelled_len-place.ensures, c.in_ok-push.ensures.items)
    (step spelled IsPlain c.args.bytes.now c.loop-place.place c.loop-place.pieces.items c.in-Some.piece
    c.loop-place.invariant (begins _ c.in-Some.piece (sym (c.first_of.ensures ∙ ap first_of c.bytes_from.ensures) ∙ c.in-Some.is)))

use Rattle.std.proofs.Common.{◌∙◌, sym, refl}
use Rattle.dpi_format.specs.CFormat as c_spec
use Rattle.dpi_format.specs.CFirst as c_first
use Rattle.dpi_format.specs.SvFormat as sv_spec
use Rattle.dpi_format.specs.SvFirst as sv_first
use Rattle.dpi_format.proofs.CPieces as c_pieces
use Rattle.dpi_format.proofs.Codes.{unique}
use Rattle.dpi_format.proofs.SvPieces as sv_pieces
use Rattle.dpi_format.proofs.laws.formats_are_unambiguous.Goals as goal

pub returns : goal.returns
returns c = record {
  sv =
      λ bytes some others h k.
      unique sv_first.first_of sv_spec.spelled sv_spec.IsPlain sv_pieces.told refl some others h.0 k.0 (sym h.1 ∙ k.1);
  c =
      λ bytes some others h k.
      unique c_first.first_of c_spec.spelled c_spec.IsPlain c_pieces.told refl some others h.0 k.0 (sym h.1 ∙ k.1);
}

use Rattle.std.proofs.Common.{sym}
use Rattle.dpi_bits.proofs.InPlace.{width_is}
use Rattle.dpi_bits.proofs.packed.Packed.width.Goals as goal

pub returns-clause-bits : goal.returns-clause-bits
returns-clause-bits c = sym (width_is _ c.self.inside.words.items _ c.self.view_is)

use Rattle.dpi_bits.proofs.Reductions.{known_by}
use Rattle.dpi_bits.proofs.packed.Packed.known.Goals as goal

pub returns : goal.returns
returns c = known_by c.stands.result c.args.self.now c.stands.ensures.nowhere c.stands.ensures.somewhere

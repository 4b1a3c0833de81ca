use Rattle.dpi_bits.proofs.LawProofs.{part_of_low, part_of_high}
use Rattle.dpi_bits.proofs.laws.part_of_concatenation.Goals as goal

pub returns : goal.returns
returns c = record { low = part_of_low; high = part_of_high }

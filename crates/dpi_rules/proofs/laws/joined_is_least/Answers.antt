use Rattle.dpi_rules.proofs.Firsts.{joined_is_least}
use Rattle.dpi_rules.proofs.laws.joined_is_least.Goals as goal

pub returns : goal.returns
returns c = joined_is_least

use Rattle.dpi_rules.proofs.Firsts.{least_is_least}
use Rattle.dpi_rules.proofs.laws.least_is_least.Goals as goal

pub returns : goal.returns
returns c = least_is_least

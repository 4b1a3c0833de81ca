use Rattle.c_functions.proofs.Adding.{set_value}
use Rattle.c_functions.proofs.definitions.Definitions.set.Goals as goal

pub returns : goal.returns
returns c = set_value c.args.name.now c.args.self.now.names c.insert.new.self c.args.defined c.in_ok-insert.ensures.updates

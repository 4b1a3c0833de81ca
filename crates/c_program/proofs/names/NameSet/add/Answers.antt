use Rattle.c_functions.proofs.Adding.{has_new}
use Rattle.c_program.proofs.names.NameSet.add.Goals as goal

pub returns : goal.returns
returns c = has_new c.args.name.now c.args.self.now.names c.insert.new.self _ c.in_ok-insert.ensures.updates

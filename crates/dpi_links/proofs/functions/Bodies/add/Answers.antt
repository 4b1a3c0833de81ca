use Rattle.std.proofs.Common.{arith, ◌≡◌, None}
use Rattle.std.proofs.lemmas.Grind.{common_steps}
use Rattle.c_functions.specs.Declarations.{told}
use Rattle.c_functions.proofs.Adding.{at_name, add_new}
use Rattle.dpi_links.proofs.functions.Bodies.add.Goals as goal

pub returns-in_ok-insert : goal.returns-in_ok-insert
returns-in_ok-insert c =
    let absent : at_name c.args.self.now.names c.args.name.now ≡ None = grind (arith, common_steps) in
    add_new told c.args.name.now c.args.self.now.names c.insert.new.self c.args.body c.in_ok-insert.ensures.updates absent

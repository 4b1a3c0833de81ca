use Rattle.std.proofs.Common.{arith, ◌≡◌, None}
use Rattle.std.proofs.lemmas.Grind.{common_steps}
use Rattle.c_functions.proofs.Adding.{at_name, add_new}
use Rattle.dpi_links.specs.Exports.{named_told}
use Rattle.dpi_links.proofs.exporters.Exporters.add.Goals as goal

pub returns-in_ok-insert : goal.returns-in_ok-insert
returns-in_ok-insert c =
    let name = c.args.export.name.now in
    let absent : at_name c.args.self.now.names name ≡ None = grind (arith, common_steps) in
    add_new named_told name c.args.self.now.names c.insert.new.self c.args.export c.in_ok-insert.ensures.updates absent

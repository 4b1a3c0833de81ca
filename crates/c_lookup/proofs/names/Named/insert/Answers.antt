use Rattle.std.proofs.Common.{arith, ◌≡◌, None}
use Rattle.std.proofs.lemmas.Grind.{common_steps}
use Rattle.c_functions.proofs.Adding.{at_name, add_value, same_names}
use Rattle.c_lookup.proofs.names.Named.insert.Goals as goal

pub returns-in_ok-insert : goal.returns-in_ok-insert
returns-in_ok-insert c =
    let absent : at_name c.args.self.now.names c.args.name.now ≡ None = grind (arith, common_steps) in
    same_names _ _ (add_value c.args.name.now c.args.self.now.names c.insert.new.self c.args.number c.in_ok-insert.ensures.updates absent)

use Rattle.std.proofs.Common.{sym, ap, ◌∙◌}
use Rattle.c_lookup.specs.Names.{only_named, or_names, named}
use Rattle.c_lookup.proofs.names.Named.add.Goals as goal

pub returns-in_ok-insert : goal.returns-in_ok-insert
returns-in_ok-insert c = c.in_ok-insert.ensures ∙ ap (λ n. or_names (named c.args.self.now) (only_named c.args.name.now n)) (sym c.in-Some.is)

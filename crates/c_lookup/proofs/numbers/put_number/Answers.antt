use Rattle.std.proofs.Common.{sym, ap, ◌∙◌}
use Rattle.dpi_table.specs.Files.{in_file}
use Rattle.dpi_table.specs.Firsts.{only_at, or_values}
use Rattle.c_lookup.proofs.numbers.put_number.Goals as goal

pub returns-in_ok-put : goal.returns-in_ok-put
returns-in_ok-put c = c.in_ok-put.ensures.ok ∙ ap (λ n. or_values (in_file c.args.numbers.now) (only_at c.args.file c.args.token n)) (sym c.in-Some.is)

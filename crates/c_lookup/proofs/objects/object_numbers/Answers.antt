use Rattle.std.proofs.Common.{map, ap, ◌∙◌}
use Rattle.dpi_table.specs.Files.{in_file}
use Rattle.dpi_table.specs.Firsts.{first_with, or_values}
use Rattle.c_functions.specs.Objects.{told}
use Rattle.c_lookup.specs.Names.{Names}
use Rattle.c_lookup.specs.Objects.{extern_at}
use Rattle.c_lookup.proofs.objects.object_numbers.Goals as goal

pub returns : goal.returns
returns c =
    c.in_ok-add_externs.ensures
    ∙ ap (λ (names : Names). or_values (in_file c.args.positions) (first_with (extern_at names) (map told c.args.objects.now))) c.in_ok-names.ensures

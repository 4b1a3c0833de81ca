use Rattle.std.proofs.Common.{true, map, ap, ◌∙◌}
use Rattle.dpi_table.specs.Files.{in_file}
use Rattle.c_functions.specs.Declarations.{told}
use Rattle.c_lookup.specs.Names.{or_names}
use Rattle.c_lookup.specs.Functions.{entries_named}
use Rattle.c_lookup.proofs.functions.own_numbers.Goals as goal

pub returns : goal.returns
returns c =
    let own = entries_named (in_file c.args.positions.now) true (map told c.args.declarations.now) in
    c.in_ok-add_numbers.ensures ∙ ap (λ v. or_names v own) c.new-names.ensures

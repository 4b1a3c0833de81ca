use Rattle.std.proofs.Common.{map, ap, ◌∙◌}
use Rattle.dpi_table.specs.Files.{in_file}
use Rattle.dpi_table.specs.Firsts.{first_with, or_values}
use Rattle.c_functions.specs.Declarations.{told}
use Rattle.c_lookup.specs.Names.{Names, named}
use Rattle.c_lookup.specs.Functions.{file_at}
use Rattle.c_lookup.proofs.functions.function_numbers.Goals as goal

pub returns : goal.returns
returns c =
    let files = map (map told) c.args.table.now in
    let at = file_at (in_file c.args.positions.now) in
    c.in_ok-add_files.ensures
    ∙ ap (λ v. or_values v (first_with (at (named c.in_ok-shared.shared)) files)) c.new-numbers.ensures
    ∙ ap (λ (shared : Names). first_with (at shared) files) c.in_ok-shared.ensures

use Rattle.std.proofs.Common.{◌≡◌, map, ap, ◌∙◌}
use Rattle.dpi_table.specs.Files.{in_file}
use Rattle.c_functions.specs.Declarations.{told, known_of}
use Rattle.c_lookup.specs.Functions.{functions_at}
use Rattle.c_lookup.specs.Meanings.{function_positions}
use Rattle.c_lookup.proofs.Composed.{by_parts}
use Rattle.c_lookup.proofs.lookup.functions_at.Goals as goal

pub returns : goal.returns
returns c =
    let positions : in_file c.in_ok-positions.positions ≡ function_positions c.args.functions.now = c.in_ok-positions.ensures in
    let declared : map (map told) c.in_ok-table.table ≡ known_of c.args.files.now = c.in_ok-table.ensures in
    by_parts functions_at c.function_numbers.result (in_file c.in_ok-positions.positions) (function_positions c.args.functions.now) (map (map told) c.as_slice.result.now) (known_of c.args.files.now)
    positions (ap (map (map told)) c.as_slice.ensures ∙ declared) c.function_numbers.ensures

use Rattle.std.proofs.Common.{◌≡◌, map, ap, ◌∙◌}
use Rattle.dpi_table.specs.Files.{in_file}
use Rattle.c_functions.specs.Objects.{told, objects_of}
use Rattle.c_lookup.specs.Objects.{objects_at}
use Rattle.c_lookup.specs.Meanings.{object_positions}
use Rattle.c_lookup.proofs.Composed.{by_parts}
use Rattle.c_lookup.proofs.lookup.objects_at.Goals as goal

pub returns : goal.returns
returns c =
    let positions : in_file c.in_ok-positions.positions ≡ object_positions c.args.objects.now = c.in_ok-positions.ensures in
    let declared : map told c.in_ok-declared.declared ≡ objects_of c.args.files.now = c.in_ok-declared.ensures in
    by_parts objects_at c.object_numbers.result (in_file c.in_ok-positions.positions) (object_positions c.args.objects.now) (map told c.as_slice.result.now) (objects_of c.args.files.now)
    positions (ap (map told) c.as_slice.ensures ∙ declared) c.object_numbers.ensures

-- What the code keeps of exports by their names in C.
use Rattle.std.specs.Prelude.{ℕ, Option, option_map, List}
use Rattle.std.specs.BTreeMap.{get_by}
use Rattle.std.specs.Cmp.Lexicographic.{slice_cmp}
use Rattle.std.specs.Ordering.{nat_cmp}
use Rattle.dpi_links.specs.declared.exporters.Exporters.{Exporters}
use Rattle.dpi_links.specs.Exports.{NamedExport, named_told}

abbrev pub exports_of : Exporters → List ℕ → Option NamedExport
exports_of exporters name = option_map named_told (get_by (λ k. slice_cmp nat_cmp name k.now) exporters.names)

use Rattle.std.proofs.Common.{ap, ◌∙◌, ◌++◌}
use Rattle.std.specs.Prelude.{flat_map}
use Rattle.dpi_rules.specs.Least.{noted}
use Rattle.dpi_rules.proofs.Noting.{noted_both}
use Rattle.sv_shapes.specs.Formals.{formal_element, formal_type_violations, formal_dimension_violations}
use Rattle.sv_shapes.specs.Imports.{formal_name_violations, formal_cells_violations}
use Rattle.sv_shapes.proofs.imports.note_formal.Goals as goal

pub returns : goal.returns
returns c =
    let file = c.args.file in
    let start = c.args.found.now in
    let type = c.args.kind.now in
    let ds = c.args.dimensions.now in
    let of_type = formal_type_violations file type in
    let of_name = formal_name_violations file c.args.name type ds in
    let of_each = flat_map (formal_dimension_violations file) ds in
    noted_both start (of_type ++ of_name ++ of_each) (formal_cells_violations file (formal_element type) ds)
    (noted_both start (of_type ++ of_name) of_each
    (noted_both start of_type of_name c.note_formal_type.ensures c.note_formal_name.ensures)
    c.note_formal_dimensions.ensures)
    (c.note_formal_cells.ensures ∙ ap (λ e. noted c.note_formal_dimensions.new.found (formal_cells_violations file e ds)) c.formal_element.ensures)

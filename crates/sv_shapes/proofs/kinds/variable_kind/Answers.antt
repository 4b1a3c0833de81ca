use Rattle.std.proofs.Common.{ap, ◌∙◌, ◌++◌}
use Rattle.std.specs.Prelude.{flat_map}
use Rattle.dpi_rules.specs.Least.{noted}
use Rattle.dpi_rules.proofs.Noting.{noted_both}
use Rattle.sv_shapes.specs.Elements.{element_of, type_violations}
use Rattle.sv_shapes.specs.Dimensions.{dimension_violations}
use Rattle.sv_shapes.specs.Kinds.{array_violations, cells_violations}
use Rattle.sv_shapes.proofs.kinds.variable_kind.Goals as goal

pub returns-clause-violations : goal.returns-clause-violations
returns-clause-violations c =
    let file = c.args.file in
    let name = c.args.name in
    let start = c.args.found.now in
    let element = element_of c.args.data_type.now in
    let ds = c.args.dimensions.now in
    let of_type = type_violations file c.args.data_type.now in
    let of_array = array_violations file name element ds in
    let of_each = flat_map (dimension_violations file) ds in
    noted_both start (of_type ++ of_array ++ of_each) (cells_violations file element ds)
    (noted_both start (of_type ++ of_array) of_each
    (noted_both start of_type of_array c.note_type.ensures
    (c.note_array.ensures ∙ ap (λ e. noted c.note_type.new.found (array_violations file name e ds)) c.element_of-element.ensures))
    c.note_dimensions.ensures)
    (c.note_cells.ensures ∙ ap (λ e. noted c.note_dimensions.new.found (cells_violations file e ds)) c.element_of-element.ensures)

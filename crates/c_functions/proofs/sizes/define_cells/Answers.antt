use Rattle.std.proofs.Common.{ap, ◌∙◌}
use Rattle.dpi_literal.specs.Constants.{define_value}
use Rattle.c_functions.specs.Objects.{constant_cells}
use Rattle.c_functions.proofs.sizes.define_cells.Goals as goal

pub returns : goal.returns
returns c = c.constant_cells.ensures ∙ ap constant_cells (c.c_define_value.ensures ∙ ap define_value c.as_slice.ensures)

-- The shapes of formals of imports.
use Rattle.std.specs.Prelude.{ℕ, Option, Some, None, option_and_then, List, slice_get}
use Rattle.dpi_shape.specs.declared.shape.Shape.{Shape}
use Rattle.sv_tree.specs.declared.items.SvFile.{SvFile}
use Rattle.sv_design.specs.declared.imports.Import.{Import}
use Rattle.sv_design.specs.declared.imports.ImportFormal.{ImportFormal}
use Rattle.sv_design.specs.Imports.{imports_in}
use Rattle.sv_formals.specs.Formals.{formal_shape}

-- the shape of a formal, if there is one, for an actual
abbrev pub shape_for : Shape → Option ImportFormal → Option Shape
shape_for actual None = None
shape_for actual (Some f) = formal_shape f.kind actual

-- the formal of this number of the import of that number, if there are both
abbrev pub formal_at : List Import → ℕ → ℕ → Option ImportFormal
formal_at imports import formal = option_and_then (λ (i : Import). slice_get i.formals formal) (slice_get imports import)

-- its shape for an actual
abbrev pub shape_in : List SvFile → ℕ → ℕ → Shape → Option Shape
shape_in files import formal actual = shape_for actual (formal_at (imports_in files) import formal)

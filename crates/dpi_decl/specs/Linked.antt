-- What linked files keep.
use Rattle.std.specs.Prelude.{◌≡◌, [], map}
use Rattle.sv_design.specs.Imports.{imports_in}
use Rattle.c_check.specs.Check.{violations}
use Rattle.dpi_links.specs.Link.{sv_violations, c_violations}
use Rattle.dpi_decl.specs.Exports.{exported_names}
use Rattle.dpi_decl.specs.Functions.{called_function}
use Rattle.dpi_decl.specs.declared.linked.Linked.TheInside.{Inside}

-- no C file breaks a rule of C, no file one of linking, and each list is that of the files
pub record IsLinked (l : Inside) : Type 0 where
  pub clean : violations l.program ≡ []
  pub clean_in_sv : sv_violations l.design l.program ≡ []
  pub clean_in_c : c_violations l.design l.program ≡ []
  pub exports_are : l.exports ≡ exported_names l.design
  pub functions_are : l.functions.items ≡ map (called_function l.program) (imports_in l.design)

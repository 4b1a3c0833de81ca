-- What a design keeps.
use Rattle.std.specs.Prelude.{◌≡◌, ◌≤◌, [], length}
use Rattle.sv_design.specs.Items.{declarations_in}
use Rattle.sv_design.specs.Subroutines.{subroutines_in}
use Rattle.sv_design.specs.Imports.{imports_in}
use Rattle.sv_design.specs.Exports.{exports_in}
use Rattle.sv_design.specs.Places.{initials_in, blocks_in}
use Rattle.sv_lookup.specs.Meanings.{meanings_of, lookup_types}
use Rattle.sv_scopes.specs.Scopes.{scopes_in}
use Rattle.sv_scopes.specs.Variables.{variables_in}
use Rattle.sv_check.specs.Check.{violations}
use Rattle.sv_check.specs.Facts.{meanings_in, types_in}
use Rattle.sv_check.specs.declared.design.Design.TheInside.{Inside}

-- the files break no rule, and each list and table is that of the files
pub record IsDesign (d : Inside) : Type 0 where
  pub few : length d.files ≤ 1000
  pub clean : violations d.files ≡ []
  pub scopes_are : d.scopes ≡ scopes_in d.files
  pub variables_are : d.variables ≡ variables_in d.files
  pub declarations_are : d.declarations ≡ declarations_in d.files
  pub subroutines_are : d.subroutines ≡ subroutines_in d.files
  pub imports_are : d.imports ≡ imports_in d.files
  pub exports_are : d.exports ≡ exports_in d.files
  pub initials_are : d.initials ≡ initials_in d.files
  pub blocks_are : d.blocks ≡ blocks_in d.files
  pub meanings_are : meanings_of d.lookup ≡ meanings_in d.files
  pub types_are : lookup_types d.lookup ≡ types_in d.files

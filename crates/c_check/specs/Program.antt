-- What a program keeps.
use Rattle.std.specs.Prelude.{◌≡◌, ◌≤◌, [], length}
use Rattle.c_program.specs.Functions.{functions_of}
use Rattle.c_program.specs.Objects.{objects_of}
use Rattle.c_lookup.specs.Meanings.{meanings_of, lookup_types}
use Rattle.c_check.specs.Check.{violations}
use Rattle.c_check.specs.Facts.{meanings_in, types_in}
use Rattle.c_check.specs.declared.programs.CProgram.TheInside.{Inside}

-- the files break no rule, and each list and table is that of the files
pub record IsProgram (p : Inside) : Type 0 where
  pub few : length p.files ≤ 1000
  pub clean : violations p.files ≡ []
  pub functions_are : p.functions ≡ functions_of p.files
  pub objects_are : p.objects ≡ objects_of p.files
  pub meanings_are : meanings_of p.lookup ≡ meanings_in p.files
  pub types_are : lookup_types p.lookup ≡ types_in p.files

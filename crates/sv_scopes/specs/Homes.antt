-- Where the modules of files stand.
use Rattle.std.specs.Prelude.{ℕ, ◌+◌, Option, option_and_then, List, [], ◌∷◌, ◌++◌, slice_get}
use Rattle.sv_tree.specs.declared.items.Module.{Module}
use Rattle.sv_tree.specs.declared.items.SvFile.{SvFile}
use Rattle.sv_scopes.specs.declared.homes.Home.{Home}

-- modules of this file, of which the first one here has this number in it
abbrev pub homes_from : ℕ → ℕ → List Module → List Home
homes_from file number [] = []
homes_from file number (m ∷ ms) = record { file = file; number = number } ∷ homes_from file (number + 1) ms

-- the modules of files, of which the first file here has this number
abbrev pub file_homes : ℕ → List SvFile → List Home
file_homes file [] = []
file_homes file (f ∷ fs) = homes_from file 0 f.modules ++ file_homes (file + 1) fs

-- where each module stands, by the number that it has over all files
abbrev pub homes_in : List SvFile → List Home
homes_in files = file_homes 0 files

-- the module that stands there, if one does
abbrev pub module_at : List SvFile → Home → Option Module
module_at files h = option_and_then (λ (f : SvFile). slice_get f.modules h.number) (slice_get files h.file)

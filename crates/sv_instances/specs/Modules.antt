-- The modules of files, by number and by name.
use Rattle.std.specs.Prelude.{◌≡◌, ℕ, ◌+◌, Option, Some, None, Result, Ok, Err, List, [], ◌∷◌, ◌++◌, map, if◌then◌else◌}
use Rattle.std.specs.BTreeMap.{BTreeMap, get_by}
use Rattle.std.specs.Cmp.Lexicographic.{slice_cmp}
use Rattle.std.specs.Ordering.{nat_cmp}
use Rattle.std.specs.Str.{bytes_eq}
use denote.Ref.{Bor}
use Rattle.dpi_rules.specs.declared.violation.Violation.{Violation}
use Rattle.dpi_rules.specs.Order.{violation}
use Rattle.dpi_rules.specs.Least.{noted}
use Rattle.dpi_ports.specs.declared.no_memory.NoMemory.{NoMemory}
use Rattle.sv_tree.specs.declared.leaves.Name.{Name}
use Rattle.sv_tree.specs.declared.items.Module.{Module}
use Rattle.sv_tree.specs.declared.items.SvFile.{SvFile}
use Rattle.sv_instances.specs.declared.modules.Placed.{Placed}
use Rattle.sv_instances.specs.declared.modules.Numbers.{Numbers}

-- a module and its file
pub record InFile : Type 0 where
  pub file : ℕ
  pub tree : Module

-- what the code keeps of it
abbrev pub told : Placed → InFile
told p = record { file = p.file; tree = p.tree.now }

-- a module of this file
abbrev pub in_file : ℕ → Module → InFile
in_file file m = record { file = file; tree = m }

-- the modules of files in text order, of which the first file here has this number
abbrev pub modules_from : ℕ → List SvFile → List InFile
modules_from file [] = []
modules_from file (f ∷ fs) = map (in_file file) f.modules ++ modules_from (file + 1) fs

-- the modules of all files
abbrev pub modules_in : List SvFile → List InFile
modules_in files = modules_from 0 files

-- the number of the first module of this name, where the first one here has this number
abbrev pub number_from : ℕ → List InFile → List ℕ → Option ℕ
number_from n [] name = None
number_from n (m ∷ ms) name = if bytes_eq m.tree.name.bytes name then Some n else number_from (n + 1) ms name

-- the module that a name means
abbrev pub number_of : List InFile → List ℕ → Option ℕ
number_of ms name = number_from 0 ms name

-- the first of both that is there
abbrev pub or_else : {A : Type 0} → Option A → Option A → Option A
or_else None b = b
or_else (Some a) b = Some a

-- one more name, which counts unless it is there
abbrev pub added : (List ℕ → Option ℕ) → List ℕ → ℕ → List ℕ → Option ℕ
added numbers name number other = or_else (numbers other) (if bytes_eq name other then Some number else None)

-- a module behind these breaks rule 1 at its name, if one of them has its name
abbrev pub second : ℕ → Name → Option ℕ → List Violation
second file n None = []
second file n (Some earlier) = violation file n.token 1 ∷ []

-- the modules behind these that have the name of an earlier one
abbrev pub seconds_behind : List InFile → List InFile → List Violation
seconds_behind before [] = []
seconds_behind before (m ∷ ms) = second m.file m.tree.name (number_of before m.tree.name.bytes) ++ seconds_behind (before ++ m ∷ []) ms

-- the second modules of one name
abbrev pub second_modules : List InFile → List Violation
second_modules ms = seconds_behind [] ms

-- what a map from names to numbers tells
abbrev pub numbers_of : BTreeMap (Bor (List ℕ)) ℕ → List ℕ → Option ℕ
numbers_of m name = get_by (λ k. slice_cmp nat_cmp name k.now) m

-- a map tells the first module of each name, and the second ones of a name are noted
pub record IsNumbered (ms : List InFile) (found : Option Violation) (numbers : BTreeMap (Bor (List ℕ)) ℕ) (found' : Option Violation) : Type 0 where
  pub numbers_are : (name : List ℕ) → numbers_of numbers name ≡ number_of ms name
  pub found_are : found' ≡ noted found (second_modules ms)

-- the same, unless memory ran out
abbrev pub Numbered : List InFile → Option Violation → Result Numbers NoMemory → Option Violation → Type 0
Numbered ms found (Ok n) found' = IsNumbered ms found n.numbers found'
Numbered ms found (Err e) found' = Unit {0}

-- in a loop over modules: the map tells those before, and what those left over break comes to the same as all
pub record IsNumbering (all before left : List InFile) (found : Option Violation) (numbers : BTreeMap (Bor (List ℕ)) ℕ) (found' : Option Violation) : Type 0 where
  pub numbers_are : (name : List ℕ) → numbers_of numbers name ≡ number_of before name
  pub found_same : noted found (second_modules all) ≡ noted found' (seconds_behind before left)

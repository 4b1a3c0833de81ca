-- Instances in preorder, by what each module instantiates.
use Rattle.std.specs.Prelude.{◌≡◌, ◌≤◌, ℕ, zero, suc, ◌+◌, Option, Some, None, Result, Ok, Err, List, [], ◌∷◌, ◌++◌, take, flat_map, slice_get, slice_index_or}
use Rattle.dpi_ports.specs.declared.no_memory.NoMemory.{NoMemory}
use Rattle.dpi_rules.specs.declared.violation.Violation.{Violation}
use Rattle.dpi_rules.specs.Order.{violation}
use Rattle.dpi_rules.specs.Least.{noted}
use Rattle.sv_instances.specs.declared.preorder.Child.{Child}
use Rattle.sv_instances.specs.declared.preorder.Instance.{Instance}

-- the instance that a part makes inside another: its name is the other one's, a dot and its own
abbrev pub inside : List ℕ → Child → Instance
inside outer c = record { module_number = c.module_number; file = c.file; token = c.token; name = outer ++ 46 ∷ c.name }

-- what a module instantiates
abbrev pub children_of : List (List Child) → ℕ → List Child
children_of children number = slice_index_or children number []

-- an instance and those inside it, to so many levels: itself, then each child with those inside it
abbrev pub from_instance : List (List Child) → ℕ → Instance → List Instance
from_instance children zero x = []
from_instance children (suc levels) x =
    x ∷ flat_map (λ c. from_instance children levels (inside x.name c)) (children_of children x.module_number)

-- the instance of a top, which has its module's name
abbrev pub top : Child → Instance
top c = record { module_number = c.module_number; file = c.file; token = c.token; name = c.name }

-- tops in turn, each with those inside it
abbrev pub from_tops : List (List Child) → ℕ → List Child → List Instance
from_tops children levels tops = flat_map (λ c. from_instance children levels (top c)) tops

-- an instance too many breaks rule 3 where its module is named
abbrev pub count_violations : Option Instance → List Violation
count_violations None = []
count_violations (Some x) = violation x.file x.token 3 ∷ []

-- the list has the instances, up to the first one too many, which is noted
pub record IsListed (made : List Instance) (most : ℕ) (found : Option Violation) (list : List Instance) (found' : Option Violation) : Type 0 where
  pub list_is : list ≡ take (most + 1) made
  pub found_are : found' ≡ noted found (count_violations (slice_get made most))

-- the same, unless memory ran out
abbrev pub Lists : List (List Child) → ℕ → List Child → ℕ → Option Violation → Result (List Instance) NoMemory → Option Violation → Type 0
Lists children levels tops most found (Ok list) found' = IsListed (from_tops children levels tops) most found list found'
Lists children levels tops most found (Err e) found' = Unit {0}

-- as many levels as instances that are listed are enough: more levels list the same ones, since an
-- instance so deep stands behind all those that it is inside of
abbrev pub LevelsSuffice : Type 0
LevelsSuffice =
    (children : List (List Child)) (tops : List Child) (most levels : ℕ) → most ≤ levels → take most (from_tops children most tops) ≡ take most (from_tops children levels tops)

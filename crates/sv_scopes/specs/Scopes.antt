-- The scopes of a design.
use Rattle.std.specs.Prelude.{◌≡◌, ℕ, IsSome, Option, Some, None, List, [], ◌∷◌, flat_map, slice_get}
use Rattle.sv_tree.specs.declared.items.SvFile.{SvFile}
use Rattle.sv_instances.specs.declared.preorder.Instance.{Instance}
use Rattle.sv_instances.specs.Modules.{modules_in}
use Rattle.sv_scopes.specs.declared.homes.Home.{Home}
use Rattle.sv_scopes.specs.declared.scopes.Scope.{Scope}
use Rattle.sv_scopes.specs.Instances.{instances}
use Rattle.sv_scopes.specs.Homes.{homes_in, module_at}

-- the full name of a scope
abbrev pub name_of : Scope → List ℕ
name_of s = s.name

-- where its module stands
abbrev pub home_of : Scope → Home
home_of s = s.home

-- the number that its module has over all files
abbrev pub module_number_of : Scope → ℕ
module_number_of s = s.module_number

-- an instance as a scope, whose module stands there
abbrev pub scope_at : Instance → Option Home → List Scope
scope_at i None = []
scope_at i (Some home) = record { name = i.name; home = home; module_number = i.module_number } ∷ []

-- the same, by where each module stands
abbrev pub instance_scopes : List Home → Instance → List Scope
instance_scopes homes i = scope_at i (slice_get homes i.module_number)

-- the scopes of instances, in order
abbrev pub scopes_of : List Home → List Instance → List Scope
scopes_of homes is = flat_map (instance_scopes homes) is

-- the scopes of a design: its instances in preorder, of which a design has no more than 1,000 levels
abbrev pub scopes_in : List SvFile → List Scope
scopes_in files = scopes_of (homes_in files) (instances 1001 (modules_in files))

-- the module of each scope is in the files
abbrev pub ModulesStand : Type 0
ModulesStand = (files : List SvFile) (number : ℕ) (s : Scope) → slice_get (scopes_in files) number ≡ Some s → IsSome (module_at files s.home)

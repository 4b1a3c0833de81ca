-- The variables of scopes.
use Rattle.std.specs.Prelude.{ℕ, ◌+◌, List, [], ◌∷◌, ◌++◌, map, slice_index_or}
use Rattle.sv_tree.specs.declared.items.SvFile.{SvFile}
use Rattle.sv_instances.specs.Modules.{InFile, modules_in}
use Rattle.sv_design.specs.declared.declarations.Declaration.{Declaration}
use Rattle.sv_design.specs.Items.{declarations_in}
use Rattle.sv_scopes.specs.declared.names.Named.{Named}
use Rattle.sv_scopes.specs.declared.scopes.Scope.{Scope}
use Rattle.sv_scopes.specs.declared.variables.Variable.{Variable}
use Rattle.sv_scopes.specs.Names.{numbers_in, module_names}
use Rattle.sv_scopes.specs.Scopes.{scopes_in}

-- a variable in the scope of this number
abbrev pub variable : ℕ → Named → Variable
variable scope v = record { scope = scope; declaration = v.declaration; name = v.name; kind = v.kind }

-- the variables of the module of this number
abbrev pub names_of : List (List Named) → ℕ → List Named
names_of table number = slice_index_or table number []

-- those of scopes, of which the first one here has this number, by the variables of each module
abbrev pub variables_from : List (List Named) → ℕ → List Scope → List Variable
variables_from table n [] = []
variables_from table n (s ∷ ss) = map (variable n) (names_of table s.module_number) ++ variables_from table (n + 1) ss

-- those of all scopes, where these are the modules and what they declare
abbrev pub variables_of : List InFile → List Declaration → List Scope → List Variable
variables_of ms ds ss = variables_from (map (module_names ds (numbers_in ds)) ms) 0 ss

-- the variables of a design: by scope, then in text order
abbrev pub variables_in : List SvFile → List Variable
variables_in files = variables_of (modules_in files) (declarations_in files) (scopes_in files)

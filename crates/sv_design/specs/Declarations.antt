-- Declarations of variables.
use Rattle.std.specs.Prelude.{ℕ, Bool, true, false, if◌then◌else◌, Option, Some, None, List, [], ◌∷◌, flat_map}
use Rattle.sv_tree.specs.declared.kinds.Lifetime.{Lifetime}
use Rattle.sv_tree.specs.declared.kinds.Lifetime.TheVariants as lifetimes
use Rattle.sv_tree.specs.declared.items.Life.{Life}
use Rattle.sv_tree.specs.declared.types.DataType.{DataType}
use Rattle.sv_tree.specs.declared.statements.Declarator.{Declarator}
use Rattle.sv_tree.specs.declared.statements.Variables.{Variables}
use Rattle.sv_tree.specs.declared.statements.Start.{Start}
use Rattle.sv_tree.specs.declared.statements.Start.TheVariants as starts
use Rattle.sv_shapes.specs.declared.kinds.VarKind.{VarKind}
use Rattle.sv_shapes.specs.Kinds.{var_kind}
use Rattle.sv_design.specs.declared.declarations.Declaration.{Declaration}
use Rattle.sv_design.specs.declared.declarations.Owner.{Owner}
use Rattle.sv_design.specs.declared.declarations.Owner.TheVariants.{Instance, Call, Loop}

abbrev pub is_automatic_by : Lifetime → Bool
is_automatic_by lifetimes.Automatic = true
is_automatic_by lifetimes.Static = false

-- a subroutine is static unless it is `automatic`
abbrev pub is_automatic : Option Life → Bool
is_automatic None = false
is_automatic (Some life) = is_automatic_by life.lifetime

-- the variables of an automatic one live with a call, others with the instance
abbrev pub owner_of : Option Life → Owner
owner_of life = if is_automatic life then Call else Instance

-- a name of this kind, at this token; one whose kind is refused is left out
abbrev pub declaration : ℕ → Owner → ℕ → Option VarKind → List Declaration
declaration file owner token None = []
declaration file owner token (Some kind) = record { file = file; token = token; kind = kind; owner = owner } ∷ []

-- a variable of this type
abbrev pub declarator_declarations : ℕ → Owner → DataType → Declarator → List Declaration
declarator_declarations file owner type d = declaration file owner d.name.token (var_kind type d.dimensions)

-- the variables of one type
abbrev pub variables_declarations : ℕ → Owner → Variables → List Declaration
variables_declarations file owner v = flat_map (declarator_declarations file owner v.kind) v.declarators

-- the variable that a `for` begins with, if it declares one
abbrev pub start_declarations : ℕ → Start → List Declaration
start_declarations file (starts.Declare type n k e) = declaration file Loop n.token (var_kind type [])
start_declarations file (starts.Assign l k e) = []

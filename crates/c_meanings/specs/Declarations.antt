-- Declarations of variables and parameters (ISO C 6.7).
use Rattle.std.specs.Prelude.{Bool, true, false, Option, Some, None, List, [], ◌∷◌, ◌++◌, map, flat_map}
use Rattle.c_tree.specs.declared.leaves.Name.{Name}
use Rattle.c_tree.specs.declared.types.CType.{CType as TypeTree}
use Rattle.c_tree.specs.declared.declarations.Size.{Size}
use Rattle.c_tree.specs.declared.declarations.Array.{Array}
use Rattle.c_tree.specs.declared.declarations.ParamArray.{ParamArray}
use Rattle.c_tree.specs.declared.declarations.Init.{Init}
use Rattle.c_tree.specs.declared.declarations.Init.TheVariants as inits
use Rattle.c_tree.specs.declared.declarations.Initializer.{Initializer}
use Rattle.c_tree.specs.declared.declarations.Declarator.{Declarator}
use Rattle.c_tree.specs.declared.declarations.Variables.{Variables}
use Rattle.c_tree.specs.declared.declarations.Param.{Param}
use Rattle.c_tree.specs.declared.declarations.Params.{Params}
use Rattle.c_tree.specs.declared.declarations.Params.TheVariants as params
use Rattle.c_names.specs.Names.{Names}
use Rattle.c_walk.specs.Around.{Around}
use Rattle.c_walk.specs.Declarations.{lasts, declarator_walk, param_walk}
use Rattle.c_facts.specs.declared.facts.CMeant.TheVariants as meanings
use Rattle.c_facts.specs.declared.facts.CFact.TheVariants as facts
use Rattle.c_meanings.specs.Places.{Facts, expr_at, exprs_at, size_at}
use Rattle.c_meanings.specs.Sight.{Tells, stays, brings, both, nothing, in_turn}

-- an object is told at its own name
abbrev pub declares : Name → Facts
declares n = facts.Name n.token (meanings.Object n.token) ∷ []

-- ---- sizes

-- of an array
abbrev pub array_facts : Around → List Names → Option Array → Facts
array_facts a names None = []
array_facts a names (Some x) = size_at a names x.size

abbrev pub maybe_size : Around → List Names → Option Size → Facts
maybe_size a names None = []
maybe_size a names (Some size) = size_at a names size

abbrev pub param_array_facts : Around → List Names → Option ParamArray → Facts
param_array_facts a names None = []
param_array_facts a names (Some x) = maybe_size a names x.size

-- ---- variables

-- a value, or several
abbrev pub init_facts : Around → List Names → Init → Facts
init_facts a names (inits.Value e) = expr_at a names e
init_facts a names (inits.List k es) = exprs_at a names es

-- what a variable begins with, if anything
abbrev pub initializer_facts : Around → List Names → Option Initializer → Facts
initializer_facts a names None = []
initializer_facts a names (Some i) = init_facts a names i.value

-- a variable up to the end of its declarator: its name, and its size, in which it isn't in sight
abbrev pub declarator_facts : Around → List Names → Declarator → Facts
declarator_facts a names d = declares d.name ++ array_facts a names d.array

-- a variable: its name is in sight in its own initialiser
abbrev pub declarator_tells : Around → Bool → TypeTree → Declarator → Tells
declarator_tells a lasts tree d =
    both (both (stays (λ names. declarator_facts a names d)) (brings (declarator_walk a lasts tree d))) (stays (λ names. initializer_facts a names d.initializer))

-- variables of one type, at file scope or elsewhere
abbrev pub variables_tell : Around → Bool → Variables → Tells
variables_tell a at_file v = in_turn (map (declarator_tells a (lasts at_file v.store) v.kind) v.declarators)

-- ---- parameters

-- the name of a parameter is an object only where the function has a body
abbrev pub param_name_facts : Bool → Option Name → Facts
param_name_facts has_body None = []
param_name_facts true (Some n) = declares n
param_name_facts false (Some n) = []

-- a parameter: its name, if it is told, and its size
abbrev pub param_facts : Around → Bool → List Names → Param → Facts
param_facts a has_body names p = param_name_facts has_body p.name ++ param_array_facts a names p.array

abbrev pub param_tells : Around → Bool → Param → Tells
param_tells a has_body p = both (stays (λ names. param_facts a has_body names p)) (brings (param_walk a p))

abbrev pub params_tell : Around → Bool → Params → Tells
params_tell a has_body (params.Void k) = nothing
params_tell a has_body (params.List ps) = in_turn (map (param_tells a has_body) ps)

-- The types of functions, and what they break (ISO C 6.7.6.3).
use Rattle.std.specs.Prelude.{ℕ, false, Option, option_map, List, [], ◌∷◌, ◌++◌, map, flat_map}
use Rattle.dpi_rules.specs.declared.violation.Violation.{Violation}
use Rattle.c_base.specs.declared.ctype.CType.{CType}
use Rattle.c_tree.specs.declared.declarations.Params.{Params}
use Rattle.c_tree.specs.declared.declarations.Params.TheVariants as params
use Rattle.c_tree.specs.declared.file.Function.{Function}
use Rattle.c_tree.specs.declared.file.External.{External}
use Rattle.c_tree.specs.declared.file.External.TheVariants as externals
use Rattle.c_tree.specs.declared.file.CFile.{CFile}
use Rattle.c_typing.specs.declared.written.Declared.{Declared}
use Rattle.c_typing.specs.Judged.{rule_at}
use Rattle.c_typing.specs.Pointers.{bare}
use Rattle.c_typing.specs.Written.{declared_of, star_rule}
use Rattle.c_library.specs.Reserved.{name_violations}
use Rattle.c_functions.specs.declared.types.FunctionType.{FunctionType}
use Rattle.c_functions.specs.Params.{place, param_type, param_violations}

-- the result, without const of its own
abbrev pub result_type : Function → Option CType
result_type f = option_map (λ (d : Declared). bare d.of) (declared_of f.kind f.stars)

-- `void` alone is no parameter
abbrev pub param_types : Params → List (Option CType)
param_types (params.Void k) = []
param_types (params.List ps) = map param_type ps

abbrev pub function_type : Function → FunctionType
function_type f = record { result = result_type f; params = param_types f.params }

abbrev pub params_violations : ℕ → Params → List Violation
params_violations file (params.Void k) = []
params_violations file (params.List ps) = flat_map (param_violations file) ps

-- what the types of a function break: rule 22 at its name, rule 21, and what its parameters break
abbrev pub type_violations : ℕ → Function → List Violation
type_violations file f =
    rule_at (place file f.name.token) (star_rule f.stars false)
    ++ name_violations file f.name.token f.name.bytes
    ++ params_violations file f.params

abbrev pub external_types : External → List FunctionType
external_types (externals.Define d) = []
external_types (externals.Function f) = function_type f ∷ []
external_types (externals.Variables v) = []

-- the types of the functions of a file, prototypes too, in text order
abbrev pub function_types : CFile → List FunctionType
function_types f = flat_map external_types f.externals

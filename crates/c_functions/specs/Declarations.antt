-- The declarations of functions in files (ISO C 6.2.2 and 6.9.1).
use Rattle.std.specs.Prelude.{ℕ, ◌+◌, Bool, true, false, ◌&&◌, is_some, if◌then◌else◌, Option, Some, None, List, [], ◌∷◌, flat_map}
use Rattle.std.specs.List.{list_any}
use Rattle.std.specs.BTreeMap.{get_by}
use Rattle.std.specs.Cmp.Lexicographic.{slice_cmp}
use Rattle.std.specs.Ordering.{nat_cmp}
use Rattle.std.specs.Str.{bytes_eq}
use Rattle.c_tree.specs.declared.declarations.StoreKind.{StoreKind}
use Rattle.c_tree.specs.declared.declarations.StoreKind.TheVariants as stores
use Rattle.c_tree.specs.declared.declarations.Store.{Store}
use Rattle.c_tree.specs.declared.file.Body.{Body}
use Rattle.c_tree.specs.declared.file.Body.TheVariants as bodies
use Rattle.c_tree.specs.declared.file.Function.{Function}
use Rattle.c_tree.specs.declared.file.External.{External}
use Rattle.c_tree.specs.declared.file.External.TheVariants as externals
use Rattle.c_tree.specs.declared.file.CFile.{CFile}
use Rattle.c_functions.specs.declared.types.FunctionType.{FunctionType}
use Rattle.c_functions.specs.declared.declarations.Declaration.{Declaration}
use Rattle.c_functions.specs.declared.statics.Statics.{Statics}
use Rattle.c_functions.specs.Same.{is_known}
use Rattle.c_functions.specs.Types.{function_type}

-- a declaration of a function: the place of its name, its type where no part of it is refused, whether
-- the function is static in this file, and whether its body stands here
pub record Known : Type 0 where
  pub file : ℕ
  pub token : ℕ
  pub name : List ℕ
  pub of : Option FunctionType
  pub is_static : Bool
  pub has_body : Bool

abbrev pub is_static_kind : StoreKind → Bool
is_static_kind stores.Static = true
is_static_kind stores.Extern = false

abbrev pub is_static : Option Store → Bool
is_static None = false
is_static (Some store) = is_static_kind store.kind

-- a static declaration of a function of this name
abbrev pub is_static_of : List ℕ → External → Bool
is_static_of name (externals.Define d) = false
is_static_of name (externals.Function f) = is_static f.store && bytes_eq f.name.bytes name
is_static_of name (externals.Variables v) = false

-- the names of functions of which one declaration here is static
abbrev pub statics_in : List External → List ℕ → Bool
statics_in es name = list_any (is_static_of name) es

-- what the code keeps of them
abbrev pub has : Statics → List ℕ → Bool
has statics name = is_some (get_by (λ k. slice_cmp nat_cmp name k.now) statics.names)

abbrev pub has_body : Body → Bool
has_body (bodies.Prototype k) = false
has_body (bodies.Block b) = true

-- the type of a function, where no part of it is refused
abbrev pub type_where : Bool → Function → Option FunctionType
type_where known f = if known then Some (function_type f) else None

abbrev pub known_type : Function → Option FunctionType
known_type f = type_where (is_known (function_type f)) f

abbrev pub function_known : ℕ → (List ℕ → Bool) → Function → Known
function_known file statics f =
    record { file = file; token = f.name.token; name = f.name.bytes; of = known_type f; is_static = statics f.name.bytes; has_body = has_body f.body }

abbrev pub external_known : ℕ → (List ℕ → Bool) → External → List Known
external_known file statics (externals.Define d) = []
external_known file statics (externals.Function f) = function_known file statics f ∷ []
external_known file statics (externals.Variables v) = []

-- the declarations of functions in a file of this number, in text order
abbrev pub known_in : ℕ → CFile → List Known
known_in file f = flat_map (external_known file (statics_in f.externals)) f.externals

-- those of each file, where the first file here has this number
abbrev pub known_from : ℕ → List CFile → List (List Known)
known_from n [] = []
known_from n (f ∷ fs) = known_in n f ∷ known_from (n + 1) fs

-- those of each file
abbrev pub known_of : List CFile → List (List Known)
known_of files = known_from 0 files

-- what the code keeps of a declaration
abbrev pub told : Declaration → Known
told d =
    let f : Function = d.function.now in
    record { file = d.file; token = f.name.token; name = f.name.bytes; of = type_where d.is_known f; is_static = d.is_static; has_body = has_body f.body }

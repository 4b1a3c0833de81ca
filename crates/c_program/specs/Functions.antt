-- The functions of a program (ISO C 6.2.2 and 6.9.1).
use Rattle.std.specs.Prelude.{ℕ, Bool, true, false, not, ◌&&◌, ◌||◌, is_some, if◌then◌else◌, Option, Some, None, List, [], ◌∷◌, ◌++◌, flat_map}
use Rattle.std.specs.List.{list_any}
use Rattle.std.specs.BTreeMap.{get_by}
use Rattle.std.specs.Cmp.Lexicographic.{slice_cmp}
use Rattle.std.specs.Ordering.{nat_cmp}
use Rattle.std.specs.Str.{bytes_eq}
use Rattle.c_base.specs.declared.ctype.CType.{CType}
use Rattle.c_tree.specs.declared.file.CFile.{CFile}
use Rattle.c_typing.specs.Pointers.{agree}
use Rattle.c_functions.specs.declared.types.FunctionType.{FunctionType}
use Rattle.c_functions.specs.Declarations.{Known, known_of}
use Rattle.c_program.specs.declared.names.NameSet.{NameSet}
use Rattle.c_program.specs.declared.names.FunctionNames.{FunctionNames}
use Rattle.c_program.specs.declared.functions.CFunction.{CFunction}

-- ---- names

-- which names are there
abbrev pub Names : Type 0
Names = List ℕ → Bool

abbrev pub no_names : Names
no_names q = false

abbrev pub with_name : Names → List ℕ → Names
with_name names name q = names q || bytes_eq name q

-- names of functions: of those that all files share, and of a file's own ones
pub record Named : Type 0 where
  pub shared : Names
  pub own : Names

-- whether the name of a declared function is there
abbrev pub is_named : Named → Known → Bool
is_named names d = if d.is_static then names.own d.name else names.shared d.name

abbrev pub with_declaration : Named → Known → Named
with_declaration names d =
    if d.is_static
    then record { shared = names.shared; own = with_name names.own d.name }
    else record { shared = with_name names.shared d.name; own = names.own }

-- the names behind declarations
abbrev pub named_behind : Named → List Known → Named
named_behind names [] = names
named_behind names (d ∷ ds) = named_behind (with_declaration names d) ds

-- in a file that has these names of its own
abbrev pub opened : Names → Names → Named
opened shared own = record { shared = shared; own = own }

-- the shared names behind the declarations of a file
abbrev pub shared_behind : Names → List Known → Names
shared_behind names ds = (named_behind (opened names no_names) ds).shared

-- ---- bodies

-- a body of the function of this name: of a file's own one, or of one that all files share
abbrev pub is_body : Bool → List ℕ → Known → Bool
is_body static name d = d.has_body && agree d.is_static static && bytes_eq d.name name

-- the names of a file's own functions that have a body
abbrev pub own_bodies : List Known → Names
own_bodies ds name = list_any (is_body true name) ds

-- the names of the shared functions that have a body in one of the files
abbrev pub shared_bodies : List (List Known) → Names
shared_bodies files name = list_any (λ ds. list_any (is_body false name) ds) files

-- ---- functions

abbrev pub listed : Option CType → List CType
listed None = []
listed (Some t) = t ∷ []

abbrev pub known_types : List (Option CType) → List CType
known_types = flat_map listed

abbrev pub typed_function : Known → FunctionType → Option CType → List CFunction
typed_function d t None = []
typed_function d t (Some result) =
    record { file = d.file; token = d.token; name = d.name; result = result; params = known_types t.params; has_body = d.has_body } ∷ []

abbrev pub function_by : Known → Option FunctionType → List CFunction
function_by d None = []
function_by d (Some t) = typed_function d t t.result

-- the function that is declared, where no part of its type is refused
abbrev pub function_of : Known → List CFunction
function_of d = function_by d d.of

-- a function stands at its body; without one at its first prototype
abbrev pub stands : Named → Named → Known → Bool
stands bodies before d = d.has_body || not (is_named bodies d || is_named before d)

abbrev pub functions_at : Named → Named → Known → List CFunction
functions_at bodies before d = if stands bodies before d then function_of d else []

-- the functions that stand at these declarations, where those names are declared before
abbrev pub functions_behind : Named → Named → List Known → List CFunction
functions_behind bodies before [] = []
functions_behind bodies before (d ∷ ds) = functions_at bodies before d ++ functions_behind bodies (with_declaration before d) ds

-- the functions that stand in a file, where those shared ones have a body, and those are declared before
abbrev pub functions_in : Names → Names → List Known → List CFunction
functions_in bodies before ds = functions_behind (opened bodies (own_bodies ds)) (opened before no_names) ds

-- those of files in turn
abbrev pub functions_from : Names → Names → List (List Known) → List CFunction
functions_from bodies before [] = []
functions_from bodies before (ds ∷ files) = functions_in bodies before ds ++ functions_from bodies (shared_behind before ds) files

abbrev pub functions_among : List (List Known) → List CFunction
functions_among files = functions_from (shared_bodies files) no_names files

-- the functions of a program
abbrev pub functions_of : List CFile → List CFunction
functions_of files = functions_among (known_of files)

-- ---- what the code keeps

abbrev pub has : NameSet → Names
has set q = is_some (get_by (λ k. slice_cmp nat_cmp q k.now) set.names)

abbrev pub named : FunctionNames → Named
named names = record { shared = has names.shared; own = has names.own }

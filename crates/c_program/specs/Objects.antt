-- The objects of a program (ISO C 6.2.4, 6.7 and 6.9.2).
use Rattle.std.specs.Prelude.{ℕ, ◌+◌, not, Option, Some, None, List, [], ◌∷◌, ◌++◌, flat_map}
use Rattle.c_tree.specs.declared.types.CType.{CType as TypeTree}
use Rattle.c_tree.specs.declared.leaves.Name.{Name}
use Rattle.c_tree.specs.declared.declarations.StoreKind.{StoreKind}
use Rattle.c_tree.specs.declared.declarations.StoreKind.TheVariants as stores
use Rattle.c_tree.specs.declared.declarations.Store.{Store}
use Rattle.c_tree.specs.declared.declarations.Declarator.{Declarator}
use Rattle.c_tree.specs.declared.declarations.Variables.{Variables}
use Rattle.c_tree.specs.declared.declarations.Param.{Param}
use Rattle.c_tree.specs.declared.declarations.Params.{Params}
use Rattle.c_tree.specs.declared.declarations.Params.TheVariants as params
use Rattle.c_tree.specs.declared.file.Body.{Body}
use Rattle.c_tree.specs.declared.file.Body.TheVariants as bodies
use Rattle.c_tree.specs.declared.file.External.{External}
use Rattle.c_tree.specs.declared.file.External.TheVariants as externals
use Rattle.c_tree.specs.declared.file.CFile.{CFile}
use Rattle.c_typing.specs.declared.written.Declared.{Declared}
use Rattle.c_typing.specs.Written.{declared_of}
use Rattle.c_functions.specs.Params.{written}
use Rattle.c_functions.specs.Objects.{Names, no_names, names_behind}
use Rattle.c_program.specs.declared.objects.Life.{Life}
use Rattle.c_program.specs.declared.objects.Life.TheVariants as lives
use Rattle.c_program.specs.declared.objects.CObject.{CObject}
use Rattle.c_program.specs.Inside.{in_block}
use Rattle.c_program.specs.Sizes.{array_cells}

-- ---- how long objects live

-- at file scope, unless it is `extern`
abbrev pub outer_kind : StoreKind → Option Life
outer_kind stores.Static = Some lives.File
outer_kind stores.Extern = None

abbrev pub outer_life : Option Store → Option Life
outer_life None = Some lives.File
outer_life (Some s) = outer_kind s.kind

-- in a function: `static` or not, unless it is `extern`
abbrev pub inner_kind : StoreKind → Option Life
inner_kind stores.Static = Some lives.Static
inner_kind stores.Extern = None

abbrev pub inner_life : Option Store → Option Life
inner_life None = Some lives.Local
inner_life (Some s) = inner_kind s.kind

-- ---- objects

-- the object of a name, of that many cells
abbrev pub object : ℕ → Name → Life → Declared → ℕ → CObject
object file name life d cells =
    record { file = file; token = name.token; kind = d.of; cells = cells; writable = not d.constant; life = life }

-- where its type and its size aren't refused
abbrev pub sized_object : ℕ → Name → Life → Declared → Option ℕ → List CObject
sized_object file name life d None = []
sized_object file name life d (Some cells) = object file name life d cells ∷ []

abbrev pub typed_object : ℕ → Name → Life → Option Declared → Option ℕ → List CObject
typed_object file name life None cells = []
typed_object file name life (Some d) cells = sized_object file name life d cells

-- what a declarator defines, where these defines stand before
abbrev pub declarator_objects : ℕ → Names → Life → TypeTree → Declarator → List CObject
declarator_objects file names life kind d =
    typed_object file d.name life (declared_of kind d.stars) (array_cells names d.array)

abbrev pub living_objects : ℕ → Names → Variables → Option Life → List CObject
living_objects file names v None = []
living_objects file names v (Some life) = flat_map (declarator_objects file names life v.kind) v.declarators

-- what a declaration of variables defines at file scope, and in a function
abbrev pub outer_objects : ℕ → Names → Variables → List CObject
outer_objects file names v = living_objects file names v (outer_life v.store)

abbrev pub inner_objects : ℕ → Names → Variables → List CObject
inner_objects file names v = living_objects file names v (inner_life v.store)

-- ---- parameters

-- a parameter with a name; one that is written as an array is a pointer
abbrev pub named_param : ℕ → Option Declared → Option Name → List CObject
named_param file d None = []
named_param file d (Some n) = typed_object file n lives.Parameter d (Some 1)

abbrev pub param_objects : ℕ → Param → List CObject
param_objects file p = named_param file (written p) p.name

abbrev pub params_objects : ℕ → Params → List CObject
params_objects file (params.Void k) = []
params_objects file (params.List ps) = flat_map (param_objects file) ps

-- ---- files

-- a function with a body: its parameters, and what is declared inside
abbrev pub function_objects : ℕ → Names → Params → Body → List CObject
function_objects file names ps (bodies.Prototype k) = []
function_objects file names ps (bodies.Block b) = params_objects file ps ++ flat_map (inner_objects file names) (in_block b)

abbrev pub external_objects : ℕ → Names → External → List CObject
external_objects file names (externals.Define d) = []
external_objects file names (externals.Function f) = function_objects file names f.params f.body
external_objects file names (externals.Variables v) = outer_objects file names v

-- the objects of external declarations, where these defines stand before
abbrev pub objects_behind : ℕ → Names → List External → List CObject
objects_behind file names [] = []
objects_behind file names (e ∷ es) = external_objects file names e ++ objects_behind file (names_behind names e) es

-- those of files, where the first one here has this number
abbrev pub objects_from : ℕ → List CFile → List CObject
objects_from n [] = []
objects_from n (f ∷ fs) = objects_behind n no_names f.externals ++ objects_from (n + 1) fs

-- the objects of a program
abbrev pub objects_of : List CFile → List CObject
objects_of files = objects_from 0 files

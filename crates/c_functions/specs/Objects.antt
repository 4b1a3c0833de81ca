-- The objects that files share: definitions at file scope without `static`, and `extern` declarations anywhere (ISO C 6.2.2 and 6.9.2).
use Rattle.std.specs.Prelude.{ℕ, ◌+◌, ◌/◌, nat_le, pos, Bool, true, false, if◌then◌else◌, Option, Some, None, List, [], ◌∷◌, ◌++◌, map, flat_map}
use Rattle.std.specs.Option.{option_copied}
use Rattle.std.specs.BTreeMap.{get_by}
use Rattle.std.specs.Cmp.Lexicographic.{slice_cmp}
use Rattle.std.specs.Ordering.{nat_cmp}
use Rattle.dpi_lex.specs.Define.{define_name}
use Rattle.dpi_literal.specs.declared.c_constants.CConstant.{CConstant}
use Rattle.dpi_literal.specs.Constants.{number_value, define_value}
use Rattle.c_base.specs.declared.base.CBase.TheVariants as bases
use Rattle.c_tree.specs.declared.types.CType.{CType as TypeTree}
use Rattle.c_tree.specs.declared.leaves.Name.{Name}
use Rattle.c_tree.specs.declared.leaves.Define.{Define}
use Rattle.c_tree.specs.declared.declarations.StoreKind.{StoreKind}
use Rattle.c_tree.specs.declared.declarations.StoreKind.TheVariants as stores
use Rattle.c_tree.specs.declared.declarations.Store.{Store}
use Rattle.c_tree.specs.declared.declarations.Size.{Size}
use Rattle.c_tree.specs.declared.declarations.Size.TheVariants as sizes
use Rattle.c_tree.specs.declared.declarations.Array.{Array}
use Rattle.c_tree.specs.declared.declarations.Declarator.{Declarator}
use Rattle.c_tree.specs.declared.declarations.Variables.{Variables}
use Rattle.c_tree.specs.declared.file.Body.{Body}
use Rattle.c_tree.specs.declared.file.Body.TheVariants as bodies
use Rattle.c_tree.specs.declared.file.External.{External}
use Rattle.c_tree.specs.declared.file.External.TheVariants as externals
use Rattle.c_tree.specs.declared.file.CFile.{CFile}
use Rattle.c_typing.specs.declared.written.Declared.{Declared}
use Rattle.c_typing.specs.Pointers.{is_base}
use Rattle.c_typing.specs.Written.{declared_of, cells_of}
use Rattle.c_library.specs.Reserved.{is_word_count, scalar_named}
use Rattle.c_functions.specs.declared.sizes.ObjectType.{ObjectType}
use Rattle.c_functions.specs.declared.defines.Defines.{Defines}
use Rattle.c_functions.specs.declared.objects.Object.{Object}
use Rattle.c_functions.specs.Again.{added}
use Rattle.c_functions.specs.Inner.{in_block}

-- ---- defines

-- each name with its define, if it has one
abbrev pub Names : Type 0
Names = List ℕ → Option Define

abbrev pub no_names : Names
no_names name = None

-- one more define, which counts unless the name has one already
abbrev pub with_define : Names → Define → Names
with_define names d = added names (define_name d.bytes) d

-- what the code keeps of them
abbrev pub names_of : Defines → Names
names_of defines name = option_copied (get_by (λ k. slice_cmp nat_cmp name k.now) defines.names)

-- ---- types and sizes

abbrev pub constant_cells : CConstant → Option ℕ
constant_cells c = cells_of c.value

abbrev pub define_cells : Define → Option ℕ
define_cells d = constant_cells (define_value d.bytes)

-- a constant of svdpi.h
abbrev pub scalar_cells : Option ℕ → Option ℕ
scalar_cells None = None
scalar_cells (Some v) = cells_of (pos v)

-- a name: a define before it in its file, else a constant of svdpi.h
abbrev pub named_cells : Name → Option Define → Option ℕ
named_cells n None = scalar_cells (scalar_named n.bytes)
named_cells n (Some d) = define_cells d

-- the cells of an array: by a number, by a name, or by the words of a vector; None where that is no size from 1 to 65,536
abbrev pub size_cells : Names → Size → Option ℕ
size_cells names (sizes.Number n) = cells_of (pos (number_value n.bytes))
size_cells names (sizes.Name n) = named_cells n (names n.bytes)
size_cells names (sizes.Call n k w) = if is_word_count n.bytes then cells_of (pos ((number_value w.bytes + 31) / 32)) else None

abbrev pub typed : Declared → Option ℕ → ObjectType
typed d cells = record { of = d.of; constant = d.constant; cells = cells }

-- an object without array, which isn't void
abbrev pub single : Declared → Option ObjectType
single d = if is_base bases.Void d.of then None else Some (typed d None)

-- an array of so many cells, which aren't void and have at most one star
abbrev pub array_of : Declared → Option ℕ → Option ObjectType
array_of d None = None
array_of d (Some n) = if is_base bases.Void d.of then None else (if nat_le d.of.stars 1 then Some (typed d (Some n)) else None)

abbrev pub typed_as : Names → Declared → Option Array → Option ObjectType
typed_as names d None = single d
typed_as names d (Some a) = array_of d (size_cells names a.size)

abbrev pub typed_by : Names → Option Declared → Option Array → Option ObjectType
typed_by names None array = None
typed_by names (Some d) array = typed_as names d array

-- the type and size of an object; None where a part of it is refused
abbrev pub object_type : Names → TypeTree → Declarator → Option ObjectType
object_type names kind d = typed_by names (declared_of kind d.stars) d.array

-- ---- objects

-- a definition or an `extern` declaration: the place of its name, its type, and which of both it is
pub record Shared : Type 0 where
  pub file : ℕ
  pub token : ℕ
  pub name : List ℕ
  pub of : Option ObjectType
  pub is_extern : Bool

-- what the code keeps of it
abbrev pub told : Object → Shared
told o =
    let n : Name = o.name.now in
    record { file = o.file; token = n.token; name = n.bytes; of = o.of; is_extern = o.is_extern }

abbrev pub declared_object : ℕ → Names → Bool → TypeTree → Declarator → Shared
declared_object file names extern kind d =
    record { file = file; token = d.name.token; name = d.name.bytes; of = object_type names kind d; is_extern = extern }

abbrev pub variables_objects : ℕ → Names → Bool → Variables → List Shared
variables_objects file names extern v = map (declared_object file names extern v.kind) v.declarators

abbrev pub stored_objects : ℕ → Names → Variables → StoreKind → List Shared
stored_objects file names v stores.Static = []
stored_objects file names v stores.Extern = variables_objects file names true v

-- at file scope
abbrev pub outer_objects : ℕ → Names → Variables → Option Store → List Shared
outer_objects file names v None = variables_objects file names false v
outer_objects file names v (Some s) = stored_objects file names v s.kind

-- in the body of a function
abbrev pub body_objects : ℕ → Names → Body → List Shared
body_objects file names (bodies.Prototype k) = []
body_objects file names (bodies.Block b) = flat_map (variables_objects file names true) (in_block b)

abbrev pub external_objects : ℕ → Names → External → List Shared
external_objects file names (externals.Define d) = []
external_objects file names (externals.Function f) = body_objects file names f.body
external_objects file names (externals.Variables v) = outer_objects file names v v.store

-- the defines behind an external declaration
abbrev pub names_behind : Names → External → Names
names_behind names (externals.Define d) = with_define names d
names_behind names (externals.Function f) = names
names_behind names (externals.Variables v) = names

-- the objects of external declarations, where these defines stand before
abbrev pub objects_behind : ℕ → Names → List External → List Shared
objects_behind file names [] = []
objects_behind file names (e ∷ es) = external_objects file names e ++ objects_behind file (names_behind names e) es

-- the objects of a file of this number, in text order
abbrev pub objects_in : ℕ → CFile → List Shared
objects_in file f = objects_behind file no_names f.externals

-- those of files, where the first one here has this number
abbrev pub objects_from : ℕ → List CFile → List Shared
objects_from n [] = []
objects_from n (f ∷ fs) = objects_in n f ++ objects_from (n + 1) fs

-- those of all files
abbrev pub objects_of : List CFile → List Shared
objects_of files = objects_from 0 files

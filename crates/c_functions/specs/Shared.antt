-- Rule 24, on the objects that files share (ISO C 6.2.7, paragraph 2, and 6.9, paragraph 5).
use Rattle.std.specs.Prelude.{◌≡◌, ℕ, nat_lt, Bool, true, false, not, ◌==◌, ◌&&◌, ◌||◌, is_some, is_none, if◌then◌else◌, Option, Some, None, List, [], ◌∷◌, filter, flat_map}
use Rattle.std.specs.List.{list_any}
use Rattle.std.specs.Option.{option_or}
use Rattle.std.specs.BTreeMap.{get_by}
use Rattle.std.specs.Cmp.Lexicographic.{slice_cmp}
use Rattle.std.specs.Ordering.{nat_cmp}
use Rattle.std.specs.Str.{bytes_eq}
use Rattle.dpi_rules.specs.declared.violation.Violation.{Violation}
use Rattle.c_tree.specs.declared.file.CFile.{CFile}
use Rattle.c_typing.specs.Judged.{unless, rule_at}
use Rattle.c_typing.specs.Pointers.{agree}
use Rattle.c_functions.specs.declared.sizes.ObjectType.{ObjectType}
use Rattle.c_functions.specs.declared.definitions.Defined.{Defined}
use Rattle.c_functions.specs.declared.definitions.Definitions.{Definitions}
use Rattle.c_functions.specs.Params.{place}
use Rattle.c_functions.specs.Same.{same_type}
use Rattle.c_functions.specs.Objects.{Shared, objects_of}

-- ---- types

-- as many cells, or no array both times
abbrev pub same_cells : Option ℕ → Option ℕ → Bool
same_cells None None = true
same_cells None (Some n) = false
same_cells (Some m) None = false
same_cells (Some m) (Some n) = m == n

-- the same type, with the const of the object itself, and the same size
abbrev pub same_object : ObjectType → ObjectType → Bool
same_object s t = same_type s.of t.of && (agree s.constant t.constant && same_cells s.cells t.cells)

-- both are known, and others
abbrev pub differ : Option ObjectType → Option ObjectType → Bool
differ None t = false
differ (Some s) None = false
differ (Some s) (Some t) = not (same_object s t)

-- ---- what is broken

abbrev pub is_empty : {A : Type 0} → List A → Bool
is_empty [] = true
is_empty (x ∷ xs) = false

abbrev pub defines : List ℕ → Shared → Bool
defines name o = not o.is_extern && bytes_eq o.name name

-- the definitions of a name
abbrev pub definitions : List Shared → List ℕ → List Shared
definitions os name = filter (defines name) os

-- an `extern` declaration of what has no definition, or one of another type
abbrev pub extern_breaks : List Shared → Option ObjectType → Bool
extern_breaks ds of = is_empty ds || list_any (λ (d : Shared). differ d.of of) ds

-- a definition of what has one in an earlier file
abbrev pub definition_breaks : List Shared → ℕ → Bool
definition_breaks ds file = list_any (λ (d : Shared). nat_lt d.file file) ds

-- an object that the definitions of its name break the rule for
abbrev pub breaks : List Shared → Shared → Bool
breaks ds o = if o.is_extern then extern_breaks ds o.of else definition_breaks ds o.file

-- rule 24 at the name
abbrev pub name_violations : Bool → Shared → List Violation
name_violations broken o = rule_at (place o.file o.token) (unless (not broken) 24)

abbrev pub object_violations : List Shared → Shared → List Violation
object_violations os o = name_violations (breaks (definitions os o.name) o) o

-- what the objects of all files break
abbrev pub shared_violations : List CFile → List Violation
shared_violations files = flat_map (object_violations (objects_of files)) (objects_of files)

-- ---- what the code keeps of the definitions of a name

abbrev pub extern_by : Option Defined → Option ObjectType → Bool
extern_by None of = true
extern_by (Some d) of = differ d.of of || (is_some of && d.is_mixed)

abbrev pub definition_by : Option Defined → ℕ → Bool
definition_by None file = false
definition_by (Some d) file = nat_lt d.file file

abbrev pub breaks_by : Option Defined → Shared → Bool
breaks_by d o = if o.is_extern then extern_by d o.of else definition_by d o.file

-- rule 24 by what is kept of each name
abbrev pub violations_by : (List ℕ → Option Defined) → Shared → List Violation
violations_by kept o = name_violations (breaks_by (kept o.name) o) o

-- one more definition
abbrev pub with_one : Option Defined → Shared → Defined
with_one None o = record { file = o.file; of = o.of; is_mixed = false }
with_one (Some d) o = record { file = if nat_lt o.file d.file then o.file else d.file; of = option_or d.of o.of; is_mixed = d.is_mixed || differ o.of d.of }

-- the definitions of each name
abbrev pub kept_of : Definitions → List ℕ → Option Defined
kept_of kept name = get_by (λ k. slice_cmp nat_cmp name k.now) kept.names

-- without a known type there are no two
abbrev pub IsUnmixed : Option Defined → Type 0
IsUnmixed None = Unit {0}
IsUnmixed (Some d) = d.of ≡ None → d.is_mixed ≡ false

-- what is kept tells what these definitions break
pub record Says (kept : Option Defined) (ds : List Shared) : Type 0 where
  pub none_is : is_none kept ≡ is_empty ds
  pub extern_is : (of : Option ObjectType) → extern_by kept of ≡ extern_breaks ds of
  pub definition_is : (file : ℕ) → definition_by kept file ≡ definition_breaks ds file
  pub unmixed : IsUnmixed kept

-- the same of each name
abbrev pub Keeps : Definitions → List Shared → Type 0
Keeps kept os = (name : List ℕ) → Says (kept_of kept name) (definitions os name)

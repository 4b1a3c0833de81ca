-- Functions of files that break no rule of C have a type.
use Rattle.std.proofs.Common.{◌≡◌, ℕ, suc, ◌+◌, Bool, true, false, Option, Some, None, List, [], ◌∷◌, ◌++◌, length, map, refl, sym, ap, ◌∙◌, arith}
use Rattle.std.specs.Prelude.{ℤ, not, ◌&&◌, ◌||◌, nat_le, is_some, flat_map, option_map, if◌then◌else◌}
use Rattle.std.specs.List.{list_all, list_any}
use Rattle.std.proofs.lemmas.Bool.Decides.{nat_tests}
use Rattle.std.proofs.lemmas.List.Folds.{list_all-append}
use Rattle.c_base.specs.declared.base.CBase.TheVariants as bases
use Rattle.c_base.specs.declared.ctype.CType.{CType}
use Rattle.c_tree.specs.declared.leaves.Name.{Name}
use Rattle.c_tree.specs.declared.types.CType.{CType as TypeTree}
use Rattle.c_tree.specs.declared.types.Star.{Star}
use Rattle.c_tree.specs.declared.declarations.Param.{Param}
use Rattle.c_tree.specs.declared.declarations.Params.{Params}
use Rattle.c_tree.specs.declared.declarations.Params.TheVariants as params
use Rattle.c_tree.specs.declared.file.Function.{Function}
use Rattle.c_tree.specs.declared.file.External.{External}
use Rattle.c_tree.specs.declared.file.External.TheVariants as externals
use Rattle.c_tree.specs.declared.file.CFile.{CFile}
use Rattle.c_typing.specs.declared.place.Place.{Place}
use Rattle.c_typing.specs.declared.written.Declared.{Declared}
use Rattle.c_typing.specs.Judged.{unless, rule_at}
use Rattle.c_typing.specs.Pointers.{bare, is_base}
use Rattle.c_typing.specs.Written.{declared_of, star_rule, void_rule}
use Rattle.c_library.specs.Reserved.{name_violations}
use Rattle.c_forms.specs.Files as forms
use Rattle.c_functions.specs.declared.types.FunctionType.{FunctionType}
use Rattle.c_functions.specs.Params.{place, place_token, adjusted_by, written, type_by, param_type, void_violations, array_violations, reserved_violations, param_violations}
use Rattle.c_functions.specs.Types.{result_type, param_types, function_type, function_types, params_violations, type_violations}
use Rattle.c_functions.specs.Declarations.{Known, type_where, statics_in, function_known, external_known, known_in, known_from, known_of}
use Rattle.c_functions.specs.Again.{function_violations}
use Rattle.c_functions.specs.Shared.{shared_violations}
use Rattle.c_walk.specs.File as walk
use Rattle.c_program.specs.declared.functions.CFunction.{CFunction}
use Rattle.c_program.specs.Functions.{typed_function, function_by, function_of}
use Rattle.c_check.specs.Check.{written_violations, file_violations, files_from, violations}
use Rattle.dpi_table.specs.Files.{is_place}

-- ---- tests and lists

pub left_none : {A : Type 0} (xs ys : List A) → xs ++ ys ≡ [] → xs ≡ []
left_none [] ys h = refl
left_none (x ∷ xs) ys h = absurd (cc)

pub right_none : {A : Type 0} (xs ys : List A) → xs ++ ys ≡ [] → ys ≡ []
right_none [] ys h = h
right_none (x ∷ xs) ys h = absurd (cc)

pub both : (a b : Bool) → a ≡ true → b ≡ true → (a && b) ≡ true
both true b h k = k
both false b h k = absurd (cc)

pub first_of_both : (a b : Bool) → (a && b) ≡ true → a ≡ true
first_of_both true b h = refl
first_of_both false b h = absurd (cc)

pub second_of_both : (a b : Bool) → (a && b) ≡ true → b ≡ true
second_of_both true b h = h
second_of_both false b h = absurd (cc)

-- what the rule asks for holds where it isn't broken
holds : (p : Place) (b : Bool) (rule : ℕ) → rule_at p (unless b rule) ≡ [] → b ≡ true
holds p true rule h = refl
holds p false rule h = absurd (cc)

-- ---- types

-- two stars or fewer
written_known : (t : TypeTree) (stars : List Star) → nat_le (length stars) 2 ≡ true → is_some (declared_of t stars) ≡ true
written_known t [] h = refl
written_known t (a ∷ []) h = refl
written_known t (a ∷ b ∷ []) h = refl
written_known t (a ∷ b ∷ c ∷ more) h = grind (arith, nat_tests)

-- cells of one star or none
cells_known : (t : TypeTree) (stars : List Star) → nat_le (length stars) 1 ≡ true → is_some (adjusted_by true (declared_of t stars)) ≡ true
cells_known t [] h = refl
cells_known t (a ∷ []) h = refl
cells_known t (a ∷ b ∷ more) h = grind (arith, nat_tests)

object_known : (t : TypeTree) (o : Option Declared) → is_some o ≡ true → is_some (adjusted_by false o) ≡ true
object_known t None h = h
object_known t (Some d) h = refl

param_written : (p : Place) (t : TypeTree) (stars : List Star) (is_array : Bool) → rule_at p (star_rule stars is_array) ≡ [] → is_some (adjusted_by is_array (declared_of t stars)) ≡ true
param_written p t stars true h = cells_known t stars (holds p (nat_le (length stars) 1) 22 h)
param_written p t stars false h = object_known t (declared_of t stars) (written_known t stars (holds p (nat_le (length stars) 2) 22 h))

not_void : (is_void : Bool) (t : CType) → not is_void ≡ true → is_some (if is_void then None else Some t) ≡ true
not_void true t h = absurd (cc)
not_void false t h = refl

named_known : (file : ℕ) (name : Option Name) (o : Option Declared) → is_some o ≡ true → void_violations file name o ≡ [] → is_some (type_by (is_some name) o) ≡ true
named_known file None None h v = h
named_known file None (Some d) h v = refl
named_known file (Some n) None h v = h
named_known file (Some n) (Some d) h v =
    not_void (is_base bases.Void d.of) (bare d.of) (holds (place file n.token) (not (is_base bases.Void d.of)) 5 v)

param_known : (file : ℕ) (p : Param) → param_violations file p ≡ [] → is_some (param_type p) ≡ true
param_known file p h =
    let at : Place = place file (place_token p.kind.token p.name) in
    let stars = rule_at at (star_rule p.stars (is_some p.array)) in
    let voids = void_violations file p.name (written p) in
    let sizes = array_violations file p.array in
    let front = left_none (stars ++ voids ++ sizes) (reserved_violations file p.name) h in
    let two = left_none (stars ++ voids) sizes front in
    named_known file p.name (written p) (param_written at p.kind p.stars (is_some p.array) (left_none stars voids two)) (right_none stars voids two)

each_known : (file : ℕ) (ps : List Param) → flat_map (param_violations file) ps ≡ [] → list_all is_some (map param_type ps) ≡ true
each_known file [] h = refl
each_known file (p ∷ ps) h =
    let first = param_known file p (left_none (param_violations file p) (flat_map (param_violations file) ps) h) in
    let others = each_known file ps (right_none (param_violations file p) (flat_map (param_violations file) ps) h) in
    both (is_some (param_type p)) (list_all is_some (map param_type ps)) first others

params_known : (file : ℕ) (ps : Params) → params_violations file ps ≡ [] → list_all is_some (param_types ps) ≡ true
params_known file (params.Void k) h = refl
params_known file (params.List ps) h = each_known file ps h

result_known : (t : TypeTree) (o : Option Declared) → is_some o ≡ true → is_some (option_map (λ (d : Declared). bare d.of) o) ≡ true
result_known t None h = h
result_known t (Some d) h = refl

-- ---- declarations

-- a function stands where it is declared
abbrev pub stands_at : Known → CFunction → Bool
stands_at d f = is_place f.file f.token d.file d.token

-- what is declared has a type, and so is a function there
abbrev pub typed : Known → Bool
typed d = list_any (stands_at d) (function_of d)

same_place : (file token : ℕ) → is_place file token file token ≡ true
same_place file token = grind (arith, nat_tests)

with_result : (d : Known) (t : FunctionType) (r : Option CType) → is_some r ≡ true → list_any (stands_at d) (typed_function d t r) ≡ true
with_result d t None h = h
with_result d t (Some r) h = ap (λ b. b || false) (same_place d.file d.token)

with_type : (d : Known) (f : Function) (known : Bool) → known ≡ true → is_some (result_type f) ≡ true → list_any (stands_at d) (function_by d (type_where known f)) ≡ true
with_type d f true h r = with_result d (function_type f) (result_type f) r
with_type d f false h r = absurd (cc)

function_typed : (file : ℕ) (statics : List ℕ → Bool) (f : Function) → type_violations file f ≡ [] → typed (function_known file statics f) ≡ true
function_typed file statics f h =
    let at : Place = place file f.name.token in
    let stars = rule_at at (star_rule f.stars false) in
    let names = name_violations file f.name.token f.name.bytes in
    let front = left_none (stars ++ names) (params_violations file f.params) h in
    let few = holds at (nat_le (length f.stars) 2) 22 (left_none stars names front) in
    let result = result_known f.kind (declared_of f.kind f.stars) (written_known f.kind f.stars few) in
    let others = params_known file f.params (right_none (stars ++ names) (params_violations file f.params) h) in
    let known = both (is_some (result_type f)) (list_all is_some (param_types f.params)) result others in
    with_type (function_known file statics f) f (is_some (result_type f) && list_all is_some (param_types f.params)) known result

external_typed : (file : ℕ) (statics : List ℕ → Bool) (e : External) → written_violations file e ≡ [] → list_all typed (external_known file statics e) ≡ true
external_typed file statics (externals.Define d) h = refl
external_typed file statics (externals.Function f) h = both (typed (function_known file statics f)) true (function_typed file statics f h) refl
external_typed file statics (externals.Variables v) h = refl

externals_typed : (file : ℕ) (statics : List ℕ → Bool) (es : List External) → flat_map (written_violations file) es ≡ [] → list_all typed (flat_map (external_known file statics) es) ≡ true
externals_typed file statics [] h = refl
externals_typed file statics (e ∷ es) h =
    let first = external_typed file statics e (left_none (written_violations file e) (flat_map (written_violations file) es) h) in
    let others = externals_typed file statics es (right_none (written_violations file e) (flat_map (written_violations file) es) h) in
    list_all-append typed (external_known file statics e) (flat_map (external_known file statics) es)
    ∙ both (list_all typed (external_known file statics e)) (list_all typed (flat_map (external_known file statics) es)) first others

file_typed : (file : ℕ) (f : CFile) → file_violations file f ≡ [] → list_all typed (known_in file f) ≡ true
file_typed file f h =
    let form = forms.file_violations file f in
    let types = flat_map (written_violations file) f.externals in
    let front = left_none (form ++ types) (walk.file_violations file (function_types f) f) h in
    externals_typed file (statics_in f.externals) f.externals (right_none form types front)

files_typed : (file : ℕ) (fs : List CFile) → files_from file fs ≡ [] → list_all (list_all typed) (known_from file fs) ≡ true
files_typed file [] h = refl
files_typed file (f ∷ fs) h =
    let first = file_typed file f (left_none (file_violations file f) (files_from (file + 1) fs) h) in
    let others = files_typed (file + 1) fs (right_none (file_violations file f) (files_from (file + 1) fs) h) in
    both (list_all typed (known_in file f)) (list_all (list_all typed) (known_from (file + 1) fs)) first others

-- each declaration in files that break no rule
pub all_typed : (cs : List CFile) → violations cs ≡ [] → list_all (list_all typed) (known_of cs) ≡ true
all_typed cs clean =
    let each = files_from 0 cs in
    let front = left_none (each ++ function_violations cs) (shared_violations cs) clean in
    files_typed 0 cs (left_none each (function_violations cs) front)

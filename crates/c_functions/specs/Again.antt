-- Functions that are declared again (ISO C 6.2.7, paragraph 2, and 6.9, paragraphs 3 and 5).
use Rattle.std.specs.Prelude.{◌≡◌, ℕ, Bool, true, false, not, ◌&&◌, if◌then◌else◌, Option, Some, None, option_map, List, [], ◌∷◌, ◌++◌, flat_map, filter, find}
use Rattle.std.specs.Option.{option_or}
use Rattle.std.specs.BTreeMap.{get_by}
use Rattle.std.specs.Cmp.Lexicographic.{slice_cmp}
use Rattle.std.specs.Ordering.{nat_cmp}
use Rattle.std.specs.Str.{bytes_eq}
use Rattle.dpi_rules.specs.declared.violation.Violation.{Violation}
use Rattle.dpi_rules.specs.Least.{noted}
use Rattle.c_tree.specs.declared.file.CFile.{CFile}
use Rattle.c_typing.specs.Judged.{rule_at}
use Rattle.c_functions.specs.declared.firsts.Firsts.{Firsts}
use Rattle.c_functions.specs.declared.again.Compared.{Compared}
use Rattle.c_functions.specs.declared.again.Compared.TheVariants as compared
use Rattle.c_functions.specs.Params.{place}
use Rattle.c_functions.specs.Same.{differ}
use Rattle.c_functions.specs.Declarations.{Known, known_of, told}

-- ---- one declaration, behind others

-- the first of these declarations that has the name
abbrev pub first_of : List Known → List ℕ → Option Known
first_of ds name = find (λ (d : Known). bytes_eq d.name name) ds

-- rule 6 where the types are others; rule 7 at a body
abbrev pub later_rule : Compared → Known → Known → Option ℕ
later_rule compared.Types first d = if differ first.of d.of then Some 6 else None
later_rule compared.Bodies first d = Some 7

-- what a declaration breaks at its name, behind the first one of that name
abbrev pub later_violations : Compared → Option Known → Known → List Violation
later_violations c None d = []
later_violations c (Some first) d = rule_at (place d.file d.token) (later_rule c first d)

-- what declarations break that stand behind these
abbrev pub violations_behind : Compared → List Known → List Known → List Violation
violations_behind c before [] = []
violations_behind c before (d ∷ ds) = later_violations c (first_of before d.name) d ++ violations_behind c (before ++ d ∷ []) ds

-- ---- all of them

-- all declarations for the types, those with a body for the bodies
abbrev pub takes_part : Compared → Known → Bool
takes_part compared.Types d = true
takes_part compared.Bodies d = d.has_body

-- the declarations that are compared: of static functions, or of the others
abbrev pub is_compared : Compared → Bool → Known → Bool
is_compared c static d = takes_part c d && (if static then d.is_static else not d.is_static)

-- what is broken within each file by static functions
abbrev pub static_violations : Compared → List (List Known) → List Violation
static_violations c files = flat_map (λ ds. violations_behind c [] (filter (is_compared c true) ds)) files

-- what is broken over all files by the others
abbrev pub shared_violations : Compared → List (List Known) → List Violation
shared_violations c files = violations_behind c [] (filter (is_compared c false) (flat_map (λ ds. ds) files))

-- what functions break that are declared again: rule 6 at another type, rule 7 at a second body
abbrev pub known_violations : List (List Known) → List Violation
known_violations files =
    shared_violations compared.Types files
    ++ shared_violations compared.Bodies files
    ++ static_violations compared.Types files
    ++ static_violations compared.Bodies files

abbrev pub function_violations : List CFile → List Violation
function_violations files = known_violations (known_of files)

-- ---- what the code keeps of the declarations before

-- one more name, which counts unless it is there
abbrev pub added : {A : Type 0} → (List ℕ → Option A) → List ℕ → A → List ℕ → Option A
added names name a other = option_or (names other) (if bytes_eq name other then Some a else None)

abbrev pub firsts_of : Firsts → List ℕ → Option Known
firsts_of firsts name = option_map told (get_by (λ k. slice_cmp nat_cmp name k.now) firsts.names)

-- the first declaration of each name
abbrev pub Tells : Firsts → List Known → Type 0
Tells firsts before = (name : List ℕ) → firsts_of firsts name ≡ first_of before name

-- what a walk over these declarations comes to, behind others
pub record Walks (c : Compared) (ds : List Known) (new : Firsts) (found found' : Option Violation) (before : List Known) : Type 0 where
  pub tells : Tells new (before ++ ds)
  pub found_are : found' ≡ noted found (violations_behind c before ds)

-- The bodies of C functions, by name.
use Rattle.std.specs.Prelude.{ℕ, Bool, false, not, ◌&&◌, if◌then◌else◌, Option, Some, None, option_map, List}
use Rattle.c_functions.specs.Declarations.{Known, told}
use Rattle.std.specs.BTreeMap.{get_by}
use Rattle.std.specs.Cmp.Lexicographic.{slice_cmp}
use Rattle.std.specs.Ordering.{nat_cmp}
use Rattle.dpi_links.specs.declared.functions.Bodies.{Bodies}
use Rattle.dpi_links.specs.Firsts.{first_given, by_name}

-- a body, of a static function or of one that all files share
abbrev pub is_body : Bool → Known → Bool
is_body static d = d.has_body && (if static then d.is_static else not d.is_static)

-- a declaration, if it is such a body
abbrev pub body_in : Bool → Known → Option Known
body_in static d = if is_body static d then Some d else None

abbrev pub name_of : Known → List ℕ
name_of d = d.name

-- the same, for its own name
abbrev pub given : Bool → Known → List ℕ → Option Known
given static = by_name name_of (body_in static)

-- the first such body of a name among these declarations
abbrev pub first_body : Bool → List Known → List ℕ → Option Known
first_body static ds = first_given (given static) ds

-- the body that other files see by a name: the first one, file by file, that isn't static
abbrev pub shared_body : List (List Known) → List ℕ → Option Known
shared_body files = first_given (first_body false) files

-- what the code keeps of bodies
abbrev pub bodies_of : Bodies → List ℕ → Option Known
bodies_of bodies name = option_map told (get_by (λ k. slice_cmp nat_cmp name k.now) bodies.names)

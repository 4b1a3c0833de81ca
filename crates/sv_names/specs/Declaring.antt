-- Declarations of a scope in text order.
use Rattle.std.specs.Prelude.{◌≡◌, ℕ, Option, Some, None, Result, Ok, Err, List, [], ◌∷◌, ◌++◌}
use Rattle.dpi_ports.specs.declared.no_memory.NoMemory.{NoMemory}
use Rattle.dpi_rules.specs.declared.violation.Violation.{Violation}
use Rattle.dpi_rules.specs.Order.{violation}
use Rattle.dpi_rules.specs.Least.{noted}
use Rattle.sv_tree.specs.declared.leaves.Name.{Name}
use Rattle.sv_names.specs.declared.entry.Entry.{Entry}
use Rattle.sv_names.specs.declared.entry.Thing.{Thing}
use Rattle.sv_names.specs.Names.{Names, added}

-- a declaration: the name, and what it declares
pub record Declared : Type 0 where
  pub name : List ℕ
  pub entry : Entry

-- the name declares this
abbrev pub declared : Name → Thing → Declared
declared n thing = record { name = n.bytes; entry = record { token = n.token; thing = thing } }

-- the names behind a list of declarations: the first of each name counts
abbrev pub with_all : Names → List Declared → Names
with_all names [] = names
with_all names (d ∷ ds) = with_all (added names d.name d.entry) ds

-- a declaration of a name that has one breaks the rule at the name
abbrev pub second : ℕ → ℕ → Option Entry → List Violation
second file token None = []
second file token (Some earlier) = violation file token 4 ∷ []

-- all second declarations of a list, behind the names that are there
abbrev pub seconds : ℕ → Names → List Declared → List Violation
seconds file names [] = []
seconds file names (d ∷ ds) = second file d.entry.token (names d.name) ++ seconds file (added names d.name d.entry) ds

-- a scope with these declarations more, of which the second ones of a name are noted
pub record IsDeclared (file : ℕ) (ds : List Declared) (names : Names) (found : Option Violation) (names' : Names) (found' : Option Violation) : Type 0 where
  pub names_are : names' ≡ with_all names ds
  pub found_are : found' ≡ noted found (seconds file names ds)

-- the scope has these declarations more, unless memory ran out
abbrev pub Declares : ℕ → List Declared → Names → Option Violation → Result (Unit {0}) NoMemory → Names → Option Violation → Type 0
Declares file ds names found (Ok u) names' found' = IsDeclared file ds names found names' found'
Declares file ds names found (Err e) names' found' = Unit {0}

-- The scope and what is noted so far, in a loop whose declarations are `all`: those left over come to the same.
pub record IsDeclaring (file : ℕ) (all : List Declared) (names : Names) (found : Option Violation) (left : List Declared) (names' : Names) (found' : Option Violation) : Type 0 where
  pub names_same : with_all names all ≡ with_all names' left
  pub found_same : noted found (seconds file names all) ≡ noted found' (seconds file names' left)

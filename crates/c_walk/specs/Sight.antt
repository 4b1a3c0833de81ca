-- The names in sight, and what parts in turn make of them (ISO C 6.2.1).
use Rattle.std.specs.Prelude.{◌≡◌, Option, Result, Ok, Err, OnOk, List, [], ◌∷◌, ◌++◌}
use Rattle.dpi_ports.specs.declared.no_memory.NoMemory.{NoMemory}
use Rattle.dpi_rules.specs.declared.violation.Violation.{Violation}
use Rattle.dpi_rules.specs.Least.{noted}
use Rattle.c_names.specs.declared.scope.Scope.{Scope}
use Rattle.c_names.specs.Names.{Names, no_names, names_of}

-- the scopes around the innermost one, of which the outermost comes first, and the innermost one so far
pub record Sight : Type 0 where
  pub outer : List Names
  pub inner : Names

-- all scopes
abbrev pub scopes : Sight → List Names
scopes s = s.outer ++ s.inner ∷ []

-- inside one more scope, which declares nothing yet
abbrev pub inside : List Names → Sight
inside names = record { outer = names; inner = no_names }

-- what a part breaks, and the innermost scope behind it
pub record Walked : Type 0 where
  pub found : List Violation
  pub inner : Names

-- a part that may declare names in the innermost scope
abbrev pub Walks : Type 0
Walks = Sight → Walked

-- what a part breaks that leaves no name in sight, by the scopes around it
abbrev pub Breaks : Type 0
Breaks = List Names → List Violation

-- what is in sight behind a part
abbrev pub after : Walks → Sight → Sight
after w s = record { outer = s.outer; inner = (w s).inner }

-- a part that leaves no name in sight
abbrev pub stays : Breaks → Walks
stays b s = record { found = b (scopes s); inner = s.inner }

-- one part behind another
abbrev pub both : Walks → Walks → Walks
both v w s = record { found = (v s).found ++ (w (after v s)).found; inner = (w (after v s)).inner }

abbrev pub nothing : Walks
nothing s = record { found = []; inner = s.inner }

-- parts in turn
abbrev pub in_turn : List Walks → Walks
in_turn [] = nothing
in_turn (w ∷ ws) = both w (in_turn ws)

-- a part in a scope of its own
abbrev pub scoped : Walks → Breaks
scoped w names = (w (inside names)).found

-- ---- what the code does

-- the scopes, and what is kept, behind a part
pub record IsBehind (w : Walks) (s : Sight) (found : Option Violation) (names' : List Names) (found' : Option Violation) : Type 0 where
  pub scopes_are : names' ≡ scopes (after w s)
  pub found_are : found' ≡ noted found (w s).found

-- a part was walked, unless memory ran out
abbrev pub Behind : Walks → Sight → Option Violation → Result (Unit {0}) NoMemory → List Names → Option Violation → Type 0
Behind w s found (Ok u) names' found' = IsBehind w s found names' found'
Behind w s found (Err e) names' found' = Unit {0}

-- the same, whatever is in sight before the part
abbrev pub Follows : Walks → List Names → Option Violation → Result (Unit {0}) NoMemory → List Names → Option Violation → Type 0
Follows w names found result names' found' = (s : Sight) → names ≡ scopes s → Behind w s found result names' found'

-- names come in sight as behind a part, unless memory ran out
abbrev pub Sees : Walks → List Names → Result (Unit {0}) NoMemory → List Names → Type 0
Sees w names result names' = (s : Sight) → names ≡ scopes s → OnOk result (names' ≡ scopes (after w s))

-- the scopes are as they were, and what a part breaks is noted
pub record IsKept (vs : List Violation) (names : List Names) (found : Option Violation) (names' : List Names) (found' : Option Violation) : Type 0 where
  pub scopes_are : names' ≡ names
  pub found_are : found' ≡ noted found vs

-- the same, unless memory ran out
abbrev pub Keeps : Breaks → List Names → Option Violation → Result (Unit {0}) NoMemory → List Names → Option Violation → Type 0
Keeps b names found (Ok u) names' found' = IsKept (b names) names found names' found'
Keeps b names found (Err e) names' found' = Unit {0}

-- the scopes are as they were, and what a part breaks in one more scope is noted, unless memory ran out
abbrev pub Ends : (Sight → List Violation) → List Names → Names → Option Violation → Result (Unit {0}) NoMemory → List Names → Option Violation → Type 0
Ends b outer inner found (Ok u) names' found' = IsKept (b (record { outer = outer; inner = inner })) outer found names' found'
Ends b outer inner found (Err e) names' found' = Unit {0}

-- one scope inside others was filled by a part
pub record IsFilled (w : Walks) (s : Sight) (found : Option Violation) (inner' : Names) (found' : Option Violation) : Type 0 where
  pub inner_is : inner' ≡ (w s).inner
  pub found_are : found' ≡ noted found (w s).found

-- the same, unless memory ran out
abbrev pub Fills : Walks → List Names → Names → Option Violation → Result (Unit {0}) NoMemory → Names → Option Violation → Type 0
Fills w outer inner found (Ok u) inner' found' = IsFilled w (record { outer = outer; inner = inner }) found inner' found'
Fills w outer inner found (Err e) inner' found' = Unit {0}

-- a scope of its own was filled by a part, unless memory ran out
abbrev pub Opens : Walks → List Names → Option Violation → Result Scope NoMemory → Option Violation → Type 0
Opens w outer found (Ok scope) found' = IsFilled w (inside outer) found (names_of scope) found'
Opens w outer found (Err e) found' = Unit {0}

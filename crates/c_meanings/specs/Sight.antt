-- What parts in turn tell, by the names in sight.
use Rattle.std.specs.Prelude.{◌≡◌, Result, Ok, Err, OnOk, List, [], ◌∷◌, ◌++◌}
use Rattle.dpi_ports.specs.declared.no_memory.NoMemory.{NoMemory}
use Rattle.c_names.specs.declared.scope.Scope.{Scope}
use Rattle.c_names.specs.Names.{Names, names_of}
use Rattle.c_walk.specs.Sight.{Sight, Walks, scopes, inside}
use Rattle.c_meanings.specs.Places.{Facts}

-- what a part tells, and the innermost scope behind it
pub record Told : Type 0 where
  pub facts : Facts
  pub inner : Names

-- a part that may bring names in sight in the innermost scope
abbrev pub Tells : Type 0
Tells = Sight → Told

-- what a part tells that leaves no name in sight, by the scopes around it
abbrev pub Says : Type 0
Says = List Names → Facts

-- what is in sight behind a part
abbrev pub behind : Tells → Sight → Sight
behind t s = record { outer = s.outer; inner = (t s).inner }

-- a part that leaves no name in sight
abbrev pub stays : Says → Tells
stays b s = record { facts = b (scopes s); inner = s.inner }

-- a part that tells nothing, and brings names in sight as this walk does
abbrev pub brings : Walks → Tells
brings w s = record { facts = []; inner = (w s).inner }

-- one part behind another
abbrev pub both : Tells → Tells → Tells
both t u s = record { facts = (t s).facts ++ (u (behind t s)).facts; inner = (u (behind t s)).inner }

abbrev pub nothing : Tells
nothing s = record { facts = []; inner = s.inner }

-- parts in turn
abbrev pub in_turn : List Tells → Tells
in_turn [] = nothing
in_turn (t ∷ ts) = both t (in_turn ts)

-- a part in a scope of its own
abbrev pub scoped : Tells → Says
scoped t names = (t (inside names)).facts

-- ---- what the code does

-- the scopes, and the list, behind a part
pub record IsBehind (t : Tells) (s : Sight) (list : Facts) (names' : List Names) (list' : Facts) : Type 0 where
  pub scopes_are : names' ≡ scopes (behind t s)
  pub list_is : list' ≡ list ++ (t s).facts

-- whatever is in sight, what a part tells is added, and its names are in sight, unless memory ran out
abbrev pub Adds : Tells → List Names → Facts → Result (Unit {0}) NoMemory → List Names → Facts → Type 0
Adds t names list result names' list' = (s : Sight) → names ≡ scopes s → OnOk result (IsBehind t s list names' list')

-- the scopes are as they were, and what a part says is added
pub record IsKept (fs : Facts) (names : List Names) (list : Facts) (names' : List Names) (list' : Facts) : Type 0 where
  pub scopes_are : names' ≡ names
  pub list_is : list' ≡ list ++ fs

-- the same, unless memory ran out
abbrev pub Keeps : Says → List Names → Facts → Result (Unit {0}) NoMemory → List Names → Facts → Type 0
Keeps b names list result names' list' = OnOk result (IsKept (b names) names list names' list')

-- the scopes are as they were, and what a part says in one more scope is added, unless memory ran out
abbrev pub Ends : (Sight → Facts) → List Names → Names → Facts → Result (Unit {0}) NoMemory → List Names → Facts → Type 0
Ends b outer inner list result names' list' = OnOk result (IsKept (b (record { outer = outer; inner = inner })) outer list names' list')

-- one scope inside others was filled by a part
pub record IsFilled (t : Tells) (s : Sight) (list : Facts) (inner' : Names) (list' : Facts) : Type 0 where
  pub inner_is : inner' ≡ (t s).inner
  pub list_is : list' ≡ list ++ (t s).facts

-- the same, unless memory ran out
abbrev pub Fills : Tells → List Names → Names → Facts → Result (Unit {0}) NoMemory → Names → Facts → Type 0
Fills t outer inner list result inner' list' = OnOk result (IsFilled t (record { outer = outer; inner = inner }) list inner' list')

-- a scope of its own was filled by a part, unless memory ran out
abbrev pub Opens : Tells → List Names → Facts → Result Scope NoMemory → Facts → Type 0
Opens t outer list (Ok scope) list' = IsFilled t (inside outer) list (names_of scope) list'
Opens t outer list (Err e) list' = Unit {0}

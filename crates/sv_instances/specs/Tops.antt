-- The modules that no module instantiates.
use Rattle.std.specs.Prelude.{◌≡◌, ℕ, ◌+◌, ◌<◌, ◌==◌, Bool, true, false, ◌||◌, List, [], ◌∷◌, ◌++◌, length, slice_index_or}
use Rattle.std.specs.List.{list_any}
use Rattle.sv_instances.specs.declared.preorder.Child.{Child}
use Rattle.sv_instances.specs.Modules.{InFile}

-- whether the module of this number is among these
abbrev pub is_among : List Child → ℕ → Bool
is_among row number = list_any (λ (c : Child). c.module_number == number) row

-- whether a module instantiates the one of this number
abbrev pub is_instantiated : List (List Child) → ℕ → Bool
is_instantiated children number = list_any (λ row. is_among row number) children

-- a module as a top: it is named in its header
abbrev pub as_top : ℕ → InFile → Child
as_top number m = record { module_number = number; file = m.file; token = m.tree.name.token; name = m.tree.name.bytes }

-- the module of this number, unless a module instantiates it
abbrev pub unless_instantiated : Bool → ℕ → InFile → List Child
unless_instantiated true number m = []
unless_instantiated false number m = as_top number m ∷ []

-- the tops among modules of which the first one here has this number
abbrev pub tops_from : List (List Child) → ℕ → List InFile → List Child
tops_from children number [] = []
tops_from children number (m ∷ ms) = unless_instantiated (is_instantiated children number) number m ++ tops_from children (number + 1) ms

-- the modules that none instantiates, in text order
abbrev pub tops : List (List Child) → List InFile → List Child
tops children ms = tops_from children 0 ms

-- the mark of this number
abbrev pub marked : List Bool → ℕ → Bool
marked marks number = slice_index_or marks number false

-- where there are marks, those of numbers that pass the test stand as well
abbrev pub Marks : List Bool → (ℕ → Bool) → List Bool → Type 0
Marks marks test marks' = (k : ℕ) → k < length marks → marked marks' k ≡ (marked marks k || test k)

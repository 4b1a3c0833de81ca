-- Items on a cycle: the instance that such an item makes would contain one of the same item again.
use Rattle.std.specs.Prelude.{◌≡◌, ℕ, zero, suc, ◌+◌, ◌==◌, Bool, true, false, not, ◌||◌, ◌&&◌, List, [], ◌∷◌, ◌++◌, length, map, flat_map}
use Rattle.std.specs.List.{list_any, list_all}
use Rattle.dpi_rules.specs.declared.violation.Violation.{Violation}
use Rattle.dpi_rules.specs.Order.{violation}
use Rattle.sv_instances.specs.declared.preorder.Child.{Child}
use Rattle.sv_instances.specs.Preorder.{children_of}
use Rattle.sv_instances.specs.Tops.{marked, Marks}

-- the numbers of the modules that these items instantiate
abbrev pub numbers_in : List Child → List ℕ
numbers_in row = map (λ (c : Child). c.module_number) row

-- the modules that the items of one instantiate
abbrev pub parts : List (List Child) → ℕ → List ℕ
parts children number = numbers_in (children_of children number)

-- the modules that one leads to over at most so many items: itself, and then the parts of those before
abbrev pub reached : List (List Child) → ℕ → ℕ → List ℕ
reached children from zero = from ∷ []
reached children from (suc n) = reached children from n ++ flat_map (parts children) (reached children from n)

-- whether a number is among these
abbrev pub is_in : List ℕ → ℕ → Bool
is_in numbers k = list_any (λ n. n == k) numbers

-- whether an item of the module of this number stands on a cycle: what it instantiates leads to that
-- module (over no more items than there are modules, since the shortest way passes none twice)
abbrev pub is_cyclic : List (List Child) → ℕ → Child → Bool
is_cyclic children number c = is_in (reached children c.module_number (length children)) number

-- an item on a cycle breaks rule 2 at the name of the module that it instantiates
abbrev pub cycle : Bool → Child → List Violation
cycle true c = violation c.file c.token 2 ∷ []
cycle false c = []

-- the items on a cycle in modules of which the first one here has this number
abbrev pub cycles_from : List (List Child) → ℕ → List (List Child) → List Violation
cycles_from children number [] = []
cycles_from children number (row ∷ rows) =
    flat_map (λ c. cycle (is_cyclic children number c) c) row ++ cycles_from children (number + 1) rows

-- the items on a cycle in all modules
abbrev pub cycle_violations : List (List Child) → List Violation
cycle_violations children = cycles_from children 0 children

-- an item, unless it stands on a cycle
abbrev pub unless_cyclic : Bool → Child → List Child
unless_cyclic true c = []
unless_cyclic false c = c ∷ []

-- the other items of the module of this number, in text order
abbrev pub acyclic_row : List (List Child) → ℕ → List Child → List Child
acyclic_row children number row = flat_map (λ c. unless_cyclic (is_cyclic children number c) c) row

-- the same of modules of which the first one here has this number
abbrev pub acyclic_from : List (List Child) → ℕ → List (List Child) → List (List Child)
acyclic_from children number [] = []
acyclic_from children number (row ∷ rows) = acyclic_row children number row ∷ acyclic_from children (number + 1) rows

-- what each module instantiates, without the items on a cycle
abbrev pub acyclic : List (List Child) → List (List Child)
acyclic children = acyclic_from children 0 children

-- whether all that these items instantiate is marked
abbrev pub are_marked : List Bool → List Child → Bool
are_marked marks row = list_all (λ (c : Child). marked marks c.module_number) row

-- Marked modules lead to marked ones alone, and none of their items stands on a cycle.
pub record AreFree (children : List (List Child)) (marks : List Bool) : Type 0 where
  pub closed : (k : ℕ) → marked marks k ≡ true → (j : ℕ) → is_in (parts children k) j ≡ true → marked marks j ≡ true
  pub free : (k : ℕ) → marked marks k ≡ true → (j : ℕ) → is_in (parts children k) j ≡ true → is_in (reached children j (length children)) k ≡ false

-- these numbers are marked, and those of them that had no mark are added to a list
pub record IsSpread (marks : List Bool) (list numbers : List ℕ) (marks' : List Bool) (list' : List ℕ) : Type 0 where
  pub long : length marks' ≡ length marks
  pub marks_are : Marks marks (is_in numbers) marks'
  pub list_is : (k : ℕ) → is_in list' k ≡ (is_in list k || (is_in numbers k && not (marked marks k)))

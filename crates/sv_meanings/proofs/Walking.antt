-- Walks that leave the scopes as they are, and add to a list.
use Rattle.std.proofs.Common.{◌≡◌, ℕ, ◌+◌, ◌<◌, ◌≤◌, List, ◌++◌, length, drop, get_or, refl, ap, ◌∙◌, Result}
use Rattle.std.specs.Prelude.{flat_map, OnOk}
use Rattle.dpi_ports.specs.declared.no_memory.NoMemory.{NoMemory}
use Rattle.sv_names.specs.Names.{Names}
use Rattle.sv_meanings.specs.Places.{Facts}
use Rattle.sv_meanings.proofs.Adding.{on_ok, both_added, IsAdding, adding_first, adding_next, adding_last}

-- the scopes are the same, and this is added
abbrev pub Leaves : List Names → Facts → Facts → List Names → Facts → Type 0
Leaves scopes list fs scopes' list' = (scopes' ≡ scopes) × (list' ≡ list ++ fs)

abbrev pub Walks : Result (Unit {0}) NoMemory → List Names → Facts → Facts → List Names → Facts → Type 0
Walks r scopes list fs scopes' list' = OnOk r (Leaves scopes list fs scopes' list')

-- what doesn't change the scopes leaves them
pub stays : (r : Result (Unit {0}) NoMemory) (scopes : List Names) (list list' fs : Facts) → OnOk r (list' ≡ list ++ fs) → Walks r scopes list fs scopes list'
stays r scopes list list' fs h = on_ok r (λ k. (refl, k)) h

-- one after another
pub then_leaves : (scopes scopes1 scopes2 : List Names) (list list1 list2 fs : Facts) (gs : List Names → Facts)
    → Leaves scopes list fs scopes1 list1 → Leaves scopes1 list1 (gs scopes1) scopes2 list2 → Leaves scopes list (fs ++ gs scopes) scopes2 list2
then_leaves scopes scopes1 scopes2 list list1 list2 fs gs h k =
    (k.0 ∙ h.0, both_added list list1 list2 fs (gs scopes) h.1 (k.1 ∙ ap (λ s. list1 ++ gs s) h.0))

pub then_walks : (r : Result (Unit {0}) NoMemory) (scopes scopes1 scopes2 : List Names) (list list1 list2 fs : Facts) (gs : List Names → Facts)
    → Leaves scopes list fs scopes1 list1 → Walks r scopes1 list1 (gs scopes1) scopes2 list2 → Walks r scopes list (fs ++ gs scopes) scopes2 list2
then_walks r scopes scopes1 scopes2 list list1 list2 fs gs h k =
    on_ok r (λ l. then_leaves scopes scopes1 scopes2 list list1 list2 fs gs h l) k

-- a loop that leaves the scopes
pub record IsWalking {X : Type 0} (of : X → Facts) (scopes : List Names) (start : Facts) (xs left : List X) (scopes' : List Names) (list : Facts) : Type 0 where
  pub same : scopes' ≡ scopes
  pub adding : IsAdding of start xs left list

pub walking_first : {X : Type 0} (of : X → Facts) (scopes : List Names) (start : Facts) (xs : List X) → IsWalking of scopes start xs (drop 0 xs) scopes start
walking_first of scopes start xs = record { same = refl; adding = adding_first of start xs }

pub walking_next : {X : Type 0} (of : X → List Names → Facts) (scopes : List Names) (start : Facts) (xs : List X) (i : ℕ) (x : X) → i < length xs → x ≡ get_or xs i x
    → (scopes1 scopes2 : List Names) (list next : Facts) → Leaves scopes1 list (of x scopes1) scopes2 next
    → IsWalking (λ y. of y scopes) scopes start xs (drop i xs) scopes1 list → IsWalking (λ y. of y scopes) scopes start xs (drop (i + 1) xs) scopes2 next
walking_next of scopes start xs i x h e scopes1 scopes2 list next k l = record {
  same = k.0 ∙ l.same;
  adding = adding_next (λ y. of y scopes) start xs i x h e list next (k.1 ∙ ap (λ s. list ++ of x s) l.same) l.adding;
}

pub walking_last : {X : Type 0} (of : X → Facts) (scopes : List Names) (start : Facts) (xs : List X) (i : ℕ) → length xs ≤ i → (scopes' : List Names) (list : Facts)
    → IsWalking of scopes start xs (drop i xs) scopes' list → Leaves scopes start (flat_map of xs) scopes' list
walking_last of scopes start xs i h scopes' list l = (l.same, adding_last of start xs i h list l.adding)

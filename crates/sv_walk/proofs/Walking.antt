-- Walks that leave the scopes as they are.
use Rattle.std.proofs.Common.{◌≡◌, ℕ, ◌+◌, ◌<◌, ◌≤◌, List, ◌++◌, length, flat_map, drop, get_or, refl, ap, ◌∙◌, Option, Result, IfOk}
use Rattle.std.proofs.lemmas.Result.{IfOk-weaker}
use Rattle.dpi_ports.specs.declared.no_memory.NoMemory.{NoMemory}
use Rattle.dpi_rules.specs.declared.violation.Violation.{Violation}
use Rattle.dpi_rules.specs.Least.{noted}
use Rattle.dpi_rules.proofs.Noting.{IsNoted, noted_first, noted_next, noted_last, noted_both}
use Rattle.sv_names.specs.Names.{Names}

-- the scopes are the same, and this is noted
abbrev pub Leaves : List Names → Option Violation → List Violation → List Names → Option Violation → Type 0
Leaves scopes found vs scopes' found' = (scopes' ≡ scopes) × (found' ≡ noted found vs)

abbrev pub Walks : Result (Unit {0}) NoMemory → List Names → Option Violation → List Violation → List Names → Option Violation → Type 0
Walks r scopes found vs scopes' found' = IfOk r (λ _. Leaves scopes found vs scopes' found')

-- what doesn't change the scopes leaves them
pub stays : (r : Result (Unit {0}) NoMemory) (scopes : List Names) (found found' : Option Violation) (vs : List Violation) → IfOk r (λ _. found' ≡ noted found vs) → Walks r scopes found vs scopes found'
stays r scopes found found' vs h = IfOk-weaker r _ _ (λ u k. (refl, k)) h

-- one after another
pub then_leaves : (scopes scopes1 scopes2 : List Names) (found found1 found2 : Option Violation) (vs : List Violation) (ws : List Names → List Violation)
    → Leaves scopes found vs scopes1 found1 → Leaves scopes1 found1 (ws scopes1) scopes2 found2 → Leaves scopes found (vs ++ ws scopes) scopes2 found2
then_leaves scopes scopes1 scopes2 found found1 found2 vs ws h k =
    (k.0 ∙ h.0, noted_both found vs (ws scopes) h.1 (k.1 ∙ ap (λ s. noted found1 (ws s)) h.0))

pub then_walks : (r : Result (Unit {0}) NoMemory) (scopes scopes1 scopes2 : List Names) (found found1 found2 : Option Violation) (vs : List Violation) (ws : List Names → List Violation)
    → Leaves scopes found vs scopes1 found1 → Walks r scopes1 found1 (ws scopes1) scopes2 found2 → Walks r scopes found (vs ++ ws scopes) scopes2 found2
then_walks r scopes scopes1 scopes2 found found1 found2 vs ws h k =
    IfOk-weaker r _ _ (λ u l. then_leaves scopes scopes1 scopes2 found found1 found2 vs ws h l) k

-- a loop that leaves the scopes
pub record IsWalking {X : Type 0} (of : X → List Violation) (scopes : List Names) (start : Option Violation) (xs left : List X) (scopes' : List Names) (found : Option Violation) : Type 0 where
  pub same : scopes' ≡ scopes
  pub noting : IsNoted of start xs left found

pub walking_first : {X : Type 0} (of : X → List Violation) (scopes : List Names) (start : Option Violation) (xs : List X) → IsWalking of scopes start xs (drop 0 xs) scopes start
walking_first of scopes start xs = record { same = refl; noting = noted_first of start xs }

pub walking_next : {X : Type 0} (of : X → List Names → List Violation) (scopes : List Names) (start : Option Violation) (xs : List X) (i : ℕ) (x : X) → i < length xs → x ≡ get_or xs i x
    → (scopes1 scopes2 : List Names) (found next : Option Violation) → Leaves scopes1 found (of x scopes1) scopes2 next
    → IsWalking (λ y. of y scopes) scopes start xs (drop i xs) scopes1 found → IsWalking (λ y. of y scopes) scopes start xs (drop (i + 1) xs) scopes2 next
walking_next of scopes start xs i x h e scopes1 scopes2 found next k l = record {
  same = k.0 ∙ l.same;
  noting = noted_next xs i x h e (k.1 ∙ ap (λ s. noted found (of x s)) l.same) l.noting;
}

pub walking_last : {X : Type 0} (of : X → List Violation) (scopes : List Names) (start : Option Violation) (xs : List X) (i : ℕ) → length xs ≤ i → (scopes' : List Names) (found : Option Violation)
    → IsWalking of scopes start xs (drop i xs) scopes' found → Leaves scopes start (flat_map of xs) scopes' found
walking_last of scopes start xs i h scopes' found l = (l.same, noted_last xs i h l.noting)

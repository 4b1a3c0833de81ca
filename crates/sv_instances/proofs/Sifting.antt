-- One module more, in a loop that leaves items on a cycle out.
use Rattle.std.proofs.Common.{◌≡◌, ℕ, ◌+◌, ◌<◌, List, [], ◌∷◌, ◌++◌, length, drop, get_or, flat_map, sym, ap, ◌∙◌, append_assoc, Option}
use Rattle.dpi_rules.specs.declared.violation.Violation.{Violation}
use Rattle.dpi_rules.specs.Least.{noted}
use Rattle.dpi_rules.proofs.Firsts.{noted-append}
use Rattle.sv_instances.specs.declared.preorder.Child.{Child}
use Rattle.sv_instances.specs.Cycles.{acyclic_row, acyclic_from, cycle, cycles_from, is_cyclic}
use Rattle.sv_instances.proofs.ModuleLists.{rest_of}

pub kept_next : (children : List (List Child)) (number i : ℕ) (x : List Child) (table : List (List Child)) {table' goal : List (List Child)} → i < length children → x ≡ get_or children i x → table' ≡ table ++ acyclic_row children number x ∷ [] → table ++ acyclic_from children number (drop i children) ≡ goal → table' ++ acyclic_from children (number + 1) (drop (i + 1) children) ≡ goal
kept_next children number i x table {table'} {goal} h e t k =
    let rest = acyclic_from children (number + 1) (drop (i + 1) children) in
    ap (λ ys. ys ++ rest) t
    ∙ append_assoc table (acyclic_row children number x ∷ []) rest
    ∙ ap (λ ys. table ++ acyclic_from children number ys) (sym (rest_of children i x h e))
    ∙ k

pub refused_next : (children : List (List Child)) (number i : ℕ) (x : List Child) (found : Option Violation) {found' goal : Option Violation} → i < length children → x ≡ get_or children i x → found' ≡ noted found (flat_map (λ c. cycle (is_cyclic children number c) c) x) → goal ≡ noted found (cycles_from children number (drop i children)) → goal ≡ noted found' (cycles_from children (number + 1) (drop (i + 1) children))
refused_next children number i x found {found'} {goal} h e f k =
    let rest = cycles_from children (number + 1) (drop (i + 1) children) in
    k
    ∙ ap (λ ys. noted found (cycles_from children number ys)) (rest_of children i x h e)
    ∙ noted-append found (flat_map (λ c. cycle (is_cyclic children number c) c) x) rest
    ∙ ap (λ o. noted o rest) (sym f)

-- A name whose calls are refused from now on.
use Rattle.std.proofs.Common.{◌≡◌, ℕ, List, Bool, true, false, cond, Some, None, refl, sym, ◌∙◌, ap}
use Rattle.std.specs.Str.{bytes_eq}
use Rattle.std.specs.BTreeMap as tree
use Rattle.std.specs.BTreeMap.{BTreeMap}
use Rattle.std.specs.Cmp.Lexicographic.{slice_cmp}
use Rattle.std.specs.Ordering.{nat_cmp}
use Rattle.std.proofs.lemmas.Map.Text.{btree_map_updates_str}
use Rattle.std.proofs.lemmas.Slice.Eq.{bytes_eq-Decides}
use Rattle.c_calls.specs.Refusals.{Rules, or_else, refused}
use denote.Ref.{Bor}

one_more : (rules : Rules) (name other : List ℕ) (rule : ℕ) (b : Bool) → rules name ≡ None → (b ≡ true → name ≡ other) → cond b (Some rule) (rules other) ≡ or_else (rules other) (cond b (Some rule) None)
one_more rules name other rule true absent same =
    let e : rules other ≡ None = ap rules (sym (same refl)) ∙ absent in
    rw e refl
one_more rules name other rule false absent same = elim (rules other) as (λ o. o ≡ or_else o None) [ None ↦ refl | Some m ↦ refl ]

-- the rules of a map with one key more
pub add_new : (name : List ℕ) (m n : BTreeMap (Bor (List ℕ)) ℕ) (rule : ℕ) → tree.UpdatesBy (λ x y. slice_cmp nat_cmp x.now y.now) (λ k. slice_cmp nat_cmp name k.now) m n (Some rule) → tree.get_by (λ k. slice_cmp nat_cmp name k.now) m ≡ None → (other : List ℕ) → tree.get_by (λ k. slice_cmp nat_cmp other k.now) n ≡ refused (λ q. tree.get_by (λ k. slice_cmp nat_cmp q k.now) m) name rule other
add_new name m n rule updates absent other =
    btree_map_updates_str name m n (Some rule) updates other ∙ one_more (λ q. tree.get_by (λ k. slice_cmp nat_cmp q k.now) m) name other rule (bytes_eq name other) absent ((bytes_eq-Decides name other).0)

-- functions that agree on each name
pub same_rules : (m n : Rules) → ((name : List ℕ) → m name ≡ n name) → m ≡ n
same_rules m n h = λ i name. h name i

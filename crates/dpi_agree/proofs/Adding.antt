-- A name that is added to a map.
use Rattle.std.proofs.Common.{◌≡◌, ℕ, List, Bool, true, false, cond, Option, Some, None, refl, sym, ◌∙◌, ap}
use Rattle.std.specs.Str.{bytes_eq}
use Rattle.std.specs.BTreeMap as tree
use Rattle.std.specs.BTreeMap.{BTreeMap}
use Rattle.std.specs.Cmp.Lexicographic.{slice_cmp}
use Rattle.std.specs.Ordering.{nat_cmp}
use Rattle.std.proofs.lemmas.Map.Text.{btree_map_updates_str}
use Rattle.std.proofs.lemmas.Slice.Eq.{bytes_eq-Decides}
use Rattle.dpi_agree.specs.Firsts.{or_else, added}
use denote.Ref.{Bor}

one_more : {X : Type 0} (names : (List ℕ → Option X)) (name other : List ℕ) (entry : X) (b : Bool) → names name ≡ None → (b ≡ true → name ≡ other) → cond b (Some entry) (names other) ≡ or_else (names other) (cond b (Some entry) None)
one_more names name other entry true absent same =
    let e : names other ≡ None = ap names (sym (same refl)) ∙ absent in
    rw e refl
one_more names name other entry false absent same = elim (names other) as (λ o. o ≡ or_else o None) [ None ↦ refl | Some m ↦ refl ]

-- the names of a map with one key more
pub add_new : {X : Type 0} (name : List ℕ) (m n : BTreeMap (Bor (List ℕ)) X) (entry : X) → tree.UpdatesBy (λ x y. slice_cmp nat_cmp x.now y.now) (λ k. slice_cmp nat_cmp name k.now) m n (Some entry) → tree.get_by (λ k. slice_cmp nat_cmp name k.now) m ≡ None → (other : List ℕ) → tree.get_by (λ k. slice_cmp nat_cmp other k.now) n ≡ added (λ q. tree.get_by (λ k. slice_cmp nat_cmp q k.now) m) name entry other
add_new name m n entry updates absent other =
    btree_map_updates_str name m n (Some entry) updates other ∙ one_more (λ q. tree.get_by (λ k. slice_cmp nat_cmp q k.now) m) name other entry (bytes_eq name other) absent ((bytes_eq-Decides name other).0)

-- A name that is added to a map.
use Rattle.std.proofs.Common.{◌≡◌, ℕ, List, Bool, true, false, cond, Option, Some, None, refl, sym, ◌∙◌, ap}
use Rattle.std.specs.Prelude.{◌||◌, is_some, option_map}
use Rattle.std.specs.Option.{option_or}
use Rattle.std.specs.Str.{bytes_eq}
use Rattle.std.specs.BTreeMap as tree
use Rattle.std.specs.BTreeMap.{BTreeMap}
use Rattle.std.specs.Cmp.Lexicographic.{slice_cmp}
use Rattle.std.specs.Ordering.{nat_cmp}
use Rattle.std.proofs.lemmas.Map.Text.{btree_map_updates_str}
use Rattle.std.proofs.lemmas.Slice.Eq.{bytes_eq-Decides}
use Rattle.c_functions.specs.Again.{added}
use denote.Ref.{Bor}

-- the map with one key more, or with its value changed
abbrev pub IsUpdate : {X : Type 0} → List ℕ → BTreeMap (Bor (List ℕ)) X → BTreeMap (Bor (List ℕ)) X → X → Type 0
IsUpdate name m n x = tree.UpdatesBy (λ x y. slice_cmp nat_cmp x.now y.now) (λ k. slice_cmp nat_cmp name k.now) m n (Some x)

abbrev pub at_name : {X : Type 0} → BTreeMap (Bor (List ℕ)) X → List ℕ → Option X
at_name m name = tree.get_by (λ k. slice_cmp nat_cmp name k.now) m

one_more : {X : Type 0} (names : (List ℕ → Option X)) (name other : List ℕ) (x : X) (b : Bool) → names name ≡ None → (b ≡ true → name ≡ other) → cond b (Some x) (names other) ≡ option_or (names other) (cond b (Some x) None)
one_more names name other x true absent same =
    let e : names other ≡ None = ap names (sym (same refl)) ∙ absent in
    rw e refl
one_more names name other x false absent same = elim (names other) as (λ o. o ≡ option_or o None) [ None ↦ refl | Some m ↦ refl ]

-- the names of a map with one key more
pub add_value : {X : Type 0} (name : List ℕ) (m n : BTreeMap (Bor (List ℕ)) X) (x : X) → IsUpdate name m n x → at_name m name ≡ None → (other : List ℕ) → at_name n other ≡ added (at_name m) name x other
add_value name m n x updates absent other =
    btree_map_updates_str name m n (Some x) updates other ∙ one_more (at_name m) name other x (bytes_eq name other) absent ((bytes_eq-Decides name other).0)

seen_as : {X A : Type 0} (f : X → A) (a : Option X) (b : Bool) (x : X) → option_map f (option_or a (cond b (Some x) None)) ≡ option_or (option_map f a) (cond b (Some (f x)) None)
seen_as f None true x = refl
seen_as f None false x = refl
seen_as f (Some y) b x = refl

-- the names of a map with one key more, by what is seen of each value
pub add_new : {X A : Type 0} (f : X → A) (name : List ℕ) (m n : BTreeMap (Bor (List ℕ)) X) (x : X) → IsUpdate name m n x → at_name m name ≡ None → (other : List ℕ) → option_map f (at_name n other) ≡ added (λ q. option_map f (at_name m q)) name (f x) other
add_new f name m n x updates absent other =
    ap (option_map f) (add_value name m n x updates absent other)
    ∙ seen_as f (at_name m other) (bytes_eq name other) x

-- a value that is set
pub set_value : {X : Type 0} (name : List ℕ) (m n : BTreeMap (Bor (List ℕ)) X) (x : X) → IsUpdate name m n x → (other : List ℕ) → at_name n other ≡ cond (bytes_eq name other) (Some x) (at_name m other)
set_value name m n x updates other = btree_map_updates_str name m n (Some x) updates other

there : {X : Type 0} (b : Bool) (x : X) (o : Option X) → is_some (cond b (Some x) o) ≡ (is_some o || b)
there true x None = refl
there true x (Some y) = refl
there false x None = refl
there false x (Some y) = refl

-- the names of a map with one key more
pub has_new : {X : Type 0} (name : List ℕ) (m n : BTreeMap (Bor (List ℕ)) X) (x : X) → IsUpdate name m n x → (other : List ℕ) → is_some (at_name n other) ≡ (is_some (at_name m other) || bytes_eq name other)
has_new name m n x updates other = ap is_some (btree_map_updates_str name m n (Some x) updates other) ∙ there (bytes_eq name other) x (at_name m other)

-- functions that agree on each name
pub same_names : {A : Type 0} (m n : (List ℕ → A)) → ((name : List ℕ) → m name ≡ n name) → m ≡ n
same_names m n h = λ i name. h name i

-- A chain's tree is its split at the rightmost operator that binds least.
use Rattle.std.proofs.Common.{◌≡◌, ℕ, ◌+◌, ◌<◌, ◌≤◌, List, [], ◌∷◌, ◌++◌, refl, sym, ap, ◌∙◌, arith, append_assoc, subst, inl, inr}
use Rattle.std.proofs.lemmas.Bool.{le-ltb, lt-ltb, cases_lt}
use Rattle.std.proofs.lemmas.List.{append-nil}
use Rattle.dpi_chain.specs.Tree.{Tree, leaf, node, Link, with_link, with_links, tree_of}
use Rattle.dpi_chain.specs.Splits.{NoneBelow, Splits, ChainsSplit}

module _ {O V : Type 0} (rank : O → ℕ) where
  links_last : (t : Tree O V) (ks : List (Link O V)) (k : Link O V) → with_links rank t (ks ++ k ∷ []) ≡ with_link rank (with_links rank t ks) k.operator k.operand
  links_last t [] k = refl
  links_last t (j ∷ ks) k = links_last (with_link rank t j.operator j.operand) ks k

  below_less : (m n : ℕ) (ks : List (Link O V)) → m ≤ n → NoneBelow rank n ks → NoneBelow rank m ks
  below_less m n [] e h = tt
  below_less m n (k ∷ ks) e h = (omega (arith, e, h.0), below_less m n ks e h.1)

  below_both : (n : ℕ) (js ks : List (Link O V)) → NoneBelow rank n js → NoneBelow rank n ks → NoneBelow rank n (js ++ ks)
  below_both n [] ks h i = i
  below_both n (j ∷ js) ks h i = (h.0, below_both n js ks h.1 i)

  -- behind an operator that binds less
  inside : (first : V) (ks : List (Link O V)) (k : Link O V) (s : Splits rank first ks (tree_of rank first ks)) → rank s.at.operator < rank k.operator
      → Splits rank first (ks ++ k ∷ []) (tree_of rank first (ks ++ k ∷ []))
  inside first ks k s less = record {
    before = s.before;
    at = s.at;
    behind = s.behind ++ k ∷ [];
    whole = ap (λ xs. xs ++ k ∷ []) s.whole ∙ append_assoc s.before (s.at ∷ s.behind) (k ∷ []);
    least = s.least;
    last = below_both (rank s.at.operator + 1) s.behind (k ∷ []) s.last (omega (arith, less), tt);
    is = links_last (leaf first) ks k
        ∙ ap (λ t. with_link rank t k.operator k.operand) s.is
        ∙ rw (lt-ltb (rank s.at.operator) (rank k.operator) less) refl
        ∙ ap (node s.at.operator (tree_of rank first s.before)) (sym (links_last (leaf s.at.operand) s.behind k));
  }

  -- at an operator that binds no more than the whole
  outside : (first : V) (ks : List (Link O V)) (k : Link O V) (s : Splits rank first ks (tree_of rank first ks)) → rank k.operator ≤ rank s.at.operator
      → Splits rank first (ks ++ k ∷ []) (tree_of rank first (ks ++ k ∷ []))
  outside first ks k s more = record {
    before = ks;
    at = k;
    behind = [];
    whole = refl;
    least = rw s.whole (below_both (rank k.operator) s.before (s.at ∷ s.behind) (below_less (rank k.operator) (rank s.at.operator) s.before more s.least)
        (more, below_less (rank k.operator) (rank s.at.operator + 1) s.behind (omega (arith, more)) s.last));
    last = tt;
    is = links_last (leaf first) ks k
        ∙ ap (λ t. with_link rank t k.operator k.operand) s.is
        ∙ rw (le-ltb (rank s.at.operator) (rank k.operator) more) refl
        ∙ ap (λ t. node k.operator t (leaf k.operand)) (sym s.is);
  }

  more : (first : V) (ks : List (Link O V)) (k : Link O V) → Splits rank first ks (tree_of rank first ks) → Splits rank first (ks ++ k ∷ []) (tree_of rank first (ks ++ k ∷ []))
  more first ks k s = elim (cases_lt (rank s.at.operator) (rank k.operator)) [ inl h ↦ inside first ks k s h | inr h ↦ outside first ks k s h ]

  all : (first : V) (ks js : List (Link O V)) → Splits rank first ks (tree_of rank first ks) → Splits rank first (ks ++ js) (tree_of rank first (ks ++ js))
  all first ks [] s = rw (append-nil ks) s
  all first ks (j ∷ js) s = subst (λ xs. Splits rank first xs (tree_of rank first xs)) (append_assoc ks (j ∷ []) js) (all first (ks ++ j ∷ []) js (more first ks j s))

  one : (first : V) (k : Link O V) → Splits rank first (k ∷ []) (tree_of rank first (k ∷ []))
  one first k = record { before = []; at = k; behind = []; whole = refl; least = tt; last = tt; is = refl }

  pub chains_split : ChainsSplit O V rank
  chains_split first k ks = all first (k ∷ []) ks (one first k)

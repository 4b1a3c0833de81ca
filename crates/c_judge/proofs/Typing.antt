-- Chains of operators over what is kept of their operands.
use Rattle.std.proofs.Common.{◌≡◌, Bool, true, false, List, [], ◌∷◌, refl, sym, ap, ◌∙◌}
use Rattle.std.specs.Prelude.{map, nat_lt, if◌then◌else◌}
use Rattle.dpi_chain.specs.Tree.{Tree, leaf, node, with_link, with_links, tree_of, value_of}
use Rattle.c_typing.specs.declared.chain.Sign.{Sign}
use Rattle.c_typing.specs.declared.chain.Typed.{Typed}
use Rattle.c_typing.specs.Judged.{Judged}
use Rattle.c_typing.specs.Binary.{binary_judged, binary_typed, typed}
use Rattle.c_typing.proofs.Kept.{typed_joins}
use Rattle.c_judge.specs.Judge.{Links, binds, chain_judged, link_typed}

-- a tree with what is kept at its leaves
abbrev tree_typed : Tree Sign Judged → Tree Sign Typed
tree_typed (leaf j) = leaf (typed j)
tree_typed (node o l r) = node o (tree_typed l) (tree_typed r)

value_typed : (t : Tree Sign Judged) → value_of binary_typed (tree_typed t) ≡ typed (value_of binary_judged t)
value_typed (leaf j) = refl
value_typed (node o l r) =
    ap (λ (p : Typed). binary_typed o p (value_of binary_typed (tree_typed r))) (value_typed l)
    ∙ ap (λ (p : Typed). binary_typed o (typed (value_of binary_judged l)) p) (value_typed r)
    ∙ sym (typed_joins o (value_of binary_judged l) (value_of binary_judged r))

-- at an operator that binds more than the tree's own, or not
hung_by : (b : Bool) (p o : Sign) (l r more : Tree Sign Judged) (w : Judged) → (kept : Tree Sign Typed) → kept ≡ tree_typed more
    → (if b then node p (tree_typed l) kept else node o (node p (tree_typed l) (tree_typed r)) (leaf (typed w)))
    ≡ tree_typed (if b then node p l more else node o (node p l r) (leaf w))
hung_by true p o l r more w kept h = ap (λ t. node p (tree_typed l) t) h
hung_by false p o l r more w kept h = refl

link_hung : (t : Tree Sign Judged) (o : Sign) (w : Judged) → with_link binds (tree_typed t) o (typed w) ≡ tree_typed (with_link binds t o w)
link_hung (leaf v) o w = refl
link_hung (node p l r) o w = hung_by (nat_lt (binds p) (binds o)) p o l r (with_link binds r o w) w (with_link binds (tree_typed r) o (typed w)) (link_hung r o w)

links_hung : (t : Tree Sign Judged) (ks : List Links) → with_links binds (tree_typed t) (map link_typed ks) ≡ tree_typed (with_links binds t ks)
links_hung t [] = refl
links_hung t (k ∷ ks) =
    ap (λ s. with_links binds s (map link_typed ks)) (link_hung t k.operator k.operand) ∙ links_hung (with_link binds t k.operator k.operand) ks

-- a chain over what is kept of its operands comes to what is kept of the chain
pub chains_typed : (first : Judged) (rest : List Links) → value_of binary_typed (tree_of binds (typed first) (map link_typed rest)) ≡ typed (chain_judged first rest)
chains_typed first rest =
    ap (λ t. value_of binary_typed t) (links_hung (leaf first) rest) ∙ value_typed (tree_of binds first rest)

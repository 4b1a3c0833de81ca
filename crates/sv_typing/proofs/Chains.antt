-- Chains of operators over what is kept of their operands.
use Rattle.std.proofs.Common.{◌≡◌, ℕ, Bool, true, false, List, [], ◌∷◌, ◌++◌, refl, sym, ap, ◌∙◌, Option, Some, None}
use Rattle.std.specs.Prelude.{map, nat_lt, if◌then◌else◌}
use Rattle.dpi_rules.specs.declared.violation.Violation.{Violation}
use Rattle.dpi_rules.specs.Order.{joined}
use Rattle.dpi_rules.specs.Least.{noted, least}
use Rattle.dpi_rules.proofs.Firsts.{noted-append, joined_is_least}
use Rattle.dpi_chain.specs.Tree.{Tree, Link, leaf, node, with_link, with_links, tree_of, value_of}
use Rattle.sv_typing.specs.declared.operators.Binary.{Binary}
use Rattle.sv_typing.specs.declared.operators.Part.{Part}
use Rattle.sv_typing.specs.Judged.{Judged, kept}
use Rattle.sv_typing.specs.Operators.{operated, between, part_between}
use Rattle.sv_typing.specs.Chains.{binds, chain_judged, link_kept, ChainsAreKept}

-- the least of two lists and a third, one behind the other
least_of_three : (us vs ws : List Violation) → least ((us ++ vs) ++ ws) ≡ noted (joined (least us) (least vs)) ws
least_of_three us vs ws = noted-append None (us ++ vs) ws ∙ ap (λ o. noted o ws) (joined_is_least us vs)

between_kept : (o : Binary) (l r : Judged) → part_between o (kept l) (kept r) ≡ kept (between o l r)
between_kept o l r =
    let last = operated o.file o.token o.operator l.value r.value in
    ap (λ (f : Option Violation). let p : Part = record { found = f; value = last.value } in p) (sym (least_of_three l.found r.found last.found))

-- a tree with what is kept at its leaves
abbrev tree_kept : Tree Binary Judged → Tree Binary Part
tree_kept (leaf j) = leaf (kept j)
tree_kept (node o l r) = node o (tree_kept l) (tree_kept r)

value_kept : (t : Tree Binary Judged) → value_of part_between (tree_kept t) ≡ kept (value_of between t)
value_kept (leaf j) = refl
value_kept (node o l r) =
    ap (λ (p : Part). part_between o p (value_of part_between (tree_kept r))) (value_kept l)
    ∙ ap (λ (p : Part). part_between o (kept (value_of between l)) p) (value_kept r)
    ∙ between_kept o (value_of between l) (value_of between r)

-- at an operator that binds more than the tree's own, or not
hung_by : (b : Bool) (p o : Binary) (l r more : Tree Binary Judged) (w : Judged) → (moreKept : Tree Binary Part) → moreKept ≡ tree_kept more
    → (if b then node p (tree_kept l) moreKept else node o (node p (tree_kept l) (tree_kept r)) (leaf (kept w)))
    ≡ tree_kept (if b then node p l more else node o (node p l r) (leaf w))
hung_by true p o l r more w moreKept h = ap (λ t. node p (tree_kept l) t) h
hung_by false p o l r more w moreKept h = refl

link_hung : (t : Tree Binary Judged) (o : Binary) (w : Judged) → with_link binds (tree_kept t) o (kept w) ≡ tree_kept (with_link binds t o w)
link_hung (leaf v) o w = refl
link_hung (node p l r) o w = hung_by (nat_lt (binds p) (binds o)) p o l r (with_link binds r o w) w (with_link binds (tree_kept r) o (kept w)) (link_hung r o w)

links_hung : (t : Tree Binary Judged) (ks : List (Link Binary Judged)) → with_links binds (tree_kept t) (map link_kept ks) ≡ tree_kept (with_links binds t ks)
links_hung t [] = refl
links_hung t (k ∷ ks) =
    ap (λ s. with_links binds s (map link_kept ks)) (link_hung t k.operator k.operand) ∙ links_hung (with_link binds t k.operator k.operand) ks

pub chains_kept : ChainsAreKept
chains_kept first rest =
    ap (λ t. value_of part_between t) (links_hung (leaf first) rest) ∙ value_kept (tree_of binds first rest)

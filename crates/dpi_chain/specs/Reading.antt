-- For which tree a chain stands that is read from the left.
use Rattle.std.specs.Prelude.{◌≡◌, ℕ, ◌+◌, ◌≤◌, List, [], ◌∷◌}
use Rattle.dpi_chain.specs.Tree.{Tree, leaf, node, value_of}
use Rattle.dpi_chain.specs.declared.chain.Open.{Open}
use Rattle.dpi_chain.specs.declared.chain.Chain.{Chain}

module _ {O V : Type 0} (rank : O → ℕ) (joined : O → V → V → V) where
  -- the tree's own operator, where it has one, binds at least so strongly
  abbrev pub IsAbove : ℕ → Tree O V → Type 0
  IsAbove floor (leaf v) = Unit {0}
  IsAbove floor (node o l r) = floor ≤ rank o

  -- Operators whose right operands aren't complete, the outermost first, and the value of what stands behind the last of them. They
  -- bind more and more strongly, from the first number on and below the second; what stands behind them binds at least as the third says.
  abbrev pub StandsFor : ℕ → ℕ → ℕ → List (Open O V) → V → Tree O V → Type 0
  StandsFor low high floor [] v t = (low ≤ high) × IsAbove floor t × (v ≡ value_of joined t)
  StandsFor low high floor (f ∷ fs) v (leaf w) = ⊥
  StandsFor low high floor (f ∷ fs) v (node o l r) = (low ≤ rank o) × (f.operator ≡ o) × (f.left ≡ value_of joined l) × StandsFor (rank o + 1) high floor fs v r

  -- behind an operand
  pub record Reads (c : Chain O V) (t : Tree O V) : Type 0 where
    pub high : ℕ
    pub stands : (floor : ℕ) → StandsFor 0 high floor c.pending.items c.value t

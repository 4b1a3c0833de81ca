-- A chain means its split at the rightmost operator that binds least.
use Rattle.std.specs.Prelude.{◌≡◌, ℕ, ◌+◌, ◌≤◌, List, [], ◌∷◌, ◌++◌}
use Rattle.dpi_chain.specs.Tree.{Tree, node, Link, tree_of}

module _ {O V : Type 0} (rank : O → ℕ) where
  -- none of these binds less than that
  abbrev pub NoneBelow : ℕ → List (Link O V) → Type 0
  NoneBelow n [] = Unit {0}
  NoneBelow n (k ∷ ks) = (n ≤ rank k.operator) × NoneBelow n ks

  -- the chain is split at an operator: none before it binds less, and each behind it binds more
  pub record Splits (first : V) (rest : List (Link O V)) (t : Tree O V) : Type 0 where
    pub before : List (Link O V)
    pub at : Link O V
    pub behind : List (Link O V)
    pub whole : rest ≡ before ++ at ∷ behind
    pub least : NoneBelow (rank at.operator) before
    pub last : NoneBelow (rank at.operator + 1) behind
    pub is : t ≡ node at.operator (tree_of rank first before) (tree_of rank at.operand behind)

-- each chain of an operator or more is split so
abbrev pub ChainsSplit : (O V : Type 0) → (O → ℕ) → Type 0
ChainsSplit O V rank = (first : V) (k : Link O V) (ks : List (Link O V)) → Splits rank first (k ∷ ks) (tree_of rank first (k ∷ ks))

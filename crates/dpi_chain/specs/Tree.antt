-- Operator chains as trees. Operators are told apart by how strongly they bind: their rank.
use Rattle.std.specs.Prelude.{ℕ, List, [], ◌∷◌, if◌then◌else◌, nat_lt}

pub data Tree (O V : Type 0) : Type 0 where
  leaf : V → Tree O V
  node : O → Tree O V → Tree O V → Tree O V

-- an operator of a chain and the operand behind it
pub record Link (O V : Type 0) : Type 0 where
  pub operator : O
  pub operand : V

-- A tree with one more operator behind it: what ends the tree and binds at least as strongly is complete.
abbrev pub with_link : {O V : Type 0} → (O → ℕ) → Tree O V → O → V → Tree O V
with_link rank (leaf v) o w = node o (leaf v) (leaf w)
with_link rank (node p l r) o w = if nat_lt (rank p) (rank o) then node p l (with_link rank r o w) else node o (node p l r) (leaf w)

abbrev pub with_links : {O V : Type 0} → (O → ℕ) → Tree O V → List (Link O V) → Tree O V
with_links rank t [] = t
with_links rank t (k ∷ ks) = with_links rank (with_link rank t k.operator k.operand) ks

-- the tree of a chain
abbrev pub tree_of : {O V : Type 0} → (O → ℕ) → V → List (Link O V) → Tree O V
tree_of rank first rest = with_links rank (leaf first) rest

-- what a tree comes to
abbrev pub value_of : {O V : Type 0} → (O → V → V → V) → Tree O V → V
value_of joined (leaf v) = v
value_of joined (node o l r) = joined o (value_of joined l) (value_of joined r)

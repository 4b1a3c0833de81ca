-- Chains of binary operators over judged operands, and over what is kept of them.
use Rattle.std.specs.Prelude.{◌≡◌, ℕ, List, map}
use Rattle.dpi_chain.specs.Tree.{Tree, Link, leaf, node, tree_of, value_of}
use Rattle.sv_typing.specs.declared.operators.Binary.{Binary}
use Rattle.sv_typing.specs.declared.operators.Part.{Part}
use Rattle.sv_typing.specs.Judged.{Judged, kept}
use Rattle.sv_typing.specs.Operators.{rank_of, between, part_between}

-- how strongly an operator binds
abbrev pub binds : Binary → ℕ
binds o = rank_of o.operator

-- what a chain violates, and what it is
abbrev pub chain_judged : Judged → List (Link Binary Judged) → Judged
chain_judged first rest = value_of between (tree_of binds first rest)

-- what is kept of an operator's right operand
abbrev pub link_kept : Link Binary Judged → Link Binary Part
link_kept k = record { operator = k.operator; operand = kept k.operand }

-- a chain over what is kept of its operands comes to what is kept of the chain
abbrev pub ChainsAreKept : Type 0
ChainsAreKept = (first : Judged) (rest : List (Link Binary Judged)) →
    value_of part_between (tree_of binds (kept first) (map link_kept rest)) ≡ kept (chain_judged first rest)

-- Expressions that are one number.
use Rattle.std.specs.Prelude.{ℕ, Option, Some, None, List, [], ◌∷◌}
use Rattle.c_tree.specs.declared.expr.CExpr.{CExpr, out-CExpr}
use Rattle.c_tree.specs.declared.expr.Cond.{Cond, out-Cond}
use Rattle.c_tree.specs.declared.expr.Chain.{Chain, out-Chain}
use Rattle.c_tree.specs.declared.expr.Operand.{Operand, out-Operand}
use Rattle.c_tree.specs.declared.expr.Primary.{Primary, out-Primary}
use Rattle.c_tree.specs.declared.expr.Primary.TheOpen.{Primary-F}

-- with none of these around it
abbrev pub alone : {A B : Type 0} → List A → Option B → Option B
alone [] o = o
alone (x ∷ xs) o = None

-- with no `?` behind it
abbrev pub unchosen : {A B : Type 0} → Option A → Option B → Option B
unchosen None o = o
unchosen (Some x) o = None

-- the bytes of a number, by the layer of an operand
abbrev pub layer_number : {P S A E C H D O T : Type 0} → Primary-F P S A E C H D O T → Option (List ℕ)
layer_number (Primary-F.Number n) = Some n.bytes
layer_number _ = None

abbrev pub primary_number : Primary → Option (List ℕ)
primary_number p = layer_number (out-Primary p)

abbrev pub operand_number : Operand → Option (List ℕ)
operand_number o = alone (out-Operand o).prefixes (alone (out-Operand o).suffixes (primary_number (out-Operand o).primary))

abbrev pub chain_number : Chain → Option (List ℕ)
chain_number c = alone (out-Chain c).rest (operand_number (out-Chain c).first)

abbrev pub cond_number : Cond → Option (List ℕ)
cond_number c = unchosen (out-Cond c).choice (chain_number (out-Cond c).chain)

-- the bytes of the number token that an expression is
abbrev pub number_in : CExpr → Option (List ℕ)
number_in e = alone (out-CExpr e).rest (cond_number (out-CExpr e).first)

-- the bytes of the number token that is the one argument
abbrev pub one_number : List CExpr → Option (List ℕ)
one_number [] = None
one_number (e ∷ []) = number_in e
one_number (e ∷ f ∷ es) = None

-- Expressions that are a number, or a `-` and a number.
use Rattle.std.specs.Prelude.{ℕ, Bool, true, false, List, [], ◌∷◌, Option, Some, None, if◌then◌else◌}
use denote.Enum.Bare.{sameb}
use Rattle.sv_tree.specs.contracts.operators.UnaryOperator.{the_type}
use Rattle.sv_tree.specs.declared.operators.UnaryOperator.TheVariants as unary
use Rattle.sv_tree.specs.declared.leaves.Number.{Number}
use Rattle.sv_tree.specs.declared.leaves.Bound.{Bound}
use Rattle.sv_tree.specs.declared.expr.Prefix.{Prefix}
use Rattle.sv_tree.specs.declared.expr.Expr.{Expr, out-Expr}
use Rattle.sv_tree.specs.declared.expr.Choice.{Choice}
use Rattle.sv_tree.specs.declared.expr.Chain.{Chain, out-Chain}
use Rattle.sv_tree.specs.declared.expr.Term.{Term}
use Rattle.sv_tree.specs.declared.expr.Operand.{Operand, out-Operand}
use Rattle.sv_tree.specs.declared.expr.Primary.{Primary, out-Primary}
use Rattle.sv_tree.specs.declared.expr.Select.{Select}
use Rattle.sv_tree.specs.declared.expr.Call.{Call}
use Rattle.sv_tree.specs.declared.expr.Lvalue.{Lvalue}
use Rattle.sv_tree.specs.declared.expr.Primary.TheOpen.{Primary-F}

-- whether a `-` stands there, where nothing else does
abbrev pub sign_of : List Prefix → Option Bool
sign_of [] = Some false
sign_of (p ∷ []) = if sameb the_type p.operator unary.Minus then Some true else None
sign_of (p ∷ q ∷ ps) = None

-- a primary by its layer
abbrev pub Layer : Type 0
Layer = Primary-F Primary Select Call Chain Choice Expr Lvalue Operand Term

abbrev pub layer_number : Layer → Option Number
layer_number (Primary-F.Number n) = Some n
layer_number _ = None

-- the number that an operand is, without its prefixes
abbrev pub number_in : Primary → Option Number
number_in p = layer_number (out-Primary p)

abbrev pub bound_by : ℕ → Option Bool → Option Number → Option Bound
bound_by k (Some b) (Some n) = Some (record { token = k; negative = b; number = n })
bound_by k (Some b) None = None
bound_by k None o = None

abbrev pub operand_bound : ℕ → Operand → Option Bound
operand_bound k x = bound_by k (sign_of (out-Operand x).prefixes) (number_in (out-Operand x).primary)

abbrev pub alone : ℕ → Operand → List Term → Option Bound
alone k x [] = operand_bound k x
alone k x (t ∷ ts) = None

abbrev pub chain_bound : ℕ → Chain → Option Bound
chain_bound k c = alone k (out-Chain c).first (out-Chain c).rest

abbrev pub unchosen : ℕ → Chain → Option Choice → Option Bound
unchosen k c None = chain_bound k c
unchosen k c (Some x) = None

-- the bound that an expression is
abbrev pub bound_of : Expr → Option Bound
bound_of e = unchosen (out-Expr e).token (out-Expr e).chain (out-Expr e).choice

abbrev pub positive : Option Bound → Option Number
positive None = None
positive (Some b) = if b.negative then None else Some b.number

-- the number that an expression is
abbrev pub number_of : Expr → Option Number
number_of e = positive (bound_of e)

-- Expressions that are one string token, and what a call of printf violates.
use Rattle.std.specs.Prelude.{ℕ, Bool, false, Option, Some, None, List, [], ◌∷◌}
use Rattle.dpi_rules.specs.declared.violation.Violation.{Violation}
use Rattle.c_tree.specs.declared.expr.Prefix.{Prefix}
use Rattle.c_tree.specs.declared.expr.CExpr.{CExpr, out-CExpr}
use Rattle.c_tree.specs.declared.expr.Assignment.{Assignment}
use Rattle.c_tree.specs.declared.expr.Cond.{Cond, out-Cond}
use Rattle.c_tree.specs.declared.expr.Choice.{Choice}
use Rattle.c_tree.specs.declared.expr.Chain.{Chain, out-Chain}
use Rattle.c_tree.specs.declared.expr.Term.{Term}
use Rattle.c_tree.specs.declared.expr.Operand.{Operand as OperandTree, out-Operand}
use Rattle.c_tree.specs.declared.expr.Primary.{Primary, out-Primary}
use Rattle.c_tree.specs.declared.expr.Suffix.{Suffix}
use Rattle.c_tree.specs.declared.expr.Primary.TheOpen.{Primary-F}
use Rattle.c_typing.specs.declared.place.Place.{Place}
use Rattle.c_typing.specs.declared.operand.Operand.{Operand}
use Rattle.c_typing.specs.Judged.{unless, rule_at}
use Rattle.c_printf.specs.Arguments.{text_fits}

-- a primary by its layer
abbrev pub Layer : Type 0
Layer = Primary-F Primary Suffix Assignment CExpr Chain Choice Cond OperandTree Term

abbrev pub layer_string : Layer → Option (List ℕ)
layer_string (Primary-F.Text t) = Some t.bytes
layer_string _ = None

-- the bytes of the string that a primary is
abbrev pub primary_string : Primary → Option (List ℕ)
primary_string p = layer_string (out-Primary p)

abbrev pub bare_string : List Prefix → List Suffix → Primary → Option (List ℕ)
bare_string [] [] p = primary_string p
bare_string [] (s ∷ ss) p = None
bare_string (x ∷ xs) ss p = None

abbrev pub operand_string : OperandTree → Option (List ℕ)
operand_string x = bare_string (out-Operand x).prefixes (out-Operand x).suffixes (out-Operand x).primary

abbrev pub alone : OperandTree → List Term → Option (List ℕ)
alone x [] = operand_string x
alone x (t ∷ ts) = None

abbrev pub chain_string : Chain → Option (List ℕ)
chain_string c = alone (out-Chain c).first (out-Chain c).rest

abbrev pub unchosen : Chain → Option Choice → Option (List ℕ)
unchosen c None = chain_string c
unchosen c (Some x) = None

abbrev pub cond_string : Cond → Option (List ℕ)
cond_string c = unchosen (out-Cond c).chain (out-Cond c).choice

abbrev pub unassigned : Cond → List Assignment → Option (List ℕ)
unassigned c [] = cond_string c
unassigned c (a ∷ xs) = None

-- the bytes of the string token that an expression is
abbrev pub string_of : CExpr → Option (List ℕ)
string_of e = unassigned (out-CExpr e).first (out-CExpr e).rest

-- arguments fit a string, where there is one
abbrev pub fits : Option (List ℕ) → List (Option Operand) → Bool
fits None xs = false
fits (Some bytes) xs = text_fits bytes xs

-- the first argument is a string, and the others fit it
abbrev pub arguments_fit : List CExpr → List (Option Operand) → Bool
arguments_fit [] xs = false
arguments_fit (e ∷ es) xs = fits (string_of e) xs

-- rule 17 at the called name: no string stands first, or the arguments behind it don't fit
abbrev pub printf_violations : Place → Bool → List Violation
printf_violations p fits = rule_at p (unless fits 17)

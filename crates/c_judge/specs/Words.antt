-- Expressions that are one token.
use Rattle.std.specs.Prelude.{ℕ, Bool, true, false, Option, Some, None, List, [], ◌∷◌}
use Rattle.c_tree.specs.declared.expr.CExpr.{CExpr, out-CExpr}
use Rattle.c_tree.specs.declared.expr.Chain.{Chain, out-Chain}
use Rattle.c_tree.specs.declared.expr.Cond.{Cond, out-Cond}
use Rattle.c_tree.specs.declared.expr.Operand.{Operand as OperandTree, out-Operand}
use Rattle.c_tree.specs.declared.expr.Primary.{Primary, out-Primary}
use Rattle.c_tree.specs.declared.expr.Primary.TheOpen.{Primary-F}

-- a number token, a string token by its bytes, or anything else
pub data Word : Type 0 where
  number : Word
  text : List ℕ → Word
  other : Word

abbrev pub is_number : Word → Bool
is_number number = true
is_number (text bytes) = false
is_number other = false

-- the bytes of the string that it is
abbrev pub text_in : Word → Option (List ℕ)
text_in number = None
text_in (text bytes) = Some bytes
text_in other = None

-- an operand without prefixes and suffixes, by its layer
abbrev pub layer_word : {P S A E C H D O T : Type 0} → Primary-F P S A E C H D O T → Word
layer_word (Primary-F.Number n) = number
layer_word (Primary-F.Text t) = text t.bytes
layer_word _ = other

-- without prefixes and suffixes
abbrev pub bare : {P S : Type 0} → List P → List S → Word → Word
bare [] [] w = w
bare [] (s ∷ ss) w = other
bare (p ∷ ps) ss w = other

-- with nothing behind it
abbrev pub alone : {A : Type 0} → Word → List A → Word
alone w [] = w
alone w (x ∷ xs) = other

-- with no `?` behind it
abbrev pub unchosen : {A : Type 0} → Word → Option A → Word
unchosen w None = w
unchosen w (Some x) = other

-- ---- the same of trees

abbrev pub primary_word : Primary → Word
primary_word p = layer_word (out-Primary p)

abbrev pub operand_word : OperandTree → Word
operand_word x = bare (out-Operand x).prefixes (out-Operand x).suffixes (primary_word (out-Operand x).primary)

abbrev pub chain_word : Chain → Word
chain_word c = alone (operand_word (out-Chain c).first) (out-Chain c).rest

abbrev pub cond_word : Cond → Word
cond_word c = unchosen (chain_word (out-Cond c).chain) (out-Cond c).choice

-- the token that an expression is
abbrev pub word_of : CExpr → Word
word_of e = alone (cond_word (out-CExpr e).first) (out-CExpr e).rest

-- arguments are one number token
abbrev pub is_one_number : List Word → Bool
is_one_number [] = false
is_one_number (w ∷ []) = is_number w
is_one_number (w ∷ v ∷ ws) = false

abbrev pub are_one_number : List CExpr → Bool
are_one_number [] = false
are_one_number (e ∷ []) = is_number (word_of e)
are_one_number (e ∷ f ∷ es) = false

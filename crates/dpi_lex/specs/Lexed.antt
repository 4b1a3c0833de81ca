use Rattle.std.specs.Prelude.{ℕ, List, [], ◌∷◌, ◌<◌, ◌≤◌, length}
use Rattle.dpi_lex.specs.declared.token.Token.{Token}

-- a text, and its tokens in their order
pub record Lexed : Type 0 where
  pub text : List ℕ
  pub tokens : List Token

-- a text of a file has at most a mebibyte
abbrev pub IsText : List ℕ → Type 0
IsText text = length text ≤ 1048576

-- the tokens rise from the place `from` up to the place `to`, and share no byte
abbrev pub AreSpans : ℕ → ℕ → List Token → Type 0
AreSpans from to [] = from ≤ to
AreSpans from to (t ∷ ts) = (from ≤ t.start) × (t.start < t.end) × AreSpans t.end to ts

-- the token has at least one byte, and its bytes are the text's
pub record IsInside (text : List ℕ) (t : Token) : Type 0 where
  pub some : t.start < t.end
  pub within : t.end ≤ length text

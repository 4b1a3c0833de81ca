use Rattle.std.specs.Prelude.{ℕ, List, length, map, slice_get, slice_range}
use Rattle.std.specs.Option.{option_map_or}
use Rattle.dpi_lex.specs.declared.token.Kind.{Kind}
use Rattle.dpi_lex.specs.declared.token.Token.{Token}
use Rattle.dpi_lex.specs.Lexed.{Lexed}

-- a token as a parser sees it: what it is, and its bytes
pub record Word : Type 0 where
  pub kind : Kind
  pub bytes : List ℕ

-- the word of a token: the text's bytes from its start up to its end
abbrev pub word_of : List ℕ → Token → Word
word_of text t = record { kind = t.kind; bytes = slice_range text t.start t.end }

-- the words of a text with tokens, in their order
abbrev pub words_of : Lexed → List Word
words_of l = map (word_of l.text) l.tokens

-- where the token of that number begins; the text's length where there is none
abbrev pub place_of : Lexed → ℕ → ℕ
place_of l i = option_map_or (λ t. t.start) (slice_get l.tokens i) (length l.text)

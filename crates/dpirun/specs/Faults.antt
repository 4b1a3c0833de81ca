-- With which code and at which place a text of a language is refused.
use Rattle.std.specs.Prelude.{◌≡◌, ◌≤◌, ◌<◌, ℕ, Bool, List, Result, Ok, Err, length, codes}
use Rattle.dpi_grammar.specs.Faults.{IsRefused, IsTooDeep}
use Rattle.dpi_grammar.specs.Told.{Told}
use Rattle.dpi_lex.specs.Languages.{sv_lexed, c_lexed}
use Rattle.dpi_lex.specs.Lexed.{Lexed}
use Rattle.dpi_lex.specs.Words.{Word, words_of, place_of}
use Rattle.dpi_lex.specs.declared.fault.LexFault.{LexFault}
use Rattle.dpi_lex.specs.declared.fault.LexFault.TheVariants as lex
use Rattle.dpi_lex.specs.declared.token.Token.{Token}
use Rattle.sv_cursor.specs.Reading as sv_reading
use Rattle.sv_tree.specs.Items as sv_items
use Rattle.c_cursor.specs.Reading as c_reading
use Rattle.c_tree.specs.File as c_file
use Rattle.dpirun.specs.declared.command.Language.{Language}
use Rattle.dpirun.specs.declared.command.Language.TheVariants.{SystemVerilog, C}
use Rattle.dpirun.specs.declared.refusal.Code.{Code}
use Rattle.dpirun.specs.declared.refusal.Code.TheVariants.{TooLong, BadByte, BadNumber, Unclosed, Syntax, TooDeep}

-- how a code is printed
abbrev pub code_bytes : Code → List ℕ
code_bytes TooLong = codes "TooLong"
code_bytes BadByte = codes "BadByte"
code_bytes BadNumber = codes "BadNumber"
code_bytes Unclosed = codes "Unclosed"
code_bytes Syntax = codes "Syntax"
code_bytes TooDeep = codes "TooDeep"

-- a text of a file has at most so many bytes, and a tree so many levels
abbrev pub most_bytes : ℕ
most_bytes = 1048576

abbrev pub most_levels : ℕ
most_levels = 24

-- the tokens of a text, or its first fault
abbrev pub Lexes : Type 0
Lexes = List ℕ → Result (List Token) LexFault

-- a text that isn't too long has tokens, of which this holds
pub record HasTokens (lexed : Lexes) (text : List ℕ) (P : Lexed → Type 0) : Type 0 where
  pub short : length text ≤ most_bytes
  pub tokens : List Token
  pub lexed_as : lexed text ≡ Ok tokens
  pub is : P (record { text = text; tokens = tokens })

-- a text that isn't too long has this fault
pub record HasFault (lexed : Lexes) (text : List ℕ) (fault : LexFault) : Type 0 where
  pub short : length text ≤ most_bytes
  pub lexed_as : lexed text ≡ Err fault

module _ {X : Type 0} (lexed : Lexes) (told : X → Told Word) (late : Word → Bool) where
  -- the text is refused with this code at this place, in bytes from 0
  abbrev pub IsFault : List ℕ → Code → ℕ → Type 0
  IsFault text TooLong place = (most_bytes < length text) × (place ≡ 0)
  IsFault text BadByte place = HasFault lexed text (lex.BadByte place)
  IsFault text BadNumber place = HasFault lexed text (lex.BadNumber place)
  IsFault text Unclosed place = HasFault lexed text (lex.Unclosed place)
  IsFault text Syntax place =
      HasTokens lexed text (λ l. (at : ℕ) × IsRefused told most_levels (words_of l) at × (place ≡ place_of l at))
  IsFault text TooDeep place =
      HasTokens lexed text (λ l. (at : ℕ) × IsTooDeep told late most_levels (words_of l) at × (place ≡ place_of l at))

-- the tokens of a text of that language, or its first fault
abbrev pub lexed_as : Language → Lexes
lexed_as SystemVerilog = sv_lexed
lexed_as C = c_lexed

-- a text is refused as a file of that language, with this code at this place
abbrev pub IsRefusal : Language → List ℕ → Code → ℕ → Type 0
IsRefusal SystemVerilog = IsFault sv_lexed sv_items.file_told sv_reading.late
IsRefusal C = IsFault c_lexed c_file.file_told c_reading.late

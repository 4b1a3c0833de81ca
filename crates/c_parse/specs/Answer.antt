-- What the parser answers to the words of a file. No parser stands here.
use Rattle.std.specs.Prelude.{◌≡◌, ◌≢◌, ℕ, List, Result, Ok, Err}
use Rattle.dpi_grammar.specs.Faults.{IsParsed, IsRefused, IsTooDeep}
use Rattle.dpi_lex.specs.Words.{Word}
use Rattle.c_tree.specs.declared.file.CFile.{CFile}
use Rattle.c_tree.specs.File.{file_told}
use Rattle.c_cursor.specs.Reading.{late}
use Rattle.c_parse.specs.declared.fault.ParseFault.{ParseFault}
use Rattle.c_parse.specs.declared.fault.ParseFault.TheVariants.{Syntax, TooDeep, NoMemory}

-- how many levels a tree may have
abbrev pub max_levels : ℕ
max_levels = 24

-- the one tree that these words are, the first word with which no tree goes on, or the word that opens a level too many
abbrev pub IsAnswer : List Word → Result CFile ParseFault → Type 0
IsAnswer ws (Ok file) = IsParsed file_told max_levels ws file
IsAnswer ws (Err (Syntax token)) = IsRefused file_told max_levels ws token
IsAnswer ws (Err (TooDeep token)) = IsTooDeep file_told late max_levels ws token
IsAnswer ws (Err NoMemory) = Unit {0}

-- two answers to the same words are the same answer, unless memory ran out
abbrev pub AnswerIsOne : Type 0
AnswerIsOne = (ws : List Word) (a b : Result CFile ParseFault) → a ≢ Err NoMemory → b ≢ Err NoMemory → IsAnswer ws a → IsAnswer ws b → a ≡ b

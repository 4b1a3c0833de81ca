-- What the answer to the words of a file has to be.
use Rattle.std.specs.Prelude.{◌≡◌, ◌≢◌, ℕ, ◌≤◌, List, length, Result, Ok, Err}
use Rattle.dpi_grammar.specs.Faults.{IsParsed, IsRefused, IsTooDeep, IsUnambiguous}
use Rattle.dpi_lex.specs.Words.{Word}
use Rattle.sv_tree.specs.declared.items.SvFile.{SvFile}
use Rattle.sv_tree.specs.Items.{file_told}
use Rattle.sv_cursor.specs.Reading.{late}
use Rattle.sv_parse.specs.declared.parser.ParseFault.{ParseFault}
use Rattle.sv_parse.specs.declared.parser.ParseFault.TheVariants as faults

-- how many levels a tree may have
abbrev pub max_levels : ℕ
max_levels = 24

-- The tree is the one that has these words. A refused token is the first with which no file goes on; a token is too deep where only
-- files of more levels go on with it. The end of the file counts as a token. Nothing is said where memory ran out.
abbrev pub IsAnswer : List Word → Result SvFile ParseFault → Type 0
IsAnswer ws (Ok file) = IsParsed file_told max_levels ws file
IsAnswer ws (Err (faults.Syntax at)) = IsRefused file_told max_levels ws at
IsAnswer ws (Err (faults.TooDeep at)) = IsTooDeep file_told late max_levels ws at
IsAnswer ws (Err faults.NoMemory) = Unit {0}

-- a fault names a token of the file or its end
abbrev pub IsWithin : ℕ → ParseFault → Type 0
IsWithin count (faults.Syntax at) = at ≤ count
IsWithin count (faults.TooDeep at) = at ≤ count
IsWithin count faults.NoMemory = Unit {0}

-- two files with the same words are the same file
abbrev pub FilesAreUnambiguous : Type 0
FilesAreUnambiguous = IsUnambiguous file_told

-- two answers to the same words are the same answer, unless memory ran out
abbrev pub AnswerIsOne : Type 0
AnswerIsOne = (ws : List Word) (a b : Result SvFile ParseFault) → a ≢ Err faults.NoMemory → b ≢ Err faults.NoMemory → IsAnswer ws a → IsAnswer ws b → a ≡ b

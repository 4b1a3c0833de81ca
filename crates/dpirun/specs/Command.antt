-- The command line.
use Rattle.std.specs.Prelude.{ℕ, Bool, ◌&&◌, ◌||◌, not, nat_eq, nat_lt, List, [], ◌∷◌, Option, Some, None, length, codes, if◌then◌else◌}
use Rattle.std.specs.List.{starts_with, ends_with, list_all}
use Rattle.dpirun.specs.declared.command.Language.{Language}
use Rattle.dpirun.specs.declared.command.Language.TheVariants.{SystemVerilog, C}

-- the word names a file with this ending
abbrev pub is_file_of : List ℕ → List ℕ → Bool
is_file_of ending word = ends_with nat_eq word ending && not (starts_with nat_eq word (codes "-"))

-- the word names a file of either language
abbrev pub is_file : List ℕ → Bool
is_file word = is_file_of (codes ".sv") word || is_file_of (codes ".c") word

-- the language of a file, by its name
abbrev pub language_of : List ℕ → Language
language_of name = if is_file_of (codes ".sv") name then SystemVerilog else C

-- the words of a command: 1 to 1,000 files
abbrev pub is_command : List (List ℕ) → Bool
is_command words = nat_lt 0 (length words) && nat_lt (length words) 1001 && list_all is_file words

-- the names of two files
pub record FileNames : Type 0 where
  pub sv : List ℕ
  pub c : List ℕ

-- the pair of files that the words are: one of SystemVerilog, and then one of C
abbrev pub pair_of : List (List ℕ) → Option FileNames
pair_of (sv ∷ c ∷ []) =
    if is_file_of (codes ".sv") sv && is_file_of (codes ".c") c then Some (record { sv = sv; c = c }) else None
pair_of _ = None

-- the first of the words
abbrev pub first_of : List (List ℕ) → List ℕ
first_of [] = []
first_of (word ∷ words) = word

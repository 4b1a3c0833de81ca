-- Files that are accepted by themselves, with their trees.
use Rattle.std.specs.Prelude.{◌≡◌, ◌≤◌, ℕ, Bool, not, List, [], ◌∷◌, Ok, Option, length, map, codes}
use Rattle.std.specs.List.{filter}
use Rattle.dpi_grammar.specs.Faults.{IsParsed}
use Rattle.dpi_grammar.specs.Told.{Told}
use Rattle.dpi_lex.specs.Lexed.{Lexed}
use Rattle.dpi_lex.specs.Words.{Word, words_of}
use Rattle.dpi_ports.specs.Told.{Contents, Holds}
use Rattle.sv_tree.specs.Items as sv_items
use Rattle.sv_tree.specs.declared.items.SvFile.{SvFile}
use Rattle.c_tree.specs.File as c_file
use Rattle.c_tree.specs.declared.file.CFile.{CFile}
use Rattle.dpirun.specs.Command.{is_file_of, language_of}
use Rattle.dpirun.specs.Faults.{most_bytes, most_levels, lexed_as}
use Rattle.dpirun.specs.declared.command.Language.{Language}
use Rattle.dpirun.specs.declared.command.Language.TheVariants.{SystemVerilog, C}

-- the name of a file, and its text with tokens
pub record Source : Type 0 where
  pub name : List ℕ
  pub lexed : Lexed

-- the files of each language in their order, and their trees
pub record Sources : Type 0 where
  pub sv : List Source
  pub sv_trees : List SvFile
  pub c : List Source
  pub c_trees : List CFile

-- the files of a language
abbrev pub files_of : Language → Sources → List Source
files_of SystemVerilog s = s.sv
files_of C s = s.c

-- the file of a command is one of that language
abbrev pub is_of : Language → List ℕ → Bool
is_of SystemVerilog file = is_file_of (codes ".sv") file
is_of C file = not (is_file_of (codes ".sv") file)

-- the names of files
abbrev pub names_of : List Source → List (List ℕ)
names_of = map (λ s. s.name)

module _ (told : Option Contents) where
  -- the file has that text, where its source tells that; it isn't too long, and has these tokens
  pub record IsSource (s : Source) : Type 0 where
    pub held : Holds told s.name s.lexed.text
    pub short : length s.lexed.text ≤ most_bytes
    pub lexed_is : lexed_as (language_of s.name) s.lexed.text ≡ Ok s.lexed.tokens

  -- so it is for each file, and each has the tree of its words
  abbrev pub AreRead : {X : Type 0} → (X → Told Word) → List Source → List X → Type 0
  AreRead tree_told [] [] = Unit {0}
  AreRead tree_told [] (tree ∷ trees) = ⊥
  AreRead tree_told (s ∷ sources) [] = ⊥
  AreRead tree_told (s ∷ sources) (tree ∷ trees) =
      IsSource s × IsParsed tree_told most_levels (words_of s.lexed) tree × AreRead tree_told sources trees

  -- these are the sources of the files of those names
  pub record AreSources (files : List (List ℕ)) (s : Sources) : Type 0 where
    pub sv_names : names_of s.sv ≡ filter (is_of SystemVerilog) files
    pub sv_read : AreRead sv_items.file_told s.sv s.sv_trees
    pub c_names : names_of s.c ≡ filter (is_of C) files
    pub c_read : AreRead c_file.file_told s.c s.c_trees

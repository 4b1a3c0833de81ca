-- What the reading of one file more adds to those before it.
use Rattle.std.specs.Prelude.{◌≡◌, ℕ, List, [], ◌∷◌, ◌++◌, Option}
use Rattle.dpi_grammar.specs.Faults.{IsParsed}
use Rattle.dpi_lex.specs.Words.{words_of}
use Rattle.dpi_ports.specs.Told.{Contents}
use Rattle.sv_tree.specs.Items as sv_items
use Rattle.sv_tree.specs.declared.items.SvFile.{SvFile}
use Rattle.c_tree.specs.File as c_file
use Rattle.c_tree.specs.declared.file.CFile.{CFile}
use Rattle.dpirun.specs.Faults.{most_levels}
use Rattle.dpirun.specs.Sources.{Source, Sources, AreSources}

-- a SystemVerilog file more
abbrev pub with_sv : Sources → Source → SvFile → Sources
with_sv s source tree =
    record { sv = s.sv ++ source ∷ []; sv_trees = s.sv_trees ++ tree ∷ []; c = s.c; c_trees = s.c_trees }

-- a C file more
abbrev pub with_c : Sources → Source → CFile → Sources
with_c s source tree =
    record { sv = s.sv; sv_trees = s.sv_trees; c = s.c ++ source ∷ []; c_trees = s.c_trees ++ tree ∷ [] }

-- there is this SystemVerilog file more, with the tree of its words
pub record AddsSv (source : Source) (old new : Sources) : Type 0 where
  pub tree : SvFile
  pub parsed : IsParsed sv_items.file_told most_levels (words_of source.lexed) tree
  pub is : new ≡ with_sv old source tree

-- there is this C file more, with the tree of its words
pub record AddsC (source : Source) (old new : Sources) : Type 0 where
  pub tree : CFile
  pub parsed : IsParsed c_file.file_told most_levels (words_of source.lexed) tree
  pub is : new ≡ with_c old source tree

-- the sources of any files become those of these files and this one
abbrev pub Adds : Option Contents → List ℕ → Sources → Sources → Type 0
Adds told file old new = (before : List (List ℕ)) → AreSources told before old → AreSources told (before ++ file ∷ []) new

-- A file more among those that were read.
use Rattle.std.proofs.Common.{◌≡◌, ◌≤◌, ℕ, suc, Bool, true, false, List, [], ◌∷◌, ◌++◌, Option, length, refl, sym, ap, ap₂, subst, ◌∙◌, append-nil, arith}
use Rattle.std.specs.Prelude.{if◌then◌else◌}
use Rattle.std.specs.List.{filter}
use Rattle.std.proofs.lemmas.List.{map-append, length-map}
use Rattle.std.proofs.lemmas.List.Elements.{filter-append}
use Rattle.std.proofs.lemmas.List.Filters.{length-filter_both}
use Rattle.dpi_grammar.specs.Faults.{IsParsed}
use Rattle.dpi_grammar.specs.Told.{Told}
use Rattle.dpi_lex.specs.Words.{Word, words_of}
use Rattle.dpi_ports.specs.Told.{Contents}
use Rattle.sv_tree.specs.Items as sv_items
use Rattle.c_tree.specs.File as c_file
use Rattle.dpirun.specs.Command.{language_of}
use Rattle.dpirun.specs.Faults.{most_levels}
use Rattle.dpirun.specs.Readings.{AddsSv, AddsC, Adds}
use Rattle.dpirun.specs.Sources.{Source, Sources, is_of, names_of, IsSource, AreRead, AreSources}
use Rattle.dpirun.specs.declared.command.Language.TheVariants.{SystemVerilog, C}

-- what a choice of a language says
chose_sv : (b : Bool) → (if b then SystemVerilog else C) ≡ SystemVerilog → b ≡ true
chose_sv true e = refl
chose_sv false e = cc

chose_c : (b : Bool) → (if b then SystemVerilog else C) ≡ C → b ≡ false
chose_c true e = cc
chose_c false e = refl

-- one element passes, or doesn't
filter_in : (p : List ℕ → Bool) (file : List ℕ) → p file ≡ true → filter p (file ∷ []) ≡ file ∷ []
filter_in p file holds = rw holds refl

filter_out : (p : List ℕ → Bool) (file : List ℕ) → p file ≡ false → filter p (file ∷ []) ≡ []
filter_out p file fails = rw fails refl

-- one name more, and one that is of another language
names_more : (p : List ℕ → Bool) (sources : List Source) (files : List (List ℕ)) (s : Source) (file : List ℕ) → s.name ≡ file → p file ≡ true
    → names_of sources ≡ filter p files → names_of (sources ++ s ∷ []) ≡ filter p (files ++ file ∷ [])
names_more p sources files s file is holds names =
    map-append (λ r. r.name) sources (s ∷ [])
    ∙ ap₂ (λ a b. a ++ b ∷ []) names is
    ∙ ap (λ t. filter p files ++ t) (sym (filter_in p file holds))
    ∙ sym (filter-append p files (file ∷ []))

names_same : (p : List ℕ → Bool) (sources : List Source) (files : List (List ℕ)) (file : List ℕ) → p file ≡ false
    → names_of sources ≡ filter p files → names_of sources ≡ filter p (files ++ file ∷ [])
names_same p sources files file fails names =
    names
    ∙ sym (append-nil (filter p files))
    ∙ ap (λ t. filter p files ++ t) (sym (filter_out p file fails))
    ∙ sym (filter-append p files (file ∷ []))

module _ (told : Option Contents) where
  -- one file more has its tree
  read_more : {X : Type 0} (tree_told : X → Told Word) (sources : List Source) (trees : List X) (s : Source) (tree : X)
      → AreRead told tree_told sources trees → IsSource told s → IsParsed tree_told most_levels (words_of s.lexed) tree
      → AreRead told tree_told (sources ++ s ∷ []) (trees ++ tree ∷ [])
  read_more tree_told [] [] s tree all is parsed = (is, parsed, tt)
  read_more tree_told [] (u ∷ trees) s tree all is parsed = absurd all
  read_more tree_told (r ∷ sources) [] s tree all is parsed = absurd all
  read_more tree_told (r ∷ sources) (u ∷ trees) s tree all is parsed =
      (all.0, all.1, read_more tree_told sources trees s tree all.2 is parsed)

  -- there are as many trees as files
  as_many : {X : Type 0} (tree_told : X → Told Word) (sources : List Source) (trees : List X) → AreRead told tree_told sources trees
      → length trees ≡ length sources
  as_many tree_told [] [] all = refl
  as_many tree_told [] (u ∷ trees) all = absurd all
  as_many tree_told (r ∷ sources) [] all = absurd all
  as_many tree_told (r ∷ sources) (u ∷ trees) all = ap (λ n. suc n) (as_many tree_told sources trees all.2)

  pub adds_sv : (file : List ℕ) (s : Source) (old new : Sources) → IsSource told s → s.name ≡ file → language_of file ≡ SystemVerilog
      → AddsSv s old new → Adds told file old new
  adds_sv file s old new is named language adds = λ before all.
      let sv : is_of SystemVerilog file ≡ true = chose_sv _ language in
      let c : is_of C file ≡ false = rw sv refl in
      let P : Sources → Type 0 = λ n. AreSources told (before ++ file ∷ []) n in
      subst P (sym adds.is) (record {
        sv_names = names_more (is_of SystemVerilog) old.sv before s file named sv all.sv_names;
        sv_read = read_more sv_items.file_told old.sv old.sv_trees s adds.tree all.sv_read is adds.parsed;
        c_names = names_same (is_of C) old.c before file c all.c_names;
        c_read = all.c_read;
      })

  pub adds_c : (file : List ℕ) (s : Source) (old new : Sources) → IsSource told s → s.name ≡ file → language_of file ≡ C
      → AddsC s old new → Adds told file old new
  adds_c file s old new is named language adds = λ before all.
      let sv : is_of SystemVerilog file ≡ false = chose_c _ language in
      let c : is_of C file ≡ true = rw sv refl in
      let P : Sources → Type 0 = λ n. AreSources told (before ++ file ∷ []) n in
      subst P (sym adds.is) (record {
        sv_names = names_same (is_of SystemVerilog) old.sv before file sv all.sv_names;
        sv_read = all.sv_read;
        c_names = names_more (is_of C) old.c before s file named c all.c_names;
        c_read = read_more c_file.file_told old.c old.c_trees s adds.tree all.c_read is adds.parsed;
      })

  -- no language has more trees than there are files
  pub few_sv : (files : List (List ℕ)) (s : Sources) → AreSources told files s → length files ≤ 1000 → length s.sv_trees ≤ 1000
  few_sv files s all few = omega (
    arith,
    few,
    as_many sv_items.file_told s.sv s.sv_trees all.sv_read,
    length-map s.sv (λ r. r.name),
    ap length all.sv_names,
    length-filter_both (is_of SystemVerilog) (is_of C) (λ x. refl) files,
  )

  pub few_c : (files : List (List ℕ)) (s : Sources) → AreSources told files s → length files ≤ 1000 → length s.c_trees ≤ 1000
  few_c files s all few = omega (
    arith,
    few,
    as_many c_file.file_told s.c s.c_trees all.c_read,
    length-map s.c (λ r. r.name),
    ap length all.c_names,
    length-filter_both (is_of SystemVerilog) (is_of C) (λ x. refl) files,
  )

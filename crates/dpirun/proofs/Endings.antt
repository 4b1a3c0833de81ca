-- No file is of both languages.
use Rattle.std.proofs.Common.{◌≡◌, ◌≤◌, ◌-◌, ◌+◌, ℕ, Bool, true, false, List, [], ◌∷◌, Some, None, length, drop, drop-drop, length-drop, codes, nat_eq, ◌&&◌, refl, sym, ap, subst, ◌∙◌, arith}
use Rattle.std.specs.Prelude.{if◌then◌else◌}
use Rattle.std.specs.List.{ends_with}
use Rattle.std.proofs.lemmas.Slice.Eq.{bytes_eq-Decides}
use Rattle.dpirun.specs.Command.{FileNames, is_file_of, language_of, pair_of}
use Rattle.dpirun.specs.declared.command.Language.TheVariants.{SystemVerilog, C}

-- no text has both endings
endings : (w : List ℕ) → ends_with nat_eq w (codes ".sv") ≡ true → ends_with nat_eq w (codes ".c") ≡ true → ⊥
endings w is_sv is_c =
    let sv : codes ".sv" ≡ drop (length w - 3) w = (bytes_eq-Decides (codes ".sv") (drop (length w - 3) w)).0 is_sv in
    let c : codes ".c" ≡ drop (length w - 2) w = (bytes_eq-Decides (codes ".c") (drop (length w - 2) w)).0 is_c in
    let long : 3 ≤ length w = omega (arith, ap length sv, length-drop (length w - 3) w) in
    let at : length w - 3 + 1 ≡ length w - 2 = omega arith in
    let same : drop 1 (codes ".sv") ≡ codes ".c" =
    ap (drop 1) sv ∙ drop-drop 1 (length w - 3) w ∙ ap (λ n. drop n w) at ∙ sym c in
    cc

-- both parts of a test that holds
parts : (a b : Bool) → (a && b) ≡ true → (a ≡ true) × (b ≡ true)
parts true b h = (refl, h)
parts false b h = cc

-- a file of C is none of SystemVerilog
c_is_no_sv : (c : List ℕ) → is_file_of (codes ".c") c ≡ true → is_file_of (codes ".sv") c ≡ false
c_is_no_sv c is_c = by (is_file_of (codes ".sv") c) refl
  where
    by : (b : Bool) → is_file_of (codes ".sv") c ≡ b → is_file_of (codes ".sv") c ≡ false
    by false is_sv = is_sv
    by true is_sv = absurd (endings c (parts _ _ is_sv).0 (parts _ _ is_c).0)

-- what a pair shows: its files, and the languages of both
pub record Shows (words : List (List ℕ)) (files : FileNames) : Type 0 where
  pub words_are : words ≡ files.sv ∷ files.c ∷ []
  pub sv_is : language_of files.sv ≡ SystemVerilog
  pub c_is : language_of files.c ≡ C

-- a choice that gave something
chosen : (b : Bool) (x y : FileNames) → (if b then Some x else None) ≡ Some y → (b ≡ true) × (x ≡ y)
chosen true x y e = (refl, cc)
chosen false x y e = cc

pub pair_shows : (words : List (List ℕ)) (files : FileNames) → pair_of words ≡ Some files → Shows words files
pair_shows [] files e = cc
pair_shows (a ∷ []) files e = cc
pair_shows (sv ∷ c ∷ []) files e =
    let h = chosen (is_file_of (codes ".sv") sv && is_file_of (codes ".c") c) (record { sv = sv; c = c }) files e in
    let both = parts _ _ h.0 in
    let P : FileNames → Type 0 = λ f. Shows (sv ∷ c ∷ []) f in
    subst P h.1 (record {
      words_are = refl;
      sv_is = ap (λ b. if b then SystemVerilog else C) both.0;
      c_is = ap (λ b. if b then SystemVerilog else C) (c_is_no_sv c both.1);
    })
pair_shows (a ∷ b ∷ d ∷ more) files e = cc

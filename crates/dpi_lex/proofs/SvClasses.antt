use Rattle.std.proofs.Common.{◌≡◌, ℕ, Bool, true, false, not, ◌&&◌, ◌||◌, List, ◌∷◌, get_or}
use Rattle.std.proofs.Common.{None, refl, ap, arith}
use Rattle.std.specs.Prelude.{codes, nat_eq}
use Rattle.std.specs.List.{list_all}
use Rattle.std.proofs.lemmas.Bool.Decides.{nat_tests}
use Rattle.dpi_lex.specs.declared.form.Form.TheVariants.{Skipped, Whole}
use Rattle.dpi_lex.specs.declared.language.Language.TheVariants.{SystemVerilog}
use Rattle.dpi_lex.specs.declared.token.Kind.TheVariants.{Word, Number, Sign}
use Rattle.dpi_lex.specs.Bytes.{is_blank, is_digit, is_name_start, is_name_byte, is_quote}
use Rattle.dpi_lex.specs.Bytes.{is_apostrophe, is_escape}
use Rattle.dpi_lex.specs.Place.{is_line_feed}
use Rattle.dpi_lex.specs.Shapes.{form_if, is_space, is_line_of, block_form, slash_form}
use Rattle.dpi_lex.specs.Shapes.{is_name, is_listed, text_form}
use Rattle.dpi_lex.specs.Digits.{number_if}
use Rattle.dpi_lex.specs.SvNumbers.{is_plain_stretch, is_plain_number, based_form, is_fill}
use Rattle.dpi_lex.specs.SvNumbers.{sv_number_form}
use Rattle.dpi_lex.specs.SystemVerilog.{sv_forms, sv_signs, sv_long_signs, sv_short_signs}
use Rattle.dpi_lex.specs.SystemVerilog.{system_names, apostrophe_form}
use Rattle.dpi_lex.proofs.Classes.{option_or-none, no_space, no_line, no_block, no_line_at, no_name}
use Rattle.dpi_lex.proofs.Classes.{no_text}
use Rattle.dpi_lex.proofs.Fronts.{is_listed-not}
use Rattle.dpi_lex.proofs.SvForms.{no_plain, no_fill}
use Rattle.dpi_lex.proofs.SvNumberLemmas.{no_based}

no_number : (b : ℕ) (more : List ℕ) → is_digit b ≡ false → is_apostrophe b ≡ false →
    sv_number_form (b ∷ more) ≡ None
no_number b more digit quote =
    let plain : form_if (is_plain_stretch (b ∷ more)) (number_if (is_plain_number (b ∷ more))) ≡
    None = no_plain b more digit in
    let based : based_form (b ∷ more) ≡ None = no_based b more digit quote in
    let fill : form_if (is_fill (b ∷ more)) (Whole Number) ≡ None = no_fill b more quote in
    rw (plain, based, fill) refl

no_system : (b : ℕ) (more : List ℕ) → nat_eq 36 b ≡ false →
    form_if (is_listed system_names (b ∷ more)) (Whole Word) ≡ None
unfolding system_names
no_system b more h =
    ap (λ t. form_if t (Whole Word))
    (is_listed-not (λ t. not (nat_eq 36 (get_or t 0 0))) system_names (b ∷ more) refl
    (ap not h))

no_sign : (p : ℕ → Bool) (b : ℕ) (more : List ℕ) →
    list_all (λ t. not (p (get_or t 0 0))) sv_signs ≡ true → p b ≡ true →
    form_if (is_listed sv_signs (b ∷ more)) (Whole Sign) ≡ None
no_sign p b more apart h =
    ap (λ t. form_if t (Whole Sign))
    (is_listed-not (λ t. p (get_or t 0 0)) sv_signs (b ∷ more) apart h)

signs-no_space : list_all (λ t. not ((λ (b : ℕ). is_blank b || is_line_feed b) (get_or t 0 0)))
    sv_signs ≡ true
unfolding sv_signs sv_long_signs sv_short_signs
signs-no_space = refl

signs-no_directive : list_all (λ t. not ((nat_eq 96) (get_or t 0 0))) sv_signs ≡ true
unfolding sv_signs sv_long_signs sv_short_signs
signs-no_directive = refl

signs-no_name : list_all (λ t. not ((is_name_start) (get_or t 0 0))) sv_signs ≡ true
unfolding sv_signs sv_long_signs sv_short_signs
signs-no_name = refl

signs-no_system : list_all (λ t. not ((nat_eq 36) (get_or t 0 0))) sv_signs ≡ true
unfolding sv_signs sv_long_signs sv_short_signs
signs-no_system = refl

signs-no_number : list_all (λ t. not ((is_digit) (get_or t 0 0))) sv_signs ≡ true
unfolding sv_signs sv_long_signs sv_short_signs
signs-no_number = refl

signs-no_text : list_all (λ t. not ((is_quote) (get_or t 0 0))) sv_signs ≡ true
unfolding sv_signs sv_long_signs sv_short_signs
signs-no_text = refl

-- what begins so can be nothing else
pub sv_forms-space : (begins : Bool) (b : ℕ) (more after : List ℕ) →
    (is_blank b || is_line_feed b) ≡ true →
    sv_forms begins (b ∷ more) after ≡ form_if (is_space (b ∷ more)) Skipped
sv_forms-space begins b more after start =
    let line : form_if (is_line_of (codes "//") (b ∷ more)) Skipped ≡ None =
    no_line b more (grind (arith, nat_tests)) in
    let block : block_form (b ∷ more) ≡ None = no_block b more (grind (arith, nat_tests)) in
    let directive : form_if (begins && is_line_of (codes "`timescale") (b ∷ more)) Skipped ≡ None =
    no_line_at begins 96 (codes "timescale") b more (grind (arith, nat_tests)) in
    let name : form_if (is_name (is_name_byte SystemVerilog) (b ∷ more)) (Whole Word) ≡ None =
    no_name (is_name_byte SystemVerilog) b more (grind (arith, nat_tests)) in
    let system : form_if (is_listed system_names (b ∷ more)) (Whole Word) ≡ None =
    no_system b more (grind (arith, nat_tests)) in
    let number : sv_number_form (b ∷ more) ≡ None =
    no_number b more (grind (arith, nat_tests)) (grind (arith, nat_tests)) in
    let text : text_form (is_escape SystemVerilog) (b ∷ more) ≡ None =
    no_text (is_escape SystemVerilog) b more (grind (arith, nat_tests)) in
    let sign : form_if (is_listed sv_signs (b ∷ more)) (Whole Sign) ≡ None =
    no_sign (λ (b : ℕ). is_blank b || is_line_feed b) b more signs-no_space start in
    rw (line, block, directive, name, system, number, text, sign)
    (option_or-none (form_if (is_space (b ∷ more)) Skipped))

-- what begins so can be nothing else
pub sv_forms-slash : (begins : Bool) (b : ℕ) (more after : List ℕ) → nat_eq 47 b ≡ true →
    sv_forms begins (b ∷ more) after ≡ slash_form sv_signs (b ∷ more)
sv_forms-slash begins b more after start =
    let space : form_if (is_space (b ∷ more)) Skipped ≡ None =
    no_space b more (grind (arith, nat_tests)) in
    let directive : form_if (begins && is_line_of (codes "`timescale") (b ∷ more)) Skipped ≡ None =
    no_line_at begins 96 (codes "timescale") b more (grind (arith, nat_tests)) in
    let name : form_if (is_name (is_name_byte SystemVerilog) (b ∷ more)) (Whole Word) ≡ None =
    no_name (is_name_byte SystemVerilog) b more (grind (arith, nat_tests)) in
    let system : form_if (is_listed system_names (b ∷ more)) (Whole Word) ≡ None =
    no_system b more (grind (arith, nat_tests)) in
    let number : sv_number_form (b ∷ more) ≡ None =
    no_number b more (grind (arith, nat_tests)) (grind (arith, nat_tests)) in
    let text : text_form (is_escape SystemVerilog) (b ∷ more) ≡ None =
    no_text (is_escape SystemVerilog) b more (grind (arith, nat_tests)) in
    rw (space, directive, name, system, number, text) refl

-- what begins so can be nothing else
pub sv_forms-directive : (begins : Bool) (b : ℕ) (more after : List ℕ) → nat_eq 96 b ≡ true →
    sv_forms begins (b ∷ more) after ≡ form_if
    (begins && is_line_of (codes "`timescale") (b ∷ more)) Skipped
sv_forms-directive begins b more after start =
    let space : form_if (is_space (b ∷ more)) Skipped ≡ None =
    no_space b more (grind (arith, nat_tests)) in
    let line : form_if (is_line_of (codes "//") (b ∷ more)) Skipped ≡ None =
    no_line b more (grind (arith, nat_tests)) in
    let block : block_form (b ∷ more) ≡ None = no_block b more (grind (arith, nat_tests)) in
    let name : form_if (is_name (is_name_byte SystemVerilog) (b ∷ more)) (Whole Word) ≡ None =
    no_name (is_name_byte SystemVerilog) b more (grind (arith, nat_tests)) in
    let system : form_if (is_listed system_names (b ∷ more)) (Whole Word) ≡ None =
    no_system b more (grind (arith, nat_tests)) in
    let number : sv_number_form (b ∷ more) ≡ None =
    no_number b more (grind (arith, nat_tests)) (grind (arith, nat_tests)) in
    let text : text_form (is_escape SystemVerilog) (b ∷ more) ≡ None =
    no_text (is_escape SystemVerilog) b more (grind (arith, nat_tests)) in
    let sign : form_if (is_listed sv_signs (b ∷ more)) (Whole Sign) ≡ None =
    no_sign (nat_eq 96) b more signs-no_directive start in
    rw (space, line, block, name, system, number, text, sign)
    (option_or-none (form_if (begins && is_line_of (codes "`timescale") (b ∷ more)) Skipped))

-- what begins so can be nothing else
pub sv_forms-name : (begins : Bool) (b : ℕ) (more after : List ℕ) → is_name_start b ≡ true →
    sv_forms begins (b ∷ more) after ≡ form_if (is_name (is_name_byte SystemVerilog) (b ∷ more))
    (Whole Word)
sv_forms-name begins b more after start =
    let space : form_if (is_space (b ∷ more)) Skipped ≡ None =
    no_space b more (grind (arith, nat_tests)) in
    let line : form_if (is_line_of (codes "//") (b ∷ more)) Skipped ≡ None =
    no_line b more (grind (arith, nat_tests)) in
    let block : block_form (b ∷ more) ≡ None = no_block b more (grind (arith, nat_tests)) in
    let directive : form_if (begins && is_line_of (codes "`timescale") (b ∷ more)) Skipped ≡ None =
    no_line_at begins 96 (codes "timescale") b more (grind (arith, nat_tests)) in
    let system : form_if (is_listed system_names (b ∷ more)) (Whole Word) ≡ None =
    no_system b more (grind (arith, nat_tests)) in
    let number : sv_number_form (b ∷ more) ≡ None =
    no_number b more (grind (arith, nat_tests)) (grind (arith, nat_tests)) in
    let text : text_form (is_escape SystemVerilog) (b ∷ more) ≡ None =
    no_text (is_escape SystemVerilog) b more (grind (arith, nat_tests)) in
    let sign : form_if (is_listed sv_signs (b ∷ more)) (Whole Sign) ≡ None =
    no_sign (is_name_start) b more signs-no_name start in
    rw (space, line, block, directive, system, number, text, sign)
    (option_or-none (form_if (is_name (is_name_byte SystemVerilog) (b ∷ more)) (Whole Word)))

-- what begins so can be nothing else
pub sv_forms-system : (begins : Bool) (b : ℕ) (more after : List ℕ) → nat_eq 36 b ≡ true →
    sv_forms begins (b ∷ more) after ≡ form_if (is_listed system_names (b ∷ more)) (Whole Word)
sv_forms-system begins b more after start =
    let space : form_if (is_space (b ∷ more)) Skipped ≡ None =
    no_space b more (grind (arith, nat_tests)) in
    let line : form_if (is_line_of (codes "//") (b ∷ more)) Skipped ≡ None =
    no_line b more (grind (arith, nat_tests)) in
    let block : block_form (b ∷ more) ≡ None = no_block b more (grind (arith, nat_tests)) in
    let directive : form_if (begins && is_line_of (codes "`timescale") (b ∷ more)) Skipped ≡ None =
    no_line_at begins 96 (codes "timescale") b more (grind (arith, nat_tests)) in
    let name : form_if (is_name (is_name_byte SystemVerilog) (b ∷ more)) (Whole Word) ≡ None =
    no_name (is_name_byte SystemVerilog) b more (grind (arith, nat_tests)) in
    let number : sv_number_form (b ∷ more) ≡ None =
    no_number b more (grind (arith, nat_tests)) (grind (arith, nat_tests)) in
    let text : text_form (is_escape SystemVerilog) (b ∷ more) ≡ None =
    no_text (is_escape SystemVerilog) b more (grind (arith, nat_tests)) in
    let sign : form_if (is_listed sv_signs (b ∷ more)) (Whole Sign) ≡ None =
    no_sign (nat_eq 36) b more signs-no_system start in
    rw (space, line, block, directive, name, number, text, sign)
    (option_or-none (form_if (is_listed system_names (b ∷ more)) (Whole Word)))

-- what begins so can be nothing else
pub sv_forms-number : (begins : Bool) (b : ℕ) (more after : List ℕ) → is_digit b ≡ true →
    sv_forms begins (b ∷ more) after ≡ sv_number_form (b ∷ more)
sv_forms-number begins b more after start =
    let space : form_if (is_space (b ∷ more)) Skipped ≡ None =
    no_space b more (grind (arith, nat_tests)) in
    let line : form_if (is_line_of (codes "//") (b ∷ more)) Skipped ≡ None =
    no_line b more (grind (arith, nat_tests)) in
    let block : block_form (b ∷ more) ≡ None = no_block b more (grind (arith, nat_tests)) in
    let directive : form_if (begins && is_line_of (codes "`timescale") (b ∷ more)) Skipped ≡ None =
    no_line_at begins 96 (codes "timescale") b more (grind (arith, nat_tests)) in
    let name : form_if (is_name (is_name_byte SystemVerilog) (b ∷ more)) (Whole Word) ≡ None =
    no_name (is_name_byte SystemVerilog) b more (grind (arith, nat_tests)) in
    let system : form_if (is_listed system_names (b ∷ more)) (Whole Word) ≡ None =
    no_system b more (grind (arith, nat_tests)) in
    let text : text_form (is_escape SystemVerilog) (b ∷ more) ≡ None =
    no_text (is_escape SystemVerilog) b more (grind (arith, nat_tests)) in
    let sign : form_if (is_listed sv_signs (b ∷ more)) (Whole Sign) ≡ None =
    no_sign (is_digit) b more signs-no_number start in
    rw (space, line, block, directive, name, system, text, sign)
    (option_or-none (sv_number_form (b ∷ more)))

-- what begins so can be nothing else
pub sv_forms-apostrophe : (begins : Bool) (b : ℕ) (more after : List ℕ) → is_apostrophe b ≡ true →
    sv_forms begins (b ∷ more) after ≡ apostrophe_form (b ∷ more)
sv_forms-apostrophe begins b more after start =
    let space : form_if (is_space (b ∷ more)) Skipped ≡ None =
    no_space b more (grind (arith, nat_tests)) in
    let line : form_if (is_line_of (codes "//") (b ∷ more)) Skipped ≡ None =
    no_line b more (grind (arith, nat_tests)) in
    let block : block_form (b ∷ more) ≡ None = no_block b more (grind (arith, nat_tests)) in
    let directive : form_if (begins && is_line_of (codes "`timescale") (b ∷ more)) Skipped ≡ None =
    no_line_at begins 96 (codes "timescale") b more (grind (arith, nat_tests)) in
    let name : form_if (is_name (is_name_byte SystemVerilog) (b ∷ more)) (Whole Word) ≡ None =
    no_name (is_name_byte SystemVerilog) b more (grind (arith, nat_tests)) in
    let system : form_if (is_listed system_names (b ∷ more)) (Whole Word) ≡ None =
    no_system b more (grind (arith, nat_tests)) in
    let text : text_form (is_escape SystemVerilog) (b ∷ more) ≡ None =
    no_text (is_escape SystemVerilog) b more (grind (arith, nat_tests)) in
    rw (space, line, block, directive, name, system, text) refl

-- what begins so can be nothing else
pub sv_forms-text : (begins : Bool) (b : ℕ) (more after : List ℕ) → is_quote b ≡ true →
    sv_forms begins (b ∷ more) after ≡ text_form (is_escape SystemVerilog) (b ∷ more)
sv_forms-text begins b more after start =
    let space : form_if (is_space (b ∷ more)) Skipped ≡ None =
    no_space b more (grind (arith, nat_tests)) in
    let line : form_if (is_line_of (codes "//") (b ∷ more)) Skipped ≡ None =
    no_line b more (grind (arith, nat_tests)) in
    let block : block_form (b ∷ more) ≡ None = no_block b more (grind (arith, nat_tests)) in
    let directive : form_if (begins && is_line_of (codes "`timescale") (b ∷ more)) Skipped ≡ None =
    no_line_at begins 96 (codes "timescale") b more (grind (arith, nat_tests)) in
    let name : form_if (is_name (is_name_byte SystemVerilog) (b ∷ more)) (Whole Word) ≡ None =
    no_name (is_name_byte SystemVerilog) b more (grind (arith, nat_tests)) in
    let system : form_if (is_listed system_names (b ∷ more)) (Whole Word) ≡ None =
    no_system b more (grind (arith, nat_tests)) in
    let number : sv_number_form (b ∷ more) ≡ None =
    no_number b more (grind (arith, nat_tests)) (grind (arith, nat_tests)) in
    let sign : form_if (is_listed sv_signs (b ∷ more)) (Whole Sign) ≡ None =
    no_sign (is_quote) b more signs-no_text start in
    rw (space, line, block, directive, name, system, number, sign)
    (option_or-none (text_form (is_escape SystemVerilog) (b ∷ more)))

-- what begins so can be nothing else
pub sv_forms-sign : (begins : Bool) (b : ℕ) (more after : List ℕ) →
    (is_blank b || is_line_feed b) ≡ false → nat_eq 47 b ≡ false → nat_eq 96 b ≡ false →
    is_name_start b ≡ false → nat_eq 36 b ≡ false → is_digit b ≡ false → is_apostrophe b ≡ false →
    is_quote b ≡ false → sv_forms begins (b ∷ more) after ≡ form_if (is_listed sv_signs (b ∷ more))
    (Whole Sign)
sv_forms-sign begins b more after no0 no1 no2 no3 no4 no5 no6 no7 =
    let space : form_if (is_space (b ∷ more)) Skipped ≡ None = no_space b more no0 in
    let line : form_if (is_line_of (codes "//") (b ∷ more)) Skipped ≡ None = no_line b more no1 in
    let block : block_form (b ∷ more) ≡ None = no_block b more no1 in
    let directive : form_if (begins && is_line_of (codes "`timescale") (b ∷ more)) Skipped ≡ None =
    no_line_at begins 96 (codes "timescale") b more no2 in
    let name : form_if (is_name (is_name_byte SystemVerilog) (b ∷ more)) (Whole Word) ≡ None =
    no_name (is_name_byte SystemVerilog) b more no3 in
    let system : form_if (is_listed system_names (b ∷ more)) (Whole Word) ≡ None =
    no_system b more no4 in
    let number : sv_number_form (b ∷ more) ≡ None = no_number b more no5 no6 in
    let text : text_form (is_escape SystemVerilog) (b ∷ more) ≡ None =
    no_text (is_escape SystemVerilog) b more no7 in
    rw (space, line, block, directive, name, system, number, text)
    (option_or-none (form_if (is_listed sv_signs (b ∷ more)) (Whole Sign)))

use Rattle.std.proofs.Common.{◌≡◌, ℕ, Bool, true, false, not, ◌&&◌, ◌||◌, List, [], ◌∷◌, get_or}
use Rattle.std.proofs.Common.{Option, None, refl, ap, arith, take, cond}
use Rattle.std.specs.Prelude.{codes, nat_eq}
use Rattle.std.specs.List.{list_all}
use Rattle.std.proofs.lemmas.Bool.Decides.{nat_tests}
use lib.Pointwise.{pointwise}
use Rattle.dpi_lex.specs.declared.fault.LexFault.TheVariants.{BadByte}
use Rattle.dpi_lex.specs.declared.form.Form.{Form}
use Rattle.dpi_lex.specs.declared.form.Form.TheVariants.{Skipped, Whole, Faulty}
use Rattle.dpi_lex.specs.declared.language.Language.TheVariants.{C}
use Rattle.dpi_lex.specs.declared.token.Kind.TheVariants.{Character, Word, Sign}
use Rattle.dpi_lex.specs.Bytes.{is_blank, is_digit, is_name_start, is_name_byte, is_quote}
use Rattle.dpi_lex.specs.Bytes.{is_apostrophe, is_backslash, is_escape}
use Rattle.dpi_lex.specs.C.{c_forms, c_signs, c_long_signs, c_short_signs, hash_forms}
use Rattle.dpi_lex.specs.C.{is_character_byte, character_form}
use Rattle.dpi_lex.specs.CNumbers.{is_number_byte, is_c_number, c_number_form}
use Rattle.dpi_lex.specs.Define.{define_form}
use Rattle.dpi_lex.specs.Digits.{number_if}
use Rattle.dpi_lex.specs.Place.{is_line_feed}
use Rattle.dpi_lex.specs.Shapes.{form_if, is_space, is_line_of, block_form, slash_form, is_name}
use Rattle.dpi_lex.specs.Shapes.{is_listed, text_form}
use Rattle.dpi_lex.proofs.Classes.{option_or-none, no_space, no_line, no_block, no_line_at, no_name}
use Rattle.dpi_lex.proofs.Classes.{no_text}
use Rattle.dpi_lex.proofs.DefineLemmas.{define_form-none, begins_define-text}
use Rattle.dpi_lex.proofs.Fronts.{is_listed-not}

no_define : (begins : Bool) (b : ℕ) (more after : List ℕ) → nat_eq 35 b ≡ false →
    ◌≡◌ {A = Option Form} (cond begins (define_form (b ∷ more) after) None) None
no_define false b more after h = refl
no_define true b more after h =
    define_form-none (b ∷ more) after
    (begins_define-text (b ∷ more)
    (ap (λ t. t && pointwise nat_eq (codes "define") (take 6 more)) h))

no_hash : (begins : Bool) (b : ℕ) (more after : List ℕ) → nat_eq 35 b ≡ false →
    hash_forms begins (b ∷ more) after ≡ None
no_hash begins b more after h =
    let line : form_if (begins && is_line_of (codes "#include") (b ∷ more)) Skipped ≡ None =
    no_line_at begins 35 (codes "include") b more h in
    let define : ◌≡◌ {A = Option Form} (cond begins (define_form (b ∷ more) after) None) None =
    no_define begins b more after h in
    rw (line, define) refl

no_number : (b : ℕ) (more : List ℕ) → is_digit b ≡ false → c_number_form (b ∷ more) ≡ None
no_number b more h = ap
    (λ t. form_if (t && list_all is_number_byte more) (number_if (is_c_number (b ∷ more)))) h

no_character : (b : ℕ) (more after : List ℕ) → is_apostrophe b ≡ false →
    character_form (b ∷ more) after ≡ None
no_character b [] after h = refl
no_character b (s ∷ []) after h =
    ap (λ t. form_if (t && is_backslash s && not (is_escape C (get_or after 0 0)))
    (Faulty (BadByte 1))) h
no_character b (c ∷ z ∷ []) after h =
    ap (λ t. form_if (t && is_character_byte c && is_apostrophe z) (Whole Character)) h
no_character b (s ∷ e ∷ z ∷ []) after h =
    ap (λ t. form_if (t && is_backslash s && is_escape C e && is_apostrophe z) (Whole Character)) h
no_character b (c ∷ d ∷ e ∷ f ∷ more) after h = refl

no_sign : (p : ℕ → Bool) (b : ℕ) (more : List ℕ) →
    list_all (λ t. not (p (get_or t 0 0))) c_signs ≡ true → p b ≡ true →
    form_if (is_listed c_signs (b ∷ more)) (Whole Sign) ≡ None
no_sign p b more apart h =
    ap (λ t. form_if t (Whole Sign))
    (is_listed-not (λ t. p (get_or t 0 0)) c_signs (b ∷ more) apart h)

signs-no_space : list_all (λ t. not ((λ (b : ℕ). is_blank b || is_line_feed b) (get_or t 0 0)))
    c_signs ≡ true
unfolding c_signs c_long_signs c_short_signs
signs-no_space = refl

signs-no_hash : list_all (λ t. not ((nat_eq 35) (get_or t 0 0))) c_signs ≡ true
unfolding c_signs c_long_signs c_short_signs
signs-no_hash = refl

signs-no_name : list_all (λ t. not ((is_name_start) (get_or t 0 0))) c_signs ≡ true
unfolding c_signs c_long_signs c_short_signs
signs-no_name = refl

signs-no_number : list_all (λ t. not ((is_digit) (get_or t 0 0))) c_signs ≡ true
unfolding c_signs c_long_signs c_short_signs
signs-no_number = refl

signs-no_character : list_all (λ t. not ((is_apostrophe) (get_or t 0 0))) c_signs ≡ true
unfolding c_signs c_long_signs c_short_signs
signs-no_character = refl

signs-no_text : list_all (λ t. not ((is_quote) (get_or t 0 0))) c_signs ≡ true
unfolding c_signs c_long_signs c_short_signs
signs-no_text = refl

-- what begins so can be nothing else
pub c_forms-space : (begins : Bool) (b : ℕ) (more after : List ℕ) →
    (is_blank b || is_line_feed b) ≡ true →
    c_forms begins (b ∷ more) after ≡ form_if (is_space (b ∷ more)) Skipped
c_forms-space begins b more after start =
    let line : form_if (is_line_of (codes "//") (b ∷ more)) Skipped ≡ None =
    no_line b more (grind (arith, nat_tests)) in
    let block : block_form (b ∷ more) ≡ None = no_block b more (grind (arith, nat_tests)) in
    let hash : hash_forms begins (b ∷ more) after ≡ None =
    no_hash begins b more after (grind (arith, nat_tests)) in
    let name : form_if (is_name (is_name_byte C) (b ∷ more)) (Whole Word) ≡ None =
    no_name (is_name_byte C) b more (grind (arith, nat_tests)) in
    let number : c_number_form (b ∷ more) ≡ None = no_number b more (grind (arith, nat_tests)) in
    let character : character_form (b ∷ more) after ≡ None =
    no_character b more after (grind (arith, nat_tests)) in
    let text : text_form (is_escape C) (b ∷ more) ≡ None =
    no_text (is_escape C) b more (grind (arith, nat_tests)) in
    let sign : form_if (is_listed c_signs (b ∷ more)) (Whole Sign) ≡ None =
    no_sign (λ (b : ℕ). is_blank b || is_line_feed b) b more signs-no_space start in
    rw (line, block, hash, name, number, character, text, sign)
    (option_or-none (form_if (is_space (b ∷ more)) Skipped))

-- what begins so can be nothing else
pub c_forms-slash : (begins : Bool) (b : ℕ) (more after : List ℕ) → nat_eq 47 b ≡ true →
    c_forms begins (b ∷ more) after ≡ slash_form c_signs (b ∷ more)
c_forms-slash begins b more after start =
    let space : form_if (is_space (b ∷ more)) Skipped ≡ None =
    no_space b more (grind (arith, nat_tests)) in
    let hash : hash_forms begins (b ∷ more) after ≡ None =
    no_hash begins b more after (grind (arith, nat_tests)) in
    let name : form_if (is_name (is_name_byte C) (b ∷ more)) (Whole Word) ≡ None =
    no_name (is_name_byte C) b more (grind (arith, nat_tests)) in
    let number : c_number_form (b ∷ more) ≡ None = no_number b more (grind (arith, nat_tests)) in
    let character : character_form (b ∷ more) after ≡ None =
    no_character b more after (grind (arith, nat_tests)) in
    let text : text_form (is_escape C) (b ∷ more) ≡ None =
    no_text (is_escape C) b more (grind (arith, nat_tests)) in
    rw (space, hash, name, number, character, text) refl

-- what begins so can be nothing else
pub c_forms-hash : (begins : Bool) (b : ℕ) (more after : List ℕ) → nat_eq 35 b ≡ true →
    c_forms begins (b ∷ more) after ≡ hash_forms begins (b ∷ more) after
c_forms-hash begins b more after start =
    let space : form_if (is_space (b ∷ more)) Skipped ≡ None =
    no_space b more (grind (arith, nat_tests)) in
    let line : form_if (is_line_of (codes "//") (b ∷ more)) Skipped ≡ None =
    no_line b more (grind (arith, nat_tests)) in
    let block : block_form (b ∷ more) ≡ None = no_block b more (grind (arith, nat_tests)) in
    let name : form_if (is_name (is_name_byte C) (b ∷ more)) (Whole Word) ≡ None =
    no_name (is_name_byte C) b more (grind (arith, nat_tests)) in
    let number : c_number_form (b ∷ more) ≡ None = no_number b more (grind (arith, nat_tests)) in
    let character : character_form (b ∷ more) after ≡ None =
    no_character b more after (grind (arith, nat_tests)) in
    let text : text_form (is_escape C) (b ∷ more) ≡ None =
    no_text (is_escape C) b more (grind (arith, nat_tests)) in
    let sign : form_if (is_listed c_signs (b ∷ more)) (Whole Sign) ≡ None =
    no_sign (nat_eq 35) b more signs-no_hash start in
    rw (space, line, block, name, number, character, text, sign)
    (option_or-none (hash_forms begins (b ∷ more) after))

-- what begins so can be nothing else
pub c_forms-name : (begins : Bool) (b : ℕ) (more after : List ℕ) → is_name_start b ≡ true →
    c_forms begins (b ∷ more) after ≡ form_if (is_name (is_name_byte C) (b ∷ more)) (Whole Word)
c_forms-name begins b more after start =
    let space : form_if (is_space (b ∷ more)) Skipped ≡ None =
    no_space b more (grind (arith, nat_tests)) in
    let line : form_if (is_line_of (codes "//") (b ∷ more)) Skipped ≡ None =
    no_line b more (grind (arith, nat_tests)) in
    let block : block_form (b ∷ more) ≡ None = no_block b more (grind (arith, nat_tests)) in
    let hash : hash_forms begins (b ∷ more) after ≡ None =
    no_hash begins b more after (grind (arith, nat_tests)) in
    let number : c_number_form (b ∷ more) ≡ None = no_number b more (grind (arith, nat_tests)) in
    let character : character_form (b ∷ more) after ≡ None =
    no_character b more after (grind (arith, nat_tests)) in
    let text : text_form (is_escape C) (b ∷ more) ≡ None =
    no_text (is_escape C) b more (grind (arith, nat_tests)) in
    let sign : form_if (is_listed c_signs (b ∷ more)) (Whole Sign) ≡ None =
    no_sign (is_name_start) b more signs-no_name start in
    rw (space, line, block, hash, number, character, text, sign)
    (option_or-none (form_if (is_name (is_name_byte C) (b ∷ more)) (Whole Word)))

-- what begins so can be nothing else
pub c_forms-number : (begins : Bool) (b : ℕ) (more after : List ℕ) → is_digit b ≡ true →
    c_forms begins (b ∷ more) after ≡ c_number_form (b ∷ more)
c_forms-number begins b more after start =
    let space : form_if (is_space (b ∷ more)) Skipped ≡ None =
    no_space b more (grind (arith, nat_tests)) in
    let line : form_if (is_line_of (codes "//") (b ∷ more)) Skipped ≡ None =
    no_line b more (grind (arith, nat_tests)) in
    let block : block_form (b ∷ more) ≡ None = no_block b more (grind (arith, nat_tests)) in
    let hash : hash_forms begins (b ∷ more) after ≡ None =
    no_hash begins b more after (grind (arith, nat_tests)) in
    let name : form_if (is_name (is_name_byte C) (b ∷ more)) (Whole Word) ≡ None =
    no_name (is_name_byte C) b more (grind (arith, nat_tests)) in
    let character : character_form (b ∷ more) after ≡ None =
    no_character b more after (grind (arith, nat_tests)) in
    let text : text_form (is_escape C) (b ∷ more) ≡ None =
    no_text (is_escape C) b more (grind (arith, nat_tests)) in
    let sign : form_if (is_listed c_signs (b ∷ more)) (Whole Sign) ≡ None =
    no_sign (is_digit) b more signs-no_number start in
    rw (space, line, block, hash, name, character, text, sign)
    (option_or-none (c_number_form (b ∷ more)))

-- what begins so can be nothing else
pub c_forms-character : (begins : Bool) (b : ℕ) (more after : List ℕ) → is_apostrophe b ≡ true →
    c_forms begins (b ∷ more) after ≡ character_form (b ∷ more) after
c_forms-character begins b more after start =
    let space : form_if (is_space (b ∷ more)) Skipped ≡ None =
    no_space b more (grind (arith, nat_tests)) in
    let line : form_if (is_line_of (codes "//") (b ∷ more)) Skipped ≡ None =
    no_line b more (grind (arith, nat_tests)) in
    let block : block_form (b ∷ more) ≡ None = no_block b more (grind (arith, nat_tests)) in
    let hash : hash_forms begins (b ∷ more) after ≡ None =
    no_hash begins b more after (grind (arith, nat_tests)) in
    let name : form_if (is_name (is_name_byte C) (b ∷ more)) (Whole Word) ≡ None =
    no_name (is_name_byte C) b more (grind (arith, nat_tests)) in
    let number : c_number_form (b ∷ more) ≡ None = no_number b more (grind (arith, nat_tests)) in
    let text : text_form (is_escape C) (b ∷ more) ≡ None =
    no_text (is_escape C) b more (grind (arith, nat_tests)) in
    let sign : form_if (is_listed c_signs (b ∷ more)) (Whole Sign) ≡ None =
    no_sign (is_apostrophe) b more signs-no_character start in
    rw (space, line, block, hash, name, number, text, sign)
    (option_or-none (character_form (b ∷ more) after))

-- what begins so can be nothing else
pub c_forms-text : (begins : Bool) (b : ℕ) (more after : List ℕ) → is_quote b ≡ true →
    c_forms begins (b ∷ more) after ≡ text_form (is_escape C) (b ∷ more)
c_forms-text begins b more after start =
    let space : form_if (is_space (b ∷ more)) Skipped ≡ None =
    no_space b more (grind (arith, nat_tests)) in
    let line : form_if (is_line_of (codes "//") (b ∷ more)) Skipped ≡ None =
    no_line b more (grind (arith, nat_tests)) in
    let block : block_form (b ∷ more) ≡ None = no_block b more (grind (arith, nat_tests)) in
    let hash : hash_forms begins (b ∷ more) after ≡ None =
    no_hash begins b more after (grind (arith, nat_tests)) in
    let name : form_if (is_name (is_name_byte C) (b ∷ more)) (Whole Word) ≡ None =
    no_name (is_name_byte C) b more (grind (arith, nat_tests)) in
    let number : c_number_form (b ∷ more) ≡ None = no_number b more (grind (arith, nat_tests)) in
    let character : character_form (b ∷ more) after ≡ None =
    no_character b more after (grind (arith, nat_tests)) in
    let sign : form_if (is_listed c_signs (b ∷ more)) (Whole Sign) ≡ None =
    no_sign (is_quote) b more signs-no_text start in
    rw (space, line, block, hash, name, number, character, sign)
    (option_or-none (text_form (is_escape C) (b ∷ more)))

-- what begins so can be nothing else
pub c_forms-sign : (begins : Bool) (b : ℕ) (more after : List ℕ) →
    (is_blank b || is_line_feed b) ≡ false → nat_eq 47 b ≡ false → nat_eq 35 b ≡ false →
    is_name_start b ≡ false → is_digit b ≡ false → is_apostrophe b ≡ false → is_quote b ≡ false →
    c_forms begins (b ∷ more) after ≡ form_if (is_listed c_signs (b ∷ more)) (Whole Sign)
c_forms-sign begins b more after no0 no1 no2 no3 no4 no5 no6 =
    let space : form_if (is_space (b ∷ more)) Skipped ≡ None = no_space b more no0 in
    let line : form_if (is_line_of (codes "//") (b ∷ more)) Skipped ≡ None = no_line b more no1 in
    let block : block_form (b ∷ more) ≡ None = no_block b more no1 in
    let hash : hash_forms begins (b ∷ more) after ≡ None = no_hash begins b more after no2 in
    let name : form_if (is_name (is_name_byte C) (b ∷ more)) (Whole Word) ≡ None =
    no_name (is_name_byte C) b more no3 in
    let number : c_number_form (b ∷ more) ≡ None = no_number b more no4 in
    let character : character_form (b ∷ more) after ≡ None = no_character b more after no5 in
    let text : text_form (is_escape C) (b ∷ more) ≡ None = no_text (is_escape C) b more no6 in
    rw (space, line, block, hash, name, number, character, text)
    (option_or-none (form_if (is_listed c_signs (b ∷ more)) (Whole Sign)))

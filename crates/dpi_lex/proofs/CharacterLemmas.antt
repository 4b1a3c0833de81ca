use Rattle.std.proofs.Common.{◌≡◌, ℕ, ◌<◌, ◌≤◌, Bool, true, false, not, ◌&&◌, zero, suc}
use Rattle.std.proofs.Common.{List, [], ◌∷◌, length, take, drop, get_or, Option, None, refl}
use Rattle.std.proofs.Common.{ap, ◌∙◌, arith, inl, inr}
use Rattle.std.specs.Prelude.{◌⊎◌}
use Rattle.std.proofs.lemmas.Bool.Decides.{nat_tests}
use Rattle.dpi_lex.specs.declared.fault.LexFault.TheVariants.{BadByte}
use Rattle.dpi_lex.specs.declared.form.Form.{Form}
use Rattle.dpi_lex.specs.declared.form.Form.TheVariants.{Whole, Faulty}
use Rattle.dpi_lex.specs.declared.language.Language.TheVariants.{C}
use Rattle.dpi_lex.specs.declared.token.Kind.TheVariants.{Character}
use Rattle.dpi_lex.specs.Bytes.{is_apostrophe, is_backslash, is_escape}
use Rattle.dpi_lex.specs.C.{is_character_byte, character_form, character_forms}
use Rattle.dpi_lex.specs.Shapes.{form_if}
use Rattle.dpi_lex.specs.Stretches.{front_of, bad_byte}
use Rattle.dpi_lex.proofs.Longest.{longest_is, longest_none}

-- the form of a front of so many bytes
abbrev at : List ℕ → ℕ → Option Form
at rest m = character_form (take m rest) (drop m rest)

abbrev broken : List ℕ → Option Form
broken rest =
    form_if (is_apostrophe (get_or rest 0 0) && is_backslash (get_or rest 1 0) && not
    (is_escape C (get_or rest 2 0))) (Faulty (BadByte 1))

abbrev plain : List ℕ → Option Form
plain rest =
    form_if (is_apostrophe (get_or rest 0 0) && is_character_byte (get_or rest 1 0) && is_apostrophe
    (get_or rest 2 0)) (Whole Character)

abbrev escaped : List ℕ → Option Form
escaped rest =
    form_if (is_apostrophe (get_or rest 0 0) && is_backslash (get_or rest 1 0) && is_escape C
    (get_or rest 2 0) && is_apostrophe (get_or rest 3 0)) (Whole Character)

at-one : (rest : List ℕ) → 1 ≤ length rest → at rest 1 ≡ None
at-one [] le = absurd (omega arith)
at-one (a ∷ rest) le = refl

at-two : (rest : List ℕ) → 2 ≤ length rest → at rest 2 ≡ broken rest
at-two [] le = absurd (omega arith)
at-two (a ∷ []) le = absurd (omega arith)
at-two (a ∷ b ∷ rest) le = refl

at-three : (rest : List ℕ) → 3 ≤ length rest → at rest 3 ≡ plain rest
at-three [] le = absurd (omega arith)
at-three (a ∷ []) le = absurd (omega arith)
at-three (a ∷ b ∷ []) le = absurd (omega arith)
at-three (a ∷ b ∷ c ∷ rest) le = refl

at-four : (rest : List ℕ) → 4 ≤ length rest → at rest 4 ≡ escaped rest
at-four [] le = absurd (omega arith)
at-four (a ∷ []) le = absurd (omega arith)
at-four (a ∷ b ∷ []) le = absurd (omega arith)
at-four (a ∷ b ∷ c ∷ []) le = absurd (omega arith)
at-four (a ∷ b ∷ c ∷ d ∷ rest) le = refl

at-more : (rest : List ℕ) (j : ℕ) → suc (suc (suc (suc (suc j)))) ≤ length rest →
    at rest (suc (suc (suc (suc (suc j))))) ≡ None
at-more [] j le = absurd (omega arith)
at-more (a ∷ []) j le = absurd (omega arith)
at-more (a ∷ b ∷ []) j le = absurd (omega arith)
at-more (a ∷ b ∷ c ∷ []) j le = absurd (omega arith)
at-more (a ∷ b ∷ c ∷ d ∷ []) j le = absurd (omega arith)
at-more (a ∷ b ∷ c ∷ d ∷ e ∷ rest) j le = refl

second_false : (p : Bool) → (p && false) ≡ false
second_false true = refl
second_false false = refl

broken-not_slash : (rest : List ℕ) → is_backslash (get_or rest 1 0) ≡ false → broken rest ≡ None
broken-not_slash rest h =
    ap (λ t. form_if (is_apostrophe (get_or rest 0 0) && t && not (is_escape C (get_or rest 2 0)))
    (Faulty (BadByte 1))) h
    ∙ ap (λ t. form_if (t && not (is_escape C (get_or rest 2 0))) (Faulty (BadByte 1)))
    (second_false (is_apostrophe (get_or rest 0 0)))

broken-escape : (rest : List ℕ) → is_escape C (get_or rest 2 0) ≡ true → broken rest ≡ None
broken-escape rest h =
    ap (λ t. form_if (is_apostrophe (get_or rest 0 0) && is_backslash (get_or rest 1 0) && not t)
    (Faulty (BadByte 1))) h
    ∙ ap (λ t. form_if t (Faulty (BadByte 1)))
    (second_false (is_apostrophe (get_or rest 0 0) && is_backslash (get_or rest 1 0)))

slash_no_character : (b : ℕ) → is_backslash b ≡ true → is_character_byte b ≡ false
slash_no_character b h = grind (arith, nat_tests)

plain-other : (rest : List ℕ) → is_character_byte (get_or rest 1 0) ≡ false → plain rest ≡ None
plain-other rest h =
    ap (λ t. form_if (is_apostrophe (get_or rest 0 0) && t && is_apostrophe (get_or rest 2 0))
    (Whole Character)) h
    ∙ ap (λ t. form_if (t && is_apostrophe (get_or rest 2 0)) (Whole Character))
    (second_false (is_apostrophe (get_or rest 0 0)))

plain-open : (rest : List ℕ) → is_apostrophe (get_or rest 2 0) ≡ false → plain rest ≡ None
plain-open rest h =
    ap (λ t. form_if (is_apostrophe (get_or rest 0 0) && is_character_byte (get_or rest 1 0) && t)
    (Whole Character)) h
    ∙ ap (λ t. form_if t (Whole Character))
    (second_false (is_apostrophe (get_or rest 0 0) && is_character_byte (get_or rest 1 0)))

escaped-not_slash : (rest : List ℕ) → is_backslash (get_or rest 1 0) ≡ false → escaped rest ≡ None
escaped-not_slash rest h =
    ap (λ t. form_if (is_apostrophe (get_or rest 0 0) && t && is_escape C (get_or rest 2 0) &&
    is_apostrophe (get_or rest 3 0)) (Whole Character)) h
    ∙ ap (λ t. form_if (t && is_escape C (get_or rest 2 0) && is_apostrophe (get_or rest 3 0))
    (Whole Character)) (second_false (is_apostrophe (get_or rest 0 0)))

escaped-no_escape : (rest : List ℕ) → is_escape C (get_or rest 2 0) ≡ false → escaped rest ≡ None
escaped-no_escape rest h =
    ap (λ t. form_if (is_apostrophe (get_or rest 0 0) && is_backslash (get_or rest 1 0) && t &&
    is_apostrophe (get_or rest 3 0)) (Whole Character)) h
    ∙ ap (λ t. form_if (t && is_apostrophe (get_or rest 3 0)) (Whole Character))
    (second_false (is_apostrophe (get_or rest 0 0) && is_backslash (get_or rest 1 0)))

escaped-open : (rest : List ℕ) → is_apostrophe (get_or rest 3 0) ≡ false → escaped rest ≡ None
escaped-open rest h =
    ap (λ t. form_if (is_apostrophe (get_or rest 0 0) && is_backslash (get_or rest 1 0) && is_escape
    C (get_or rest 2 0) && t) (Whole Character)) h
    ∙ ap (λ t. form_if t (Whole Character))
    (second_false (is_apostrophe (get_or rest 0 0) && is_backslash (get_or rest 1 0) &&
    is_escape C (get_or rest 2 0)))

-- past so many bytes no front has a form
past : (rest : List ℕ) (n : ℕ) → (n < 2 → broken rest ≡ None) → (n < 3 → plain rest ≡ None) →
    (n < 4 → escaped rest ≡ None) → (m : ℕ) → n < m → m ≤ length rest → at rest m ≡ None
past rest n two three four zero lt le = absurd (omega arith)
past rest n two three four (suc zero) lt le = at-one rest le
past rest n two three four (suc (suc zero)) lt le = at-two rest le ∙ two lt
past rest n two three four (suc (suc (suc zero))) lt le = at-three rest le ∙ three lt
past rest n two three four (suc (suc (suc (suc zero)))) lt le = at-four rest le ∙ four lt
past rest n two three four (suc (suc (suc (suc (suc j))))) lt le = at-more rest j le

long_enough : (rest : List ℕ) (n : ℕ) → is_apostrophe (get_or rest n 0) ≡ true → n < length rest
long_enough [] zero h = cc
long_enough [] (suc n) h = cc
long_enough (a ∷ rest) zero h = omega arith
long_enough (a ∷ rest) (suc n) h = omega (arith, long_enough rest n h)

long_enough_slash : (rest : List ℕ) → is_backslash (get_or rest 1 0) ≡ true → 1 < length rest
long_enough_slash [] h = cc
long_enough_slash (a ∷ []) h = cc
long_enough_slash (a ∷ b ∷ rest) h = omega arith

-- no character
pub front_of-no_character : (rest : List ℕ) → broken rest ≡ None → plain rest ≡ None →
    escaped rest ≡ None → front_of character_forms false rest ≡ bad_byte
unfolding front_of
front_of-no_character rest two three four =
    longest_none (at rest) (length rest)
    (λ m some le. past rest 0 (λ h. two) (λ h. three) (λ h. four) m some le)

-- a backslash with which no escape begins
pub front_of-bad_escape : (rest : List ℕ) → is_apostrophe (get_or rest 0 0) ≡ true →
    is_backslash (get_or rest 1 0) ≡ true → is_escape C (get_or rest 2 0) ≡ false →
    front_of character_forms false rest ≡ record { form = Faulty (BadByte 1); len = 2 }
unfolding front_of
front_of-bad_escape rest quote slash bad =
    longest_is
    (at rest)
    (length rest)
    2
    (Faulty (BadByte 1))
    (omega arith)
    (long_enough_slash rest slash)
    (at-two rest (long_enough_slash rest slash)
    ∙ ap (λ t. form_if (t && is_backslash (get_or rest 1 0) && not
    (is_escape C (get_or rest 2 0))) (Faulty (BadByte 1))) quote
    ∙ ap (λ t. form_if (t && not (is_escape C (get_or rest 2 0))) (Faulty (BadByte 1))) slash
    ∙ ap (λ t. form_if (not t) (Faulty (BadByte 1))) bad)
    (past rest 2 (λ h. absurd (omega arith))
    (λ h. plain-other rest (slash_no_character (get_or rest 1 0) slash))
    (λ h. escaped-no_escape rest bad))

-- an escape between quotes
pub front_of-escape : (rest : List ℕ) → is_apostrophe (get_or rest 0 0) ≡ true →
    is_backslash (get_or rest 1 0) ≡ true → is_escape C (get_or rest 2 0) ≡ true →
    is_apostrophe (get_or rest 3 0) ≡ true →
    front_of character_forms false rest ≡ record { form = Whole Character; len = 4 }
unfolding front_of
front_of-escape rest quote slash letter closed =
    longest_is
    (at rest)
    (length rest)
    4
    (Whole Character)
    (omega arith)
    (long_enough rest 3 closed)
    (at-four rest (long_enough rest 3 closed)
    ∙ ap (λ t. form_if (t && is_backslash (get_or rest 1 0) && is_escape C (get_or rest 2 0) &&
    is_apostrophe (get_or rest 3 0)) (Whole Character)) quote
    ∙ ap (λ t. form_if (t && is_escape C (get_or rest 2 0) && is_apostrophe (get_or rest 3 0))
    (Whole Character)) slash
    ∙ ap (λ t. form_if (t && is_apostrophe (get_or rest 3 0)) (Whole Character)) letter
    ∙ ap (λ t. form_if t (Whole Character)) closed)
    (past rest 4 (λ h. absurd (omega arith)) (λ h. absurd (omega arith))
    (λ h. absurd (omega arith)))

-- an escape without the closing quote
pub front_of-open_escape : (rest : List ℕ) → is_backslash (get_or rest 1 0) ≡ true →
    is_escape C (get_or rest 2 0) ≡ true → is_apostrophe (get_or rest 3 0) ≡ false →
    front_of character_forms false rest ≡ bad_byte
front_of-open_escape rest slash letter open_end =
    front_of-no_character rest (broken-escape rest letter)
    (plain-other rest (slash_no_character (get_or rest 1 0) slash)) (escaped-open rest open_end)

-- a byte between quotes
pub front_of-character : (rest : List ℕ) → is_apostrophe (get_or rest 0 0) ≡ true →
    is_backslash (get_or rest 1 0) ≡ false → is_character_byte (get_or rest 1 0) ≡ true →
    is_apostrophe (get_or rest 2 0) ≡ true →
    front_of character_forms false rest ≡ record { form = Whole Character; len = 3 }
unfolding front_of
front_of-character rest quote no_slash byte closed =
    longest_is
    (at rest)
    (length rest)
    3
    (Whole Character)
    (omega arith)
    (long_enough rest 2 closed)
    (at-three rest (long_enough rest 2 closed)
    ∙ ap (λ t. form_if (t && is_character_byte (get_or rest 1 0) && is_apostrophe
    (get_or rest 2 0)) (Whole Character)) quote
    ∙ ap (λ t. form_if (t && is_apostrophe (get_or rest 2 0)) (Whole Character)) byte
    ∙ ap (λ t. form_if t (Whole Character)) closed)
    (past rest 3 (λ h. absurd (omega arith)) (λ h. absurd (omega arith))
    (λ h. escaped-not_slash rest no_slash))

-- no byte between quotes
pub front_of-no_byte : (rest : List ℕ) → is_backslash (get_or rest 1 0) ≡ false →
    (is_character_byte (get_or rest 1 0) ≡ false) ⊎ (is_apostrophe (get_or rest 2 0) ≡ false) →
    front_of character_forms false rest ≡ bad_byte
front_of-no_byte rest no_slash (inl other) =
    front_of-no_character rest (broken-not_slash rest no_slash) (plain-other rest other)
    (escaped-not_slash rest no_slash)
front_of-no_byte rest no_slash (inr open_end) =
    front_of-no_character rest (broken-not_slash rest no_slash) (plain-open rest open_end)
    (escaped-not_slash rest no_slash)

use Rattle.std.specs.Prelude.{◌≡◌, ◌⊎◌, ℕ, Bool, Option, Some, None, Result, Ok, Err, List, [], ◌∷◌}
use Rattle.std.specs.Prelude.{◌++◌, ◌+◌, ◌-◌, ◌<◌, ◌≤◌, ◌||◌, ◌==◌, zero, suc, nat_lt}
use Rattle.std.specs.Prelude.{if◌then◌else◌, length, take, drop, slice_index}
use Rattle.std.specs.Option.{option_map_or}
use Rattle.std.specs.Result.{result_map_both}
use Rattle.dpi_lex.specs.declared.fault.LexFault.{LexFault}
use Rattle.dpi_lex.specs.declared.fault.LexFault.TheVariants.{BadByte, BadNumber, Unclosed}
use Rattle.dpi_lex.specs.declared.fault.LexFault.TheVariants.{NoMemory}
use Rattle.dpi_lex.specs.declared.form.Form.{Form}
use Rattle.dpi_lex.specs.declared.form.Form.TheVariants.{Skipped, Whole, Faulty}
use Rattle.dpi_lex.specs.declared.form.Stretch.{Stretch}
use Rattle.dpi_lex.specs.declared.token.Token.{Token}
use Rattle.dpi_lex.specs.Place.{is_line_feed}

-- what a language says of a whole stretch of bytes: its form, where it has one. It's told whether
-- the stretch begins a line, the stretch, and the bytes that follow it
abbrev pub Forms : Type 0
Forms = Bool → List ℕ → List ℕ → Option Form

-- one byte at which nothing begins
abbrev pub bad_byte : Stretch
bad_byte = record { form = Faulty (BadByte 0); len = 1 }

-- the longest stretch of 1 up to n bytes that has a form; where none has, one bad byte
unfoldable pub longest : (ℕ → Option Form) → ℕ → Stretch
longest form_of zero = bad_byte
longest form_of (suc n) =
    option_map_or
    (λ form. record { form = form; len = suc n })
    (form_of (suc n))
    (longest form_of n)

-- the longest stretch at the front of the bytes, where its form depends on it alone
abbrev pub longest_front : (List ℕ → Option Form) → List ℕ → Stretch
longest_front form_of rest = longest (λ n. form_of (take n rest)) (length rest)

-- it's a longest stretch of that kind at the front of the bytes
pub record IsLongest (form_of : List ℕ → Option Form) (rest : List ℕ) (s : Stretch) : Type 0 where
  pub some : 0 < s.len
  pub within : s.len ≤ length rest
  pub is : form_of (take s.len rest) ≡ Some s.form
  pub longer : (m : ℕ) → s.len < m → m ≤ length rest → form_of (take m rest) ≡ None

-- no front of the bytes has a form of that kind
abbrev pub HasNone : (List ℕ → Option Form) → List ℕ → Type 0
HasNone form_of rest = (m : ℕ) → m ≤ length rest → form_of (take m rest) ≡ None

-- the longest stretch at the front of the bytes, which begin a line or don't
unfoldable pub front_of : Forms → Bool → List ℕ → Stretch
front_of forms begins rest = longest (λ n. forms begins (take n rest) (drop n rest)) (length rest)

-- the place is the text's first, or stands behind a line feed
abbrev pub begins_line : List ℕ → ℕ → Bool
begins_line text place = (place == 0) || is_line_feed (slice_index text (place - 1))

-- the longest stretch from a place on
abbrev pub stretch_at : Forms → List ℕ → ℕ → Stretch
stretch_at forms text place = front_of forms (begins_line text place) (drop place text)

-- the place in a fault; 0 where it has none
abbrev pub fault_place : LexFault → ℕ
fault_place (BadByte place) = place
fault_place (BadNumber place) = place
fault_place (Unclosed place) = place
fault_place NoMemory = 0

-- a place in a form lies within a text
abbrev pub IsPlaced : Form → Type 0
IsPlaced Skipped = Unit {0}
IsPlaced (Whole kind) = Unit {0}
IsPlaced (Faulty fault) = fault_place fault ≤ 1048576

-- a fault of a stretch, whose place counted from the stretch's first byte
abbrev pub fault_from : ℕ → LexFault → LexFault
fault_from start (BadByte place) = BadByte (start + place)
fault_from start (BadNumber place) = BadNumber (start + place)
fault_from start (Unclosed place) = Unclosed (start + place)
fault_from start NoMemory = NoMemory

-- tokens with others before them; a fault stays
abbrev pub prepend : List Token → Result (List Token) LexFault → Result (List Token) LexFault
prepend ts later = result_map_both (λ us. ts ++ us) (λ fault. fault) later

-- what a stretch and what stands behind it give: a token goes before the others, a fault ends all
abbrev pub with_form : ℕ → ℕ → Form → Result (List Token) LexFault → Result (List Token) LexFault
with_form start end Skipped later = later
with_form start end (Whole kind) later =
    prepend (record { kind = kind; start = start; end = end } ∷ []) later
with_form start end (Faulty fault) later = Err (fault_from start fault)

-- the tokens from a place on, or the first fault, stretch by stretch, for at most so many stretches
unfoldable pub tokens_from : Forms → List ℕ → ℕ → ℕ → Result (List Token) LexFault
tokens_from forms text zero place = Ok []
tokens_from forms text (suc more) place =
    let s = stretch_at forms text place in
    if nat_lt place (length text)
    then with_form place (place + s.len) s.form (tokens_from forms text more (place + s.len))
    else Ok []

-- the tokens of a text, or its first fault. Each stretch has a byte, so there are no more
-- stretches than bytes
unfoldable pub lexed : Forms → List ℕ → Result (List Token) LexFault
lexed forms text = tokens_from forms text (length text) 0

-- the fault is that of the text; or memory ran out
abbrev pub IsRefusal : Result (List Token) LexFault → LexFault → Type 0
IsRefusal lexed fault = (fault ≡ NoMemory) ⊎ (lexed ≡ Err fault)

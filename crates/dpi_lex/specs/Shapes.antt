use Rattle.std.specs.Prelude.{map}
use Rattle.std.specs.Prelude.{ℕ, Bool, true, false, Option, Some, None, List, [], ◌∷◌, ◌++◌, ◌-◌}
use Rattle.std.specs.Prelude.{◌≡◌, ◌<◌, ◌≤◌, ◌&&◌, ◌||◌, not, if◌then◌else◌, length, take, drop}
use Rattle.std.specs.Prelude.{slice_index, codes, nat_eq}
use Rattle.std.specs.List.{list_all, list_any, prefix_len, starts_with}
use Rattle.std.specs.Option.{option_or}
use lib.Pointwise.{pointwise}
use Rattle.dpi_lex.specs.declared.fault.LexFault.TheVariants.{BadByte, Unclosed}
use Rattle.dpi_lex.specs.declared.form.Form.{Form}
use Rattle.dpi_lex.specs.declared.form.Form.TheVariants.{Skipped, Whole, Faulty}
use Rattle.dpi_lex.specs.declared.token.Kind.TheVariants.{Text, Sign}
use Rattle.dpi_lex.specs.Bytes.{is_among, is_blank, is_name_start, is_quote, is_backslash}
use Rattle.dpi_lex.specs.Place.{is_line_feed}

-- a form where the test passes
abbrev pub form_if : Bool → Form → Option Form
form_if test form = if test then Some form else None

-- the first of the forms that is one
abbrev pub first_form : List (Option Form) → Option Form
first_form [] = None
first_form (form ∷ forms) = option_or form (first_form forms)

-- the bytes behind those at the front that pass
abbrev pub behind : (ℕ → Bool) → List ℕ → List ℕ
behind test bytes = drop (prefix_len test bytes) bytes

-- one blank or line end
abbrev pub is_space : List ℕ → Bool
is_space [] = false
is_space (b ∷ []) = is_blank b || is_line_feed b
is_space (b ∷ c ∷ more) = false

-- bytes of one line, with that text at their beginning
abbrev pub is_line_of : List ℕ → List ℕ → Bool
is_line_of text bytes =
    starts_with nat_eq bytes text && list_all (λ b. not (is_line_feed b)) bytes

-- the bytes hold `*/`
abbrev pub holds_end : List ℕ → Bool
holds_end [] = false
holds_end (b ∷ more) = starts_with nat_eq (b ∷ more) (codes "*/") || holds_end more

-- so many of the bytes behind `/*` end with the first `*/`
pub record EndsAt (inner : List ℕ) (n : ℕ) : Type 0 where
  pub some : 0 < n
  pub within : n ≤ length inner
  pub ends : holds_end (take n inner) ≡ true
  pub first : holds_end (take (n - 1) inner) ≡ false

-- `/*` and what follows it up to `*/`, which doesn't come before; unclosed without it
abbrev pub block_form : List ℕ → Option Form
block_form bytes =
    let inner = drop 2 bytes in
    form_if
    (starts_with nat_eq bytes (codes "/*") && not (holds_end (take (length inner - 1) inner)))
    (if holds_end inner then Skipped else Faulty (Unclosed 0))

-- a name: a letter or `_`, and bytes with which a name goes on
abbrev pub is_name : (ℕ → Bool) → List ℕ → Bool
is_name goes_on [] = false
is_name goes_on (b ∷ more) = is_name_start b && list_all goes_on more

-- the bytes are one of the texts
abbrev pub is_listed : List (List ℕ) → List ℕ → Bool
is_listed texts bytes = list_any (λ text. pointwise nat_eq bytes text) texts

-- the texts between the spaces, with one that has begun before
abbrev pub texts_after : List ℕ → List ℕ → List (List ℕ)
texts_after begun [] = begun ∷ []
texts_after begun (b ∷ more) =
    if is_among (codes " ") b
    then begun ∷ texts_after [] more
    else texts_after (begun ++ b ∷ []) more

-- the texts between the spaces
abbrev pub texts : List ℕ → List (List ℕ)
texts bytes = texts_after [] bytes

-- the texts of one byte each
abbrev pub singles : List ℕ → List (List ℕ)
singles bytes = map (λ b. b ∷ []) bytes

-- a byte that stands for itself in a string
abbrev pub is_plain : ℕ → Bool
is_plain b = not (is_quote b || is_backslash b || is_line_feed b)

-- the bytes after a string's first quote, with no end yet: plain bytes, and escapes, which are a
-- backslash and a byte of the language's. The second argument tells whether a backslash waits for
-- that byte
abbrev pub is_body : (ℕ → Bool) → Bool → List ℕ → Bool
is_body is_escape false [] = true
is_body is_escape true [] = false
is_body is_escape false (b ∷ more) =
    if is_backslash b
    then is_body is_escape true more
    else is_plain b && is_body is_escape false more
is_body is_escape true (b ∷ more) = is_escape b && is_body is_escape false more

-- a byte that ends a string: a quote, or a backslash of no escape
abbrev pub ending_form : ℕ → ℕ → Option Form
ending_form place b =
    if is_quote b then Some (Whole Text) else form_if (is_backslash b) (Faulty (BadByte place))

-- a stretch that begins with a quote, by the bytes after it: without an end it's unclosed. Else its
-- last byte ends it
abbrev pub text_form : (ℕ → Bool) → List ℕ → Option Form
text_form is_escape [] = None
text_form is_escape (b ∷ more) =
    let last = length more - 1 in
    if not (is_quote b)
    then None
    else (if is_body is_escape false more
    then Some (Faulty (Unclosed 0))
    else (if is_body is_escape false (take last more)
    then ending_form (length more) (slice_index more last)
    else None))

-- so many of the bytes after a string's first quote have no end yet, and no more of them
pub record IsLongestBody (is_escape : ℕ → Bool) (inner : List ℕ) (n : ℕ) : Type 0 where
  pub within : n ≤ length inner
  pub body : is_body is_escape false (take n inner) ≡ true
  pub longest : (m : ℕ) → n < m → m ≤ length inner → is_body is_escape false (take m inner) ≡ false

-- what begins with a `/`: a comment or a sign
abbrev pub slash_form : List (List ℕ) → List ℕ → Option Form
slash_form signs bytes =
    first_form (form_if (is_line_of (codes "//") bytes) Skipped
    ∷ block_form bytes
    ∷ form_if (is_listed signs bytes) (Whole Sign)
    ∷ [])

-- What lists of items say of tokens: the first item that says something counts.
use Rattle.std.specs.Prelude.{ℕ, ◌==◌, Option, None, List, [], ◌∷◌, if◌then◌else◌, unwrap_or, slice_get}
use Rattle.std.specs.Option.{option_or}
use Rattle.std.specs.List.{position_from}
use Rattle.dpi_table.specs.Tables.{Values, only}
use Rattle.dpi_table.specs.Files.{FileValues, is_place}

-- what the first item of a list says of a token that says anything of it
abbrev pub first_of : {X A : Type 0} → (X → Values A) → List X → Values A
first_of says [] token = None
first_of says (x ∷ xs) token = option_or (says x token) (first_of says xs token)

-- the value of the first pair with this token
abbrev pub first_value : {A : Type 0} → List (ℕ × A) → Values A
first_value = first_of (λ p. only p.0 p.1)

-- the items of a file; a file that isn't there has none
abbrev pub items_in : {X : Type 0} → List (List X) → ℕ → List X
items_in files file = unwrap_or (slice_get files file) []

-- each token of each file with what the file's items say of it first
abbrev pub firsts_in : {X A : Type 0} → (X → Values A) → List (List X) → FileValues A
firsts_in says files file = first_of says (items_in files file)

-- more values of a file, which count at tokens that have none
abbrev pub with_file_values : {A : Type 0} → FileValues A → ℕ → Values A → FileValues A
with_file_values values file more f token = option_or (values f token) (if file == f then more token else None)

-- values, and those that count where there are none
abbrev pub or_values : {A : Type 0} → FileValues A → FileValues A → FileValues A
or_values values more file token = option_or (values file token) (more file token)

-- what the first item of a list says of a token of a file that says anything of it
abbrev pub first_with : {X A : Type 0} → (X → FileValues A) → List X → FileValues A
first_with says [] file token = None
first_with says (x ∷ xs) file token = option_or (says x file token) (first_with says xs file token)

-- this value, if there is one, at this token of this file, and no other
abbrev pub only_at : {A : Type 0} → ℕ → ℕ → Option A → FileValues A
only_at file token value f t = if is_place file token f t then value else None

-- the position of the first item at this token of this file, where the list starts at this position
abbrev pub number_from : {X : Type 0} → (X → ℕ) → (X → ℕ) → ℕ → List X → FileValues ℕ
number_from file_of token_of first xs file token = position_from (λ x. is_place (file_of x) (token_of x) file token) first xs

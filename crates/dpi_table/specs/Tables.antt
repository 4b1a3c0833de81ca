-- Values by token.
use Rattle.std.specs.Prelude.{ℕ, ◌==◌, Option, Some, None, List, if◌then◌else◌, slice_get}
use Rattle.std.specs.Option.{option_flatten, option_or}
use Rattle.dpi_table.specs.declared.table.Table.{Table}

-- each token with its value, if there is one
abbrev pub Values : Type 0 → Type 0
Values A = ℕ → Option A

abbrev pub no_values : {A : Type 0} → Values A
no_values token = None

-- this value at this token, and no other
abbrev pub only : {A : Type 0} → ℕ → A → Values A
only token value other = if token == other then Some value else None

-- one more value, which counts unless the token has one already
abbrev pub with_value : {A : Type 0} → Values A → ℕ → A → Values A
with_value values token value other = option_or (values other) (only token value other)

-- what cells hold, one for each token from 0 on
abbrev pub held : {A : Type 0} → List (Option A) → Values A
held cells token = option_flatten (slice_get cells token)

-- what the code's table means
abbrev pub at : {A : Type 0} → Table A → Values A
at table = held table.cells.items

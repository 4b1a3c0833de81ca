-- Values by file and token.
use Rattle.std.specs.Prelude.{ℕ, ◌==◌, ◌&&◌, Bool, Option, Some, None, List, if◌then◌else◌, slice_get}
use Rattle.std.specs.Option.{option_or}
use Rattle.dpi_table.specs.declared.table.Table.{Table}
use Rattle.dpi_table.specs.declared.tables.Tables.{Tables}
use Rattle.dpi_table.specs.Tables.{Values, at}

-- each file with the values of its tokens
abbrev pub FileValues : Type 0 → Type 0
FileValues A = ℕ → Values A

abbrev pub no_file_values : {A : Type 0} → FileValues A
no_file_values file token = None

-- both are this file and this token
abbrev pub is_place : ℕ → ℕ → ℕ → ℕ → Bool
is_place file token f t = (file == f) && (token == t)

-- one more value, which counts unless the token has one already
abbrev pub with_file_value : {A : Type 0} → FileValues A → ℕ → ℕ → A → FileValues A
with_file_value values file token value f t = option_or (values f t) (if is_place file token f t then Some value else None)

-- what a table means that may not be there
abbrev pub at_some : {A : Type 0} → Option (Table A) → Values A
at_some None token = None
at_some (Some table) token = at table token

-- what tables mean, one for each file from 0 on
abbrev pub held_in : {A : Type 0} → List (Table A) → FileValues A
held_in tables file = at_some (slice_get tables file)

-- what the code's tables mean
abbrev pub in_file : {A : Type 0} → Tables A → FileValues A
in_file tables = held_in tables.files.items

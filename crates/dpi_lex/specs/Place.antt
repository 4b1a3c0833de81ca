use Rattle.std.specs.Prelude.{ℕ, Bool, List, ◌+◌, ◌==◌, length, take, count_by}
use Rattle.std.specs.List.{after_last}

-- the byte that ends a line
abbrev pub is_line_feed : ℕ → Bool
is_line_feed byte = byte == 10

-- the line of a place, from 1: one more than the line feeds before it
abbrev pub line_of : List ℕ → ℕ → ℕ
line_of text place = 1 + count_by is_line_feed (take place text)

-- the column of a place, from 1: one more than the bytes after the last line feed before it
abbrev pub column_of : List ℕ → ℕ → ℕ
column_of text place = 1 + length (after_last is_line_feed (take place text))

-- The line that names a place in a file.
use Rattle.std.specs.Prelude.{ℕ, List, ◌++◌, codes, decimal}

-- the file's name, the line and the column in decimal, the code, and a line feed
abbrev pub fault_line_of : List ℕ → ℕ → ℕ → List ℕ → List ℕ
fault_line_of file line column code =
    file ++ codes ":" ++ decimal line ++ codes ":" ++ decimal column ++ codes ": " ++ code ++ codes "\n"

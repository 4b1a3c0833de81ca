-- The cells of objects (ISO C 6.7.6.2).
use Rattle.std.specs.Prelude.{ℕ, Option, Some, None}
use Rattle.c_tree.specs.declared.declarations.Array.{Array}
use Rattle.c_functions.specs.Objects.{Names, size_cells}

-- the cells of a declarator: one where it is no array
abbrev pub array_cells : Names → Option Array → Option ℕ
array_cells names None = Some 1
array_cells names (Some a) = size_cells names a.size

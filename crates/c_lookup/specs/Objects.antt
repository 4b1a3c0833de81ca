-- The numbers of objects at the names that declare them (ISO C 6.2.2).
use Rattle.std.specs.Prelude.{ℕ, if◌then◌else◌, List}
use Rattle.dpi_table.specs.Files.{FileValues, no_file_values}
use Rattle.dpi_table.specs.Firsts.{first_with, only_at, or_values}
use Rattle.c_functions.specs.Objects.{Shared}
use Rattle.c_lookup.specs.Names.{Names, no_names, only_named, first_named}

-- what positions of objects say of names: the position of what is defined for all files
abbrev pub object_named : FileValues ℕ → Shared → Names
object_named positions o = if o.is_extern then no_names else only_named o.name (positions o.file o.token)

-- the first object of each name
abbrev pub objects_named : FileValues ℕ → List Shared → Names
objects_named positions = first_named (object_named positions)

-- an `extern` declaration has the number of what is defined under its name
abbrev pub extern_at : Names → Shared → FileValues ℕ
extern_at names o = if o.is_extern then only_at o.file o.token (names o.name) else no_file_values

-- an object has its position where it is defined
abbrev pub objects_at : FileValues ℕ → List Shared → FileValues ℕ
objects_at positions os = or_values positions (first_with (extern_at (objects_named positions os)) os)

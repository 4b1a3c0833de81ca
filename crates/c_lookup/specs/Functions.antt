-- The numbers of functions at the names that declare them (ISO C 6.2.2).
use Rattle.std.specs.Prelude.{ℕ, Bool, true, false, if◌then◌else◌, Option, List}
use Rattle.dpi_table.specs.Files.{FileValues}
use Rattle.dpi_table.specs.Firsts.{first_with, only_at}
use Rattle.c_typing.specs.Pointers.{agree}
use Rattle.c_functions.specs.Declarations.{Known}
use Rattle.c_lookup.specs.Names.{Names, no_names, only_named, first_named}

-- what positions of entries say of names: the position of the entry at a declaration, if there is one and it is static as is said
abbrev pub entry_named : FileValues ℕ → Bool → Known → Names
entry_named positions static d = if agree d.is_static static then only_named d.name (positions d.file d.token) else no_names

-- the first entry of each name
abbrev pub entries_named : FileValues ℕ → Bool → List Known → Names
entries_named positions static = first_named (entry_named positions static)

-- the functions that all files share
abbrev pub shared_named : FileValues ℕ → List (List Known) → Names
shared_named positions = first_named (entries_named positions false)

-- a file's own function has an entry among its declarations in that file, every other one among those of all files
abbrev pub number_of : Names → Names → Known → Option ℕ
number_of own shared d = if d.is_static then own d.name else shared d.name

-- a function has its number at each declaration
abbrev pub declared_at : Names → Names → Known → FileValues ℕ
declared_at own shared d = only_at d.file d.token (number_of own shared d)

abbrev pub file_at : FileValues ℕ → Names → List Known → FileValues ℕ
file_at positions shared ds = first_with (declared_at (entries_named positions true ds) shared) ds

-- those of all files, by the positions of the functions' entries
abbrev pub functions_at : FileValues ℕ → List (List Known) → FileValues ℕ
functions_at positions files = first_with (file_at positions (shared_named positions files)) files

-- What files over memory hold, and when they fail.
use Rattle.std.specs.Prelude.{◌≡◌, ◌⊎◌, ℕ, List, Option, Some, None, option_map, Contains, if◌then◌else◌}
use Rattle.std.specs.Str.{bytes_eq}
use Rattle.std.specs.String.{string_bytes}
use Rattle.std.specs.BTreeMap.{get_by_text}
use Rattle.dpi_ports.specs.Told.{Contents}
use Rattle.dpi_ports.specs.Fakes.{next_number}
use Rattle.dpi_ports.specs.declared.memory_files.MemoryFiles.{MemoryFiles}

-- the bytes of each file, by its name
abbrev pub contents_of : MemoryFiles → Contents
contents_of f name = option_map (λ content. content.items) (get_by_text f.files name)

-- the numbers of the fetches at which it fails
abbrev pub fails_of : MemoryFiles → List ℕ
fails_of f = f.fails.items

-- how many fetches there were
abbrev pub fetches_of : MemoryFiles → ℕ
fetches_of f = f.fetches

-- how many faults there were
abbrev pub faults_of : MemoryFiles → ℕ
faults_of f = f.faults

-- the name of the last fault
abbrev pub last_of : MemoryFiles → Option (List ℕ)
last_of f = option_map string_bytes f.last

-- the next fetch of this name is to fail
abbrev pub IsFaulty : MemoryFiles → List ℕ → Type 0
IsFaulty f name = Contains (fails_of f) (next_number (fetches_of f)) ⊎ (contents_of f name ≡ None)

-- the contents with those of one name replaced
abbrev pub replaced : Contents → List ℕ → List ℕ → Contents
replaced contents name bytes asked = if bytes_eq asked name then Some bytes else contents asked

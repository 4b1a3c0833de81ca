-- Positions in a list by place.
use Rattle.std.specs.Prelude.{ℕ, List}
use Rattle.dpi_table.specs.Files.{FileValues, in_file}
use Rattle.dpi_table.specs.Firsts.{number_from}
use Rattle.sv_design.specs.declared.places.Place.{Place}
use Rattle.sv_lookup.specs.declared.numbers.Numbers.{Numbers}

-- each token of each file with the position of what stands there
abbrev pub Positions : Type 0
Positions = FileValues ℕ

-- the position of the first of these places that is at that token, from this position on
abbrev pub places_from : ℕ → List Place → Positions
places_from = number_from (λ (p : Place). p.file) (λ (p : Place). p.token)

-- the position of the first of these places that is at that token
abbrev pub number_in : List Place → Positions
number_in = places_from 0

-- what the code's numbers mean
abbrev pub numbers_of : Numbers → Positions
numbers_of numbers = in_file numbers.tables

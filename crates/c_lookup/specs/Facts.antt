-- What facts say of a token: the first that speaks of it counts.
use Rattle.std.specs.Prelude.{None, List}
use Rattle.c_base.specs.declared.ctype.CType.{CType}
use Rattle.c_facts.specs.declared.facts.CMeant.{CMeant}
use Rattle.c_facts.specs.declared.facts.CFact.{CFact}
use Rattle.c_facts.specs.declared.facts.CFact.TheVariants as facts
use Rattle.dpi_table.specs.Tables.{Values, only}
use Rattle.dpi_table.specs.Files.{FileValues, in_file}
use Rattle.dpi_table.specs.Firsts.{first_of, firsts_in}
use Rattle.c_lookup.specs.declared.facts.Told.{Told}

-- what a fact says that the name at a token means
abbrev pub name_told : CFact → Values CMeant
name_told (facts.Name token meant) other = only token meant other
name_told (facts.Type token type) other = None

-- which type a fact says that the expression has that begins at a token
abbrev pub type_told : CFact → Values CType
type_told (facts.Name token meant) other = None
type_told (facts.Type token type) other = only token type other

-- of all facts of a file
abbrev pub names_told : List CFact → Values CMeant
names_told = first_of name_told

abbrev pub types_told : List CFact → Values CType
types_told = first_of type_told

-- of the facts of each file
abbrev pub names_in : List (List CFact) → FileValues CMeant
names_in = firsts_in name_told

abbrev pub types_in : List (List CFact) → FileValues CType
types_in = firsts_in type_told

-- ---- what the code's tables mean

abbrev pub names_of : Told → FileValues CMeant
names_of told = in_file told.names

abbrev pub types_of : Told → FileValues CType
types_of told = in_file told.types

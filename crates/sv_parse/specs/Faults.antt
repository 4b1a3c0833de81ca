-- What is said of a parser that stopped.
use Rattle.dpi_grammar.specs.declared.stop.Stop.{Stop}
use Rattle.dpi_grammar.specs.declared.stop.Stop.TheVariants as stops
use Rattle.sv_parse.specs.declared.parser.ParseFault.{ParseFault}
use Rattle.sv_parse.specs.declared.parser.ParseFault.TheVariants as faults

abbrev pub fault_of : Stop → ParseFault
fault_of (stops.Syntax at) = faults.Syntax at
fault_of (stops.TooDeep at) = faults.TooDeep at
fault_of stops.Memory = faults.NoMemory

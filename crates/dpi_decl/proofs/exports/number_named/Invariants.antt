use Rattle.std.proofs.Common.{◌≡◌, drop}
use Rattle.dpi_decl.specs.Exports.{number_named}
use Rattle.dpi_decl.proofs.exports.number_named.Given as goal

-- no export before has the name
abbrev pub invariant-loop-export : goal.invariant-loop-export
invariant-loop-export l = number_named l.name (drop l.export-index l.names) ≡ number_named l.name l.names

use Rattle.std.proofs.Common.{flat_map, drop}
use Rattle.sv_names.specs.Names.{names_of}
use Rattle.sv_names.specs.Blocks.{stmt_blocks}
use Rattle.sv_names.specs.Declaring.{IsDeclaring}
use Rattle.sv_names.proofs.declarations.declare_statements.Given as goal

abbrev pub invariant-loop-statement : goal.invariant-loop-statement
invariant-loop-statement l =
    IsDeclaring l.file (flat_map stmt_blocks l.statements) (names_of l.initial.scope) l.initial.found (flat_map stmt_blocks (drop l.statement-index l.statements)) (names_of l.scope) l.found

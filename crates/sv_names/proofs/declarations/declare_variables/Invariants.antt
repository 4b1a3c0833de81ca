use Rattle.std.proofs.Common.{map, drop}
use Rattle.sv_names.specs.Names.{names_of}
use Rattle.sv_names.specs.Declarations as spec
use Rattle.sv_names.specs.Declaring.{IsDeclaring}
use Rattle.sv_names.proofs.declarations.declare_variables.Given as goal

abbrev pub invariant-loop-declarator : goal.invariant-loop-declarator
invariant-loop-declarator l =
    IsDeclaring l.file (spec.variables_declare l.variables) (names_of l.initial.scope) l.initial.found (map (spec.variable_declares l.variables.kind) (drop l.declarator-index l.variables.declarators)) (names_of l.scope) l.found

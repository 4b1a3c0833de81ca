use Rattle.std.proofs.Common.{flat_map, drop}
use Rattle.sv_names.specs.Names.{names_of}
use Rattle.sv_names.specs.Declarations as spec
use Rattle.sv_names.specs.Declaring.{IsDeclaring}
use Rattle.sv_names.proofs.declarations.declare_all_variables.Given as goal

abbrev pub invariant-loop-variables : goal.invariant-loop-variables
invariant-loop-variables l =
    IsDeclaring l.file (flat_map spec.variables_declare l.declarations) (names_of l.initial.scope) l.initial.found (flat_map spec.variables_declare (drop l.variables-index l.declarations)) (names_of l.scope) l.found

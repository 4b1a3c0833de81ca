use Rattle.std.proofs.Common.{◌≡◌, drop}
use Rattle.sv_names.specs.Names.{names_of}
use Rattle.sv_names.specs.Subroutines.{formals_declare}
use Rattle.sv_names.specs.Declaring.{IsDeclaring}
use Rattle.sv_names.proofs.subroutines.declare_formals.Given as goal

abbrev pub invariant-loop-formal : goal.invariant-loop-formal
invariant-loop-formal l = record {
  counted : l.at ≡ l.formal-index;
  declaring : IsDeclaring l.file (formals_declare l.kinds 0 l.formals) (names_of l.initial.scope) l.initial.found (formals_declare l.kinds l.at (drop l.formal-index l.formals)) (names_of l.scope) l.found;
}

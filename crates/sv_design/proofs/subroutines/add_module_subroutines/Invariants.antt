use Rattle.std.proofs.Common.{◌≡◌, ◌++◌, drop, map, length}
use Rattle.sv_instances.specs.Modules.{told}
use Rattle.sv_design.specs.Items.{module_declarations}
use Rattle.sv_design.specs.Counted.{counted}
use Rattle.sv_design.specs.Subroutines.{module_subroutines}
use Rattle.sv_design.proofs.subroutines.add_module_subroutines.Given as goal

-- what is listed, and the modules left over
abbrev pub invariant-loop-placed : goal.invariant-loop-placed
invariant-loop-placed l =
    l.list.items ++ counted module_declarations module_subroutines (length l.declared.items) (map told (drop l.placed-index l.modules)) ≡ l.initial.list.items ++ counted module_declarations module_subroutines (length l.initial.declared.items) (map told l.modules)

-- What modules and instances violate, over all files.
use Rattle.std.specs.Prelude.{ℕ, List, ◌++◌, slice_get}
use Rattle.dpi_rules.specs.declared.violation.Violation.{Violation}
use Rattle.sv_instances.specs.declared.preorder.Child.{Child}
use Rattle.sv_instances.specs.declared.preorder.Instance.{Instance}
use Rattle.sv_instances.specs.Modules.{InFile, number_of, second_modules}
use Rattle.sv_instances.specs.Instances.{all_unknown, all_children}
use Rattle.sv_instances.specs.Cycles.{acyclic, cycle_violations}
use Rattle.sv_instances.specs.Tops.{tops}
use Rattle.sv_instances.specs.Preorder.{from_tops, count_violations}

-- what each module instantiates: a name means the first module that has it
abbrev pub children : List InFile → List (List Child)
children ms = all_children (number_of ms) ms

-- the same without the items that stand on a cycle
abbrev pub kept_children : List InFile → List (List Child)
kept_children ms = acyclic (children ms)

-- the instances of these modules, to so many levels, in preorder from the tops
abbrev pub instances : ℕ → List InFile → List Instance
instances levels ms = from_tops (kept_children ms) levels (tops (kept_children ms) ms)

-- second modules, unknown modules, items on a cycle, and the instance behind the first 1,000
abbrev pub instance_violations : ℕ → List InFile → List Violation
instance_violations levels ms =
    second_modules ms
    ++ all_unknown (number_of ms) ms
    ++ cycle_violations (children ms)
    ++ count_violations (slice_get (instances levels ms) 1000)

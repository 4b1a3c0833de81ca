use Rattle.std.proofs.Common.{◌≡◌, ◌++◌, drop}
use Rattle.std.specs.Prelude.{flat_map}
use Rattle.sv_design.specs.Declarations.{variables_declarations}
use Rattle.sv_design.proofs.declarations.add_all_variables.Given as goal

-- what is listed, and the declarations left over
abbrev pub invariant-loop-variables : goal.invariant-loop-variables
invariant-loop-variables l =
    let of = variables_declarations l.file l.owner in
    l.list.items ++ flat_map of (drop l.variables-index l.declarations) ≡ l.initial.list.items ++ flat_map of l.declarations

use Rattle.std.proofs.Common.{◌≡◌, ◌++◌, drop}
use Rattle.std.specs.Prelude.{flat_map}
use Rattle.sv_design.specs.Items.{formal_declarations}
use Rattle.sv_design.proofs.items.add_formals.Given as goal

-- what is listed, and the formals left over
abbrev pub invariant-loop-formal : goal.invariant-loop-formal
invariant-loop-formal l =
    let of = formal_declarations l.file l.owner in
    l.list.items ++ flat_map of (drop l.formal-index l.formals) ≡ l.initial.list.items ++ flat_map of l.formals

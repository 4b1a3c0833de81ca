use Rattle.std.proofs.Common.{◌≡◌, ◌++◌, drop}
use Rattle.std.specs.Prelude.{flat_map}
use Rattle.sv_tree.specs.declared.items.Formal.{Formal}
use Rattle.sv_meanings.specs.Declarations.{declares}
use Rattle.sv_meanings.proofs.items.add_each_formal.Given as goal

-- what is listed, and the formals left over
abbrev pub invariant-loop-formal : goal.invariant-loop-formal
invariant-loop-formal l =
    let of = (λ (f : Formal). declares f.name) in
    l.list.items ++ flat_map of (drop l.formal-index l.formals) ≡ l.initial.list.items ++ flat_map of l.formals

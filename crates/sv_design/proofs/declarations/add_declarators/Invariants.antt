use Rattle.std.proofs.Common.{◌≡◌, ◌++◌, drop}
use Rattle.std.specs.Prelude.{flat_map}
use Rattle.sv_design.specs.Declarations.{declarator_declarations}
use Rattle.sv_design.proofs.declarations.add_declarators.Given as goal

-- what is listed, and the variables left over
abbrev pub invariant-loop-declarator : goal.invariant-loop-declarator
invariant-loop-declarator l =
    let of = declarator_declarations l.file l.owner l.data_type in
    l.list.items ++ flat_map of (drop l.declarator-index l.declarators) ≡ l.initial.list.items ++ flat_map of l.declarators

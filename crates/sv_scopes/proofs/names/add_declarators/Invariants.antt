use Rattle.std.proofs.Common.{◌≡◌, ◌++◌, drop}
use Rattle.std.specs.Prelude.{flat_map}
use Rattle.dpi_table.specs.Files.{in_file}
use Rattle.sv_scopes.specs.Names.{declarator_names}
use Rattle.sv_scopes.proofs.names.add_declarators.Given as goal

-- what is listed, and the declarators left over
abbrev pub invariant-loop-declarator : goal.invariant-loop-declarator
invariant-loop-declarator l =
    let of = declarator_names l.known.declarations.now (in_file l.known.numbers.now) l.file in
    l.list ++ flat_map of (drop l.declarator-index l.declarators) ≡ l.initial.list ++ flat_map of l.declarators

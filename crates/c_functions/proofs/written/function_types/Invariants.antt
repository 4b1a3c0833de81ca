use Rattle.std.proofs.Common.{◌≡◌, ◌++◌, flat_map, drop}
use Rattle.c_functions.specs.Types.{external_types}
use Rattle.c_functions.proofs.written.function_types.Given as goal

-- the types so far, and those of what is left over
abbrev pub invariant-loop-external : goal.invariant-loop-external
invariant-loop-external l =
    let all = l.file.externals in
    l.types.items ++ flat_map external_types (drop l.external-index all) ≡ flat_map external_types all

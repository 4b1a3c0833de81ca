use Rattle.std.proofs.Common.{◌≡◌, ◌++◌, map, flat_map, drop}
use Rattle.c_functions.specs.Declarations.{told, external_known, has}
use Rattle.c_functions.proofs.declarations.listed.Given as goal

-- those so far, and those left over
abbrev pub invariant-loop-external : goal.invariant-loop-external
invariant-loop-external l =
    let f = external_known l.file (has l.statics) in
    map told l.list ++ flat_map f (drop l.external-index l.externals) ≡ flat_map f l.externals

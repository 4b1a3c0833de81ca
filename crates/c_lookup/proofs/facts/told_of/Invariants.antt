use Rattle.std.proofs.Common.{◌≡◌, take, map}
use Rattle.std.specs.Vec.{vec_items}
use Rattle.c_lookup.specs.Facts.{names_of, types_of, names_in, types_in}
use Rattle.c_lookup.proofs.facts.told_of.Given as goal

-- what the files before say
abbrev pub invariant-loop-file : goal.invariant-loop-file
invariant-loop-file l = record {
  names : names_of l.told ≡ names_in (map vec_items (take l.file l.files));
  types : types_of l.told ≡ types_in (map vec_items (take l.file l.files));
}

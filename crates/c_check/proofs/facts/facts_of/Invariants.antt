use Rattle.std.proofs.Common.{◌≡◌, ◌++◌, drop, map}
use Rattle.std.specs.Vec.{vec_items}
use Rattle.c_check.specs.Facts.{facts_from}
use Rattle.c_check.proofs.facts.facts_of.Given as goal

-- what is listed, and the files left over
abbrev pub invariant-loop-file : goal.invariant-loop-file
invariant-loop-file l = record {
  counted : l.number ≡ l.file-index;
  listed : map vec_items l.list.items ++ facts_from l.number (drop l.file-index l.files) ≡ facts_from 0 l.files;
}

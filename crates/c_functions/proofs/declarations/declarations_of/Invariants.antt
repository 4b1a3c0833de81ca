use Rattle.std.proofs.Common.{◌≡◌, ◌++◌, map, drop}
use Rattle.c_functions.specs.Declarations.{told, known_from, known_of}
use Rattle.c_functions.proofs.declarations.declarations_of.Given as goal

-- the files so far, and those left over
abbrev pub invariant-loop-file : goal.invariant-loop-file
invariant-loop-file l = record {
  counted : l.number ≡ l.file-index;
  listed : map (map told) l.table ++ known_from l.number (drop l.file-index l.files) ≡ known_of l.files;
}

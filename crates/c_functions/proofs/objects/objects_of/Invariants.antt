use Rattle.std.proofs.Common.{◌≡◌, ◌++◌, map, drop}
use Rattle.c_functions.specs.Objects.{told, objects_from, objects_of}
use Rattle.c_functions.proofs.objects.objects_of.Given as goal

-- the files so far, and those left over
abbrev pub invariant-loop-file : goal.invariant-loop-file
invariant-loop-file l = record {
  counted : l.number ≡ l.file-index;
  listed : map told l.list ++ objects_from l.number (drop l.file-index l.files) ≡ objects_of l.files;
}

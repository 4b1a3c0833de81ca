use Rattle.std.proofs.Common.{◌≡◌, ◌++◌, drop}
use Rattle.c_program.specs.Objects.{objects_from, objects_of}
use Rattle.c_program.proofs.objects.add_files.Given as goal

-- the objects so far, and those of the files left over
abbrev pub invariant-loop-file : goal.invariant-loop-file
invariant-loop-file l = record {
  counted : l.number ≡ l.file-index;
  listed : l.list.items ++ objects_from l.number (drop l.file-index l.files) ≡ l.initial.list.items ++ objects_of l.files;
}

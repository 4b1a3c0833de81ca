use Rattle.std.proofs.Common.{◌≡◌, drop}
use Rattle.dpi_rules.specs.Least.{noted}
use Rattle.c_check.specs.Check.{files_from}
use Rattle.c_check.proofs.files.note_each.Given as goal

-- what is noted so far, and what the files left over break
abbrev pub invariant-loop-file : goal.invariant-loop-file
invariant-loop-file l = record {
  counted : l.number ≡ l.file-index;
  same : noted l.initial.found (files_from 0 l.files) ≡ noted l.found (files_from l.number (drop l.file-index l.files));
}

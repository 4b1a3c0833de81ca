use Rattle.std.proofs.Common.{◌≡◌, drop}
use Rattle.dpi_rules.specs.Least.{noted}
use Rattle.sv_check.specs.Check.{forms_from}
use Rattle.sv_check.proofs.files.note_forms.Given as goal

-- what is noted so far, and what the files left over break
abbrev pub invariant-loop-file : goal.invariant-loop-file
invariant-loop-file l = record {
  counted : l.number ≡ l.file-index;
  same : noted l.initial.found (forms_from 0 l.files) ≡ noted l.found (forms_from l.number (drop l.file-index l.files));
}

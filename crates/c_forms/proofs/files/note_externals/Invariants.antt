use Rattle.std.proofs.Common.{drop}
use Rattle.dpi_rules.proofs.Noting.{IsNoted}
use Rattle.c_forms.specs.Files.{external_violations}
use Rattle.c_forms.proofs.files.note_externals.Given as goal

-- what is noted so far, and what the ones left over break
abbrev pub invariant-loop-external : goal.invariant-loop-external
invariant-loop-external l = IsNoted (external_violations l.file) l.initial.found l.externals (drop l.external-index l.externals) l.found

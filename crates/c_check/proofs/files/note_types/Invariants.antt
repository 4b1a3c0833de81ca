use Rattle.std.proofs.Common.{drop}
use Rattle.dpi_rules.proofs.Noting.{IsNoted}
use Rattle.c_check.specs.Check.{written_violations}
use Rattle.c_check.proofs.files.note_types.Given as goal

-- what is noted so far, and what the ones left over break
abbrev pub invariant-loop-external : goal.invariant-loop-external
invariant-loop-external l = IsNoted (written_violations l.number) l.initial.found l.externals (drop l.external-index l.externals) l.found

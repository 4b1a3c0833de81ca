use Rattle.std.proofs.Common.{drop}
use Rattle.dpi_rules.proofs.Noting.{IsNoted}
use Rattle.c_calls.specs.Refusals.{rules_of}
use Rattle.c_calls.specs.Files.{in_external}
use Rattle.c_calls.proofs.files.note_externals.Given as goal

-- what is noted so far, and what the ones left over break
abbrev pub invariant-loop-external : goal.invariant-loop-external
invariant-loop-external l = IsNoted (in_external l.file (rules_of l.refusals)) l.initial.found l.externals (drop l.external-index l.externals) l.found

use Rattle.std.proofs.Common.{drop}
use Rattle.dpi_rules.proofs.Noting.{IsNoted}
use Rattle.c_functions.specs.Objects.{told}
use Rattle.c_functions.specs.Shared.{violations_by, kept_of}
use Rattle.c_functions.proofs.shared.note_all.Given as goal

-- what is noted so far, and what the objects left over break
abbrev pub invariant-loop-object : goal.invariant-loop-object
invariant-loop-object l =
    IsNoted (λ o. violations_by (kept_of l.definitions) (told o)) l.initial.found l.objects (drop l.object-index l.objects) l.found

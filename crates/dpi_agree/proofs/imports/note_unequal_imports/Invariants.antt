use Rattle.std.proofs.Common.{take, drop}
use Rattle.dpi_agree.specs.Firsts.{told}
use Rattle.dpi_agree.specs.Imports.{name_of, unequal_violations}
use Rattle.dpi_agree.proofs.Walks.{IsWalk}
use Rattle.dpi_agree.proofs.imports.note_unequal_imports.Given as goal

abbrev pub invariant-loop-import : goal.invariant-loop-import
invariant-loop-import l =
    IsWalk name_of unequal_violations l.initial.found l.imports (take l.import-index l.imports) (drop l.import-index l.imports) (told l.firsts) l.found

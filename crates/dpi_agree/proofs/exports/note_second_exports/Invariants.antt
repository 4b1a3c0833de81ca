use Rattle.std.proofs.Common.{take, drop}
use Rattle.dpi_agree.specs.Firsts.{told}
use Rattle.dpi_agree.specs.Exports.{name_of, second_violations}
use Rattle.dpi_agree.proofs.Walks.{IsWalk}
use Rattle.dpi_agree.proofs.exports.note_second_exports.Given as goal

abbrev pub invariant-loop-export : goal.invariant-loop-export
invariant-loop-export l =
    IsWalk name_of second_violations l.initial.found l.exports (take l.export-index l.exports) (drop l.export-index l.exports) (told l.firsts) l.found

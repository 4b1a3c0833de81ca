use Rattle.std.proofs.Common.{◌≡◌, ◌++◌, map, drop}
use Rattle.std.specs.Prelude.{filter}
use Rattle.dpi_links.specs.Exports.{item_of, is_subroutine}
use Rattle.dpi_links.proofs.exports.subroutines_of.Given as goal

abbrev pub invariant-loop-item : goal.invariant-loop-item
invariant-loop-item l =
    map item_of l.list ++ filter is_subroutine (drop l.item-index l.items) ≡ filter is_subroutine l.items

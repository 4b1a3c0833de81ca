use Rattle.std.proofs.Common.{◌≡◌, ◌-◌}
use Rattle.dpi_grammar.specs.Parser.{many_from}
use Rattle.sv_parse.specs.Reading.{begins_item, item, listed_items}
use Rattle.sv_parse.proofs.items.listed_items.Given as goal

abbrev pub invariant-loop-turn : goal.invariant-loop-turn
invariant-loop-turn l = listed_items l.depth l.fn.tokens ≡ many_from begins_item (item l.depth) (l._turn-end - l._turn) l.found l.tokens

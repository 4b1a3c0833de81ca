use Rattle.std.proofs.Common.{◌≡◌, ◌+◌, take, count_by}
use Rattle.std.specs.List.{suffix_len}
use Rattle.dpi_lex.specs.Place.{is_line_feed}
use Rattle.dpi_lex.proofs.PlaceLemmas.{stays_on_line}
use Rattle.dpi_lex.proofs.place.line_column_of.Given as goal

abbrev pub invariant-loop-byte : goal.invariant-loop-byte
invariant-loop-byte l =
    (l.line ≡ 1 + count_by is_line_feed (take l.byte-index l.byte-items)) ×
    (l.column ≡ 1 + suffix_len stays_on_line (take l.byte-index l.byte-items))

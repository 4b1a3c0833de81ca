use Rattle.std.proofs.Common.{◌≡◌, [], ◌-◌}
use Rattle.dpi_grammar.specs.Parser.{more, many_from}
use Rattle.c_parse.specs.Front.{begins_external}
use Rattle.c_parse.specs.ReadingFile.{external}
use Rattle.c_parse.proofs.file.externals.Given as goal

abbrev pub invariant-loop-turn : goal.invariant-loop-turn
invariant-loop-turn l = more begins_external (external l.depth) [] l.fn.tokens ≡ many_from begins_external (external l.depth) (l._turn-end - l._turn) l.found l.tokens

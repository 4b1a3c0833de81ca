use Rattle.std.proofs.Common.{length, ◌-◌, ◌≤◌}
use Rattle.dpi_lex.specs.Languages.{forms_of}
use Rattle.dpi_lex.specs.Lexed.{AreSpans}
use Rattle.dpi_lex.proofs.Reading.{Reads}
use Rattle.dpi_lex.proofs.lexer.tokens_of.Given as goal

abbrev pub invariant-loop-place : goal.invariant-loop-place
invariant-loop-place l =
    (l.place ≤ length l.text) × AreSpans 0 l.place l.tokens.items × Reads (forms_of l.language)
    l.text l.place l.tokens.items

abbrev pub decreases-loop-place : goal.decreases-loop-place
decreases-loop-place l = length l.text - l.place

use Rattle.std.proofs.Common.{sym, ap, ◌∙◌}
use Rattle.dpi_grammar.specs.Parser.{first}
use Rattle.c_cursor.specs.Reading.{bytes_at}
use Rattle.c_cursor.proofs.Places.{bytes_there}
use Rattle.c_cursor.proofs.cursor.Cursor.bytes.Goals as goal

pub returns-then-self-len-clause-ok : goal.returns-then-self-len-clause-ok
returns-then-self-len-clause-ok c =
    let inside = c.self.inside in
    let e = bytes_there inside.tokens.now inside.place _ c.bytes.ensures.bytes in
    c.in_ok-from_slice.ensures ∙ sym e ∙ ap (λ s. bytes_at (first s.rest)) c.self.view_is

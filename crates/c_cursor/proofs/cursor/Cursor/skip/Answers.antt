use Rattle.std.proofs.Common.{◌<◌, length, ap, ◌∙◌, arith}
use Rattle.dpi_grammar.specs.Parser.{step}
use Rattle.c_cursor.proofs.Places.{step_state}
use Rattle.c_cursor.proofs.cursor.Cursor.skip.Goals as goal

pub returns-then-self-len : goal.returns-then-self-len
returns-then-self-len c =
    let below : c.self.inside.place < length c.self.inside.tokens.now.tokens = omega arith in
    step_state c.self.inside.tokens.now c.self.inside.place below ∙ ap step c.self.view_is

use Rattle.std.proofs.Common.{sym}
use Rattle.dpi_lex.proofs.Fronts.{line-past, longest_front-line}
use Rattle.dpi_lex.proofs.comments.line.Goals as goal

pub returns-clause-stretch : goal.returns-clause-stretch
returns-clause-stretch c =
    rw c.line_len.ensures.run
    (sym (longest_front-line c.args.text.now c.args.rest.now c.requires.some c.requires.one_line
    c.requires.starts))

pub returns-clause-past : goal.returns-clause-past
returns-clause-past c =
    rw c.line_len.ensures.run
    (line-past c.args.text.now c.args.rest.now c.requires.one_line c.requires.starts)

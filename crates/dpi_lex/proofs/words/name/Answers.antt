use Rattle.std.proofs.Common.{sym}
use Rattle.dpi_lex.proofs.WordLemmas.{longest_front-name}
use Rattle.dpi_lex.proofs.words.name.Goals as goal

pub returns-clause-stretch : goal.returns-clause-stretch
returns-clause-stretch c =
    rw c.name_len.ensures.run
    (sym (longest_front-name c.args.language c.args.rest.now c.requires.some c.requires.starts))

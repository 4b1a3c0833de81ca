use Rattle.std.proofs.Common.{sym, refl}
use Rattle.dpi_lex.proofs.CommentLemmas.{longest_front-block, longest_front-open_block}
use Rattle.dpi_lex.proofs.comments.block_comment.Goals as goal

pub returns-in-Some-clause-stretch : goal.returns-in-Some-clause-stretch
returns-in-Some-clause-stretch c =
    sym (longest_front-block c.args.rest.now c.bytes_from.result.now c.in-Some.end
    c.bytes_from.ensures c.requires c.in-Some.ensures _ refl)

pub returns-in-None-clause-stretch : goal.returns-in-None-clause-stretch
returns-in-None-clause-stretch c =
    sym (longest_front-open_block c.args.rest.now c.bytes_from.result.now c.bytes_from.ensures
    c.requires c.in-None.ensures)

use Rattle.std.proofs.Common.{rules}
use Rattle.dpi_lex.specs.Words.{words_of}
use Rattle.c_parse.proofs.Answers.{parsed, too_deep}
use Rattle.c_parse.proofs.parser.parse.Goals as goal

pub returns-in-Ok : goal.returns-in-Ok
returns-in-Ok c = record { answer = parsed 24 (words_of c.args.tokens.now) c.in-Ok.file c.whole.new.tokens (search rules) }

pub returns-in-Err-TooDeep : goal.returns-in-Err-TooDeep
returns-in-Err-TooDeep c = record { answer = too_deep 24 (words_of c.args.tokens.now) c.opener.result c.in-Err-TooDeep.shows (search rules) c.opener.ensures }

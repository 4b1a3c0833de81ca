use Rattle.std.proofs.Common.{rules}
use Rattle.sv_parse.proofs.FileAnswers.{answer_read, answer_stopped, answered}
use Rattle.sv_parse.proofs.parser.parse.Goals as goal

pub returns-in_err-whole_file-clause-answer : goal.returns-in_err-whole_file-clause-answer
returns-in_err-whole_file-clause-answer c =
    let stop = c.in_err-whole_file.field-0.0 in
    (answered c.args.tokens.now stop c.from_residual.result (answer_stopped c.args.tokens.now stop (search rules)) c.from_residual.ensures.1).0

pub returns-in_err-whole_file-clause-within : goal.returns-in_err-whole_file-clause-within
returns-in_err-whole_file-clause-within c =
    let stop = c.in_err-whole_file.field-0.0 in
    (answered c.args.tokens.now stop c.from_residual.result (answer_stopped c.args.tokens.now stop (search rules)) c.from_residual.ensures.1).1

pub returns-clause-answer : goal.returns-clause-answer
returns-clause-answer c = answer_read c.args.tokens.now c.in_ok-whole_file.field-0 c.whole_file.new.tokens (search rules)

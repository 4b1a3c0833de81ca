use Rattle.std.proofs.Common.{◌≤◌, length, arith, Err, subst}
use Rattle.std.proofs.lemmas.List.{length-map}
use Rattle.dpi_lex.specs.Words.{word_of, words_of}
use Rattle.c_parse.specs.Answer.{IsAnswer}
use Rattle.c_tree.specs.File.{file_told}
use Rattle.c_cursor.specs.Reading.{late}
use Rattle.dpirun.specs.Faults.{most_levels}
use Rattle.dpirun.proofs.Readings.{too_deep_within}
use Rattle.dpirun.proofs.reading.c_parsed.Goals as goal

pub at_token-refusal-requires-in-Err-TooDeep : goal.at_token-refusal-requires-in-Err-TooDeep
at_token-refusal-requires-in-Err-TooDeep c =
    let tokens = c.args.tokens.now in
    let answer = subst (λ f. IsAnswer (words_of tokens) (Err f)) c.in-Err-TooDeep.field-0-is c.in-Err-TooDeep.ensures.answer in
    let within : c.in-Err-TooDeep.token ≤ length (words_of tokens) = too_deep_within file_told most_levels (words_of tokens) late c.in-Err-TooDeep.token answer in
    omega (arith, within, length-map tokens.tokens (word_of tokens.text))

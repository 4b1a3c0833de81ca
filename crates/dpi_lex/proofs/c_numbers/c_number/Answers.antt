use Rattle.std.proofs.Common.{ap, ◌∙◌}
use Rattle.dpi_lex.specs.Digits.{number_if}
use Rattle.dpi_lex.proofs.CNumberLemmas.{c_number_is}
use Rattle.dpi_lex.proofs.c_numbers.c_number.Goals as goal

pub returns-clause-stretch : goal.returns-clause-stretch
returns-clause-stretch c =
    c_number_is c.args.rest.now c.requires.some c.requires.starts c.number_len-len.result
    c.number_len-len.ensures.run c.number_if-form.result (c.number_if-form.ensures.form
    ∙ ap number_if c.is_c_number.ensures)

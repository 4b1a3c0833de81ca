use Rattle.std.proofs.Common.{◌≡◌, take, sym, ap, ◌∙◌}
use Rattle.dpi_lex.specs.Digits.{number_if}
use Rattle.dpi_lex.specs.SvNumbers.{is_plain_number}
use Rattle.dpi_lex.proofs.SvForms.{longest_front-based, plain_is}
use Rattle.dpi_lex.proofs.sv_numbers.sv_number.Goals as goal

pub returns-in-Some-clause-stretch : goal.returns-in-Some-clause-stretch
returns-in-Some-clause-stretch c =
    sym (longest_front-based c.args.rest.now c.requires.some c.requires.starts c.in-Some.stretch
    c.in-Some.ensures.longest c.in-Some.ensures.past)

pub returns-in-None-clause-stretch : goal.returns-in-None-clause-stretch
returns-in-None-clause-stretch c =
    let rest = c.args.rest.now in
    let form : c.number_if.result ≡ number_if (is_plain_number (take c.plain_len-len.result rest)) =
    c.number_if.ensures.form ∙ ap number_if c.is_plain_number.ensures in
    plain_is rest c.requires.some c.requires.starts c.in-None.ensures.longest c.plain_len-len.result
    c.plain_len-len.ensures.run c.number_if.result form

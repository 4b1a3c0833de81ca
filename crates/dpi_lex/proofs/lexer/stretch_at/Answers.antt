use Rattle.std.proofs.Common.{◌≡◌, ap, ◌∙◌}
use Rattle.dpi_lex.specs.Languages.{forms_of}
use Rattle.dpi_lex.specs.Stretches.{front_of, begins_line, stretch_at}
use Rattle.dpi_lex.proofs.Reading.{stretch_at-within}
use Rattle.dpi_lex.proofs.lexer.stretch_at.Goals as goal

pub returns-clause-some : goal.returns-clause-some
returns-clause-some c =
    let forms = forms_of c.args.language in
    let text = c.args.text.now in
    let place = c.args.place in
    let same : c.front.result ≡ stretch_at forms text place = c.front.ensures.stretch
    ∙ ap (λ b. front_of forms b c.bytes_from.result.now) c.begins_line.ensures
    ∙ ap (front_of forms (begins_line text place)) c.bytes_from.ensures in
    rw same (stretch_at-within forms text place c.requires.place).0

pub returns-clause-within : goal.returns-clause-within
returns-clause-within c =
    let forms = forms_of c.args.language in
    let text = c.args.text.now in
    let place = c.args.place in
    let same : c.front.result ≡ stretch_at forms text place = c.front.ensures.stretch
    ∙ ap (λ b. front_of forms b c.bytes_from.result.now) c.begins_line.ensures
    ∙ ap (front_of forms (begins_line text place)) c.bytes_from.ensures in
    rw same (stretch_at-within forms text place c.requires.place).1

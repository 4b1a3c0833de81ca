use Rattle.std.proofs.Common.{sym, ◌∙◌}
use Rattle.dpi_lex.proofs.DefineLemmas.{front_of-no_define, define_is, begins_define-place}
use Rattle.dpi_lex.proofs.DefineLemmas.{begins_define-no_place}
use Rattle.dpi_lex.proofs.define.define.Goals as goal

pub returns-then-place-eq0-clause-stretch : goal.returns-then-place-eq0-clause-stretch
returns-then-place-eq0-clause-stretch c =
    let rest = c.args.rest.now in
    c.bad_byte.ensures ∙ sym
    (front_of-no_define rest
    (begins_define-no_place rest (sym c.number_place-place.ensures.place
    ∙ c.if-place-eq0.true)))

pub returns-clause-stretch : goal.returns-clause-stretch
returns-clause-stretch c =
    let rest = c.args.rest.now in
    define_is rest (begins_define-place rest
    (λ none. c.if-place-eq0.false (c.number_place-place.ensures.place ∙ none)))
    c.number_place-place.result c.number_place-place.ensures.place
    c.bytes_from-number.result.now c.bytes_from-number.ensures c.number_len-len.result
    c.number_len-len.ensures.run c.bytes_from.result.now c.bytes_from.ensures c.define_of.result
    c.define_of.ensures.form

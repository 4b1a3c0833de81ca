use Rattle.std.proofs.Common.{sym, ap, ◌∙◌}
use Rattle.dpi_lex.specs.C.{hash_forms}
use Rattle.dpi_lex.specs.Stretches.{front_of}
use Rattle.dpi_lex.proofs.HashLemmas.{front_of-hash_within, front_of-include, front_of-hash}
use Rattle.dpi_lex.proofs.c_front.hash.Goals as goal

pub returns-then-not-begins-clause-stretch : goal.returns-then-not-begins-clause-stretch
returns-then-not-begins-clause-stretch c =
    let rest = c.args.rest.now in
    c.bad_byte.ensures ∙ sym (ap (λ t. front_of hash_forms t rest) c.if-not-begins.true
    ∙ front_of-hash_within rest)

pub returns-then-starts_with-clause-stretch : goal.returns-then-starts_with-clause-stretch
returns-then-starts_with-clause-stretch c =
    let rest = c.args.rest.now in
    c.line.ensures.stretch
    ∙ sym (ap (λ t. front_of hash_forms t rest) c.if-not-begins.false
    ∙ front_of-include rest (sym c.starts_with.ensures.value ∙ c.if-starts_with.true))

pub returns-clause-stretch : goal.returns-clause-stretch
returns-clause-stretch c =
    let rest = c.args.rest.now in
    c.define.ensures.stretch
    ∙ sym (ap (λ t. front_of hash_forms t rest) c.if-not-begins.false
    ∙ front_of-hash rest (sym c.starts_with.ensures.value ∙ c.if-starts_with.false))

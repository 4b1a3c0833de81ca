use Rattle.std.proofs.Common.{◌&&◌, sym, ap, ◌∙◌}
use Rattle.std.specs.Prelude.{codes, nat_eq}
use Rattle.std.specs.List.{starts_with}
use Rattle.dpi_lex.proofs.Fronts.{longest_front-no_line}
use Rattle.dpi_lex.proofs.sv_front.directive.Goals as goal

pub returns-then-not-begins-clause-stretch : goal.returns-then-not-begins-clause-stretch
returns-then-not-begins-clause-stretch c =
    let rest = c.args.rest.now in
    c.bad_byte.ensures
    ∙ sym (longest_front-no_line c.args.begins (codes "`timescale") rest
    (ap (λ t. t && starts_with nat_eq rest (codes "`timescale")) c.if-not-begins.true))

pub returns-then-not-starts_with-clause-stretch : goal.returns-then-not-starts_with-clause-stretch
returns-then-not-starts_with-clause-stretch c =
    let rest = c.args.rest.now in
    c.bad_byte-then-not-starts_with.ensures
    ∙ sym (longest_front-no_line c.args.begins (codes "`timescale") rest
    (ap (λ t. t && starts_with nat_eq rest (codes "`timescale")) c.if-not-begins.false
    ∙ sym c.starts_with.ensures.value ∙ c.if-not-starts_with.true))

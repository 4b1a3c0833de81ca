use Rattle.std.proofs.Common.{◌≡◌, true, false, get_or, sym, ap, ◌∙◌, arith}
use Rattle.std.specs.Prelude.{codes}
use Rattle.dpi_lex.specs.Bytes.{is_among}
use Rattle.dpi_lex.proofs.SvForms.{longest_front-unsized, longest_front-fill}
use Rattle.dpi_lex.proofs.SvForms.{longest_front-apostrophe}
use Rattle.dpi_lex.proofs.sv_front.apostrophe.Goals as goal

pub returns-in-Some-clause-stretch : goal.returns-in-Some-clause-stretch
returns-in-Some-clause-stretch c =
    sym (longest_front-unsized c.args.rest.now c.requires c.in-Some.stretch
    c.in-Some.ensures.longest (omega (arith, c.in-Some.ensures.past)))

pub returns-then-is_fill_letter-clause-stretch : goal.returns-then-is_fill_letter-clause-stretch
returns-then-is_fill_letter-clause-stretch c =
    let rest = c.args.rest.now in
    let letter : is_among (codes "01xz") (get_or rest 1 0) ≡ true =
    ap (is_among (codes "01xz")) (sym c.byte_at.ensures) ∙ sym c.is_fill_letter.ensures
    ∙ c.if-is_fill_letter.true in
    sym (longest_front-fill rest c.requires letter c.in_default.ensures.longest)

pub returns-clause-stretch : goal.returns-clause-stretch
returns-clause-stretch c =
    let rest = c.args.rest.now in
    let letter : is_among (codes "01xz") (get_or rest 1 0) ≡ false =
    ap (is_among (codes "01xz")) (sym c.byte_at.ensures) ∙ sym c.is_fill_letter.ensures
    ∙ c.if-is_fill_letter.false in
    c.sign.ensures.stretch
    ∙ sym (longest_front-apostrophe rest c.requires letter c.in_default.ensures.longest)

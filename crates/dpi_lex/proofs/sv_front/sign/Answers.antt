use Rattle.std.proofs.Common.{◌≡◌, false, get_or, refl, sym, ap, ◌∙◌}
use Rattle.std.specs.Prelude.{codes}
use Rattle.dpi_lex.specs.declared.token.Kind.TheVariants.{Sign}
use Rattle.dpi_lex.specs.Bytes.{is_among}
use Rattle.dpi_lex.specs.Listed.{listed_stretch}
use Rattle.dpi_lex.specs.SystemVerilog.{sv_signs, sv_long_signs, sv_short_signs}
use Rattle.dpi_lex.proofs.Fronts.{longest_front-listed, listed-short}
use Rattle.dpi_lex.proofs.sv_front.sign.Goals as goal

pub returns-then-is_among-clause-stretch : goal.returns-then-is_among-clause-stretch
unfolding sv_signs sv_long_signs sv_short_signs
returns-then-is_among-clause-stretch c = c.listed_token.ensures.stretch

pub returns-else-is_among-clause-stretch : goal.returns-else-is_among-clause-stretch
unfolding sv_signs sv_long_signs sv_short_signs
returns-else-is_among-clause-stretch c =
    let rest = c.args.rest.now in
    let other : is_among (codes "<>={+-:&|^~") (get_or rest 1 0) ≡ false =
    ap (is_among (codes "<>={+-:&|^~")) (sym c.byte_at.ensures) ∙ sym c.is_among.ensures
    ∙ c.if-is_among.false in
    c.single_token.ensures.stretch
    ∙ sym (ap (listed_stretch Sign)
    (listed-short sv_long_signs (codes "<>={+-:&|^~") sv_short_signs rest refl refl other))
    ∙ sym (longest_front-listed sv_signs Sign rest refl)

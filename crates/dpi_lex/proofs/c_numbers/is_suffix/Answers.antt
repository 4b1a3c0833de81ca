use Rattle.std.proofs.Common.{◌≡◌, false, length, ap, sym, ◌∙◌, ◌||◌}
use Rattle.std.specs.Prelude.{◌==◌}
use Rattle.dpi_lex.specs.CNumbers.{suffixes}
use Rattle.dpi_lex.specs.Shapes.{is_listed}
use Rattle.dpi_lex.proofs.c_numbers.is_suffix.Goals as goal

pub returns-else-is_empty : goal.returns-else-is_empty
unfolding suffixes
returns-else-is_empty c =
    let some : (length c.args.bytes.now == 0) ≡ false = sym c.is_empty.ensures
    ∙ c.if-is_empty.false in
    c.is_listed.ensures ∙ sym (ap (λ t. t || is_listed suffixes c.args.bytes.now) some)

use Rattle.std.proofs.Common.{◌≡◌, ◌≤◌, length, ap, ◌∙◌, sym, subst, ℕ}
use Rattle.dpi_literal.specs.declared.form.NumberKind.TheVariants.{Based}
use Rattle.dpi_literal.specs.SvNumber.{bits_by, given_width}
use Rattle.dpi_literal.proofs.Widths.{length-bits_by_based}
use Rattle.dpi_literal.proofs.bits.based_bits.Goals as goal

pub returns-then-base-eq10-clause-inline : goal.returns-then-base-eq10-clause-inline
returns-then-base-eq10-clause-inline c h =
    let width : length (bits_by Based c.args.bytes.now) ≡ c.given_width-width.result =
    length-bits_by_based c.args.bytes.now
    ∙ sym (c.given_width-width.ensures.width ∙ ap given_width c.size_of.ensures) in
    let P : ℕ → Type 0 = λ n. n ≤ 128 in
    c.decimal_bits.ensures.inline (subst P width h)

pub returns-else-base-eq10-clause-inline : goal.returns-else-base-eq10-clause-inline
returns-else-base-eq10-clause-inline c h =
    let width : length (bits_by Based c.args.bytes.now) ≡ c.given_width-width.result =
    length-bits_by_based c.args.bytes.now
    ∙ sym (c.given_width-width.ensures.width ∙ ap given_width c.size_of.ensures) in
    let P : ℕ → Type 0 = λ n. n ≤ 128 in
    c.padded.ensures.inline (subst P width h)

use Rattle.std.proofs.Common.{◌≡◌, ℕ, Bool, length, ap, ◌∙◌, sym}
use Rattle.std.specs.Prelude.{◌==◌, not}
use Rattle.std.specs.List.{list_any}
use Rattle.dpi_lex.specs.SvNumbers.{base_len, given_digits, is_four_state}
use Rattle.dpi_literal.specs.declared.form.NumberForm.{NumberForm}
use Rattle.dpi_literal.specs.declared.form.NumberKind.TheVariants.{Based}
use Rattle.dpi_literal.specs.SvNumber.{bits_by, given_width, is_signed_by, is_four_by, is_sized_by}
use Rattle.dpi_literal.proofs.Widths.{length-bits_by_based}
use Rattle.dpi_literal.proofs.form.based_form.Goals as goal

abbrev based : ℕ → Bool → Bool → Bool → NumberForm
based w s f z = record { width = w; signed = s; four = f; sized = z; kind = Based }

pub returns-clause-form : goal.returns-clause-form
returns-clause-form c =
    let bytes = c.args.bytes.now in
    let size = c.size_of-size.ensures in
    let after = c.after_size-after.ensures in
    let width : c.given_width.result ≡ length (bits_by Based bytes) =
    c.given_width.ensures.width ∙ ap given_width size ∙ sym (length-bits_by_based bytes) in
    let signed : (c.base_len.result == 3) ≡ is_signed_by Based bytes =
    ap (λ n. n == 3) (c.base_len.ensures ∙ ap base_len after) in
    let four : c.has_four_state.result ≡ is_four_by Based bytes =
    c.has_four_state.ensures ∙ ap (list_any is_four_state) (c.given_digits.ensures ∙ ap given_digits after) in
    let sized : not c.is_empty.result ≡ is_sized_by Based bytes =
    ap not (c.is_empty.ensures ∙ ap (λ s. length s == 0) size) in
    ap (λ w. based w (c.base_len.result == 3) c.has_four_state.result (not c.is_empty.result)) width
    ∙ ap (λ s. based (length (bits_by Based bytes)) s c.has_four_state.result (not c.is_empty.result)) signed
    ∙ ap (λ f. based (length (bits_by Based bytes)) (is_signed_by Based bytes) f (not c.is_empty.result)) four
    ∙ ap (based (length (bits_by Based bytes)) (is_signed_by Based bytes) (is_four_by Based bytes)) sized

use Rattle.std.proofs.Common.{◌≡◌, ◌∙◌, ℕ, Bool, List, Some, None, Err, IfOk, ap, sym, subst}
use Rattle.dpi_format.specs.CFormat.{IsCFormat}
use Rattle.dpi_literal.specs.Texts.{text_of}
use Rattle.c_printf.specs.Pieces.{pieces_of}
use Rattle.c_printf.specs.Arguments as spec
use Rattle.c_printf.proofs.Reading.{read_all, read_none}
use Rattle.c_printf.proofs.arguments.text_fits.Goals as goal

pub returns-in-Ok : goal.returns-in-Ok
returns-in-Ok c =
    let P : List ℕ → Type 0 = λ t. IsCFormat t c.in-Ok.pieces.items in
    let is : pieces_of (text_of c.args.bytes.now) ≡ Some c.in-Ok.pieces.items =
    read_all (text_of c.args.bytes.now) c.in-Ok.pieces.items
    (subst P (c.as_slice.ensures.value ∙ c.in_ok-text.ensures) c.in-Ok.ensures.ok) in
    let same : spec.pieces_fit c.as_slice-in-Ok.result.now c.args.arguments.now ≡ spec.text_fits c.args.bytes.now c.args.arguments.now =
    ap (λ ps. spec.pieces_fit ps c.args.arguments.now) c.as_slice-in-Ok.ensures.value
    ∙ sym (ap (λ o. spec.format_fits o c.args.arguments.now) is) in
    let Q : Bool → Type 0 = λ b. IfOk c.pieces_fit.result (λ fits. fits ≡ b) in
    subst Q same c.pieces_fit.ensures

pub returns-in-Err-Unknown : goal.returns-in-Err-Unknown
returns-in-Err-Unknown c =
    let P : List ℕ → Type 0 = λ t. pieces_of t ≡ None in
    let none : pieces_of (text_of c.args.bytes.now) ≡ None =
    subst P (c.as_slice.ensures.value ∙ c.in_ok-text.ensures)
    (read_none c.as_slice.result.now (c.in-Err-Unknown.ensures.unknown (ap Err c.in-Err-Unknown.field-0-is))) in
    sym (ap (λ o. spec.format_fits o c.args.arguments.now) none)

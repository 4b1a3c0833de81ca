use Rattle.std.proofs.Common.{◌≡◌, ◌+◌, ◌<◌, true, false, Some, length, get_or, suc, arith, inl}
use Rattle.std.proofs.Common.{inr, sym, ◌∙◌, ap, refl}
use Rattle.std.specs.Prelude.{◌⊎◌}
use Rattle.std.proofs.lemmas.Bool.Decides.{nat_tests}
use Rattle.dpi_lex.specs.declared.fault.LexFault.TheVariants.{BadByte}
use Rattle.dpi_lex.specs.declared.form.Form.{Form}
use Rattle.dpi_lex.specs.declared.form.Form.TheVariants.{Faulty}
use Rattle.dpi_lex.specs.Bytes.{is_quote, is_escape}
use Rattle.dpi_lex.specs.Place.{is_line_feed}
use Rattle.dpi_lex.specs.Shapes.{ending_form}
use Rattle.dpi_lex.proofs.Bodies.{IsLongestBody-backslash}
use Rattle.dpi_lex.proofs.TextLemmas.{longest_front-unclosed, longest_front-closed}
use Rattle.dpi_lex.proofs.TextLemmas.{ending_form-quote, ending_form-backslash}
use Rattle.dpi_lex.proofs.texts.text.Goals as goal
use Rattle.dpi_lex.proofs.texts.text.Goals.{then-body-inner-via-then-body-inner}
use Rattle.dpi_lex.proofs.texts.text.Goals.{then-body-inner-via-else-body-inner+then-inner-body-eq10}
use Rattle.dpi_lex.proofs.texts.text.Goals.{then-inner-body-eq34, else-inner-body-eq34}

pub returns-then-body-inner-clause-stretch : goal.returns-then-body-inner-clause-stretch
returns-then-body-inner-clause-stretch c =
    let n = c.body_len-body.result in
    let inner = c.bytes_from-inner.result.now in
    let ends : (n ≡ length inner) ⊎ (is_line_feed (get_or inner n 0) ≡ true) =
    elim c.then-body-inner.branch [
      | then-body-inner-via-then-body-inner w ↦ inl w.if-body-inner.true
      | then-body-inner-via-else-body-inner+then-inner-body-eq10 w ↦ inr (grind (arith, nat_tests))
    ] in
    sym (longest_front-unclosed (is_escape c.args.language) c.args.rest.now inner n
    c.bytes_from-inner.ensures c.requires.some c.requires.starts c.body_len-body.ensures ends _
    refl)

pub returns-clause-stretch : goal.returns-clause-stretch
returns-clause-stretch c =
    let n = c.body_len-body.result in
    let inner = c.bytes_from-inner.result.now in
    let b = get_or inner n 0 in
    let e = is_escape c.args.language in
    let lt : n < length inner = omega (arith, c.body_len-body.ensures.within) in
    let feed : is_line_feed b ≡ false = grind (arith, nat_tests) in
    let is : ending_form (suc n) b ≡ Some c.if-inner-body-eq34.form =
    elim c.if-inner-body-eq34.branch [
      | then-inner-body-eq34 w ↦ (let quote : is_quote b ≡ true = grind (arith, nat_tests) in
          ending_form-quote (suc n) b quote ∙ ap (λ (f : Form). Some f) (sym w.form-is))
      | else-inner-body-eq34 w ↦ (let quote : is_quote b ≡ false = grind (arith, nat_tests) in
          let place : suc n ≡ 1 + n = omega arith in
          ending_form-backslash (suc n) b quote
          (IsLongestBody-backslash e n inner c.body_len-body.ensures lt quote feed)
          ∙ ap (λ p. Some (Faulty (BadByte p))) place ∙ ap (λ (f : Form). Some f) (sym w.form-is))
    ]
    in
    sym (longest_front-closed e c.args.rest.now inner n c.bytes_from-inner.ensures c.requires.some
    c.requires.starts c.body_len-body.ensures lt c.if-inner-body-eq34.form is _ refl)

use Rattle.std.proofs.Common.{◌≡◌, ◌-◌, ◌||◌, true, false, take, get_or, ap, ◌∙◌, arith}
use Rattle.std.proofs.lemmas.Bool.Decides.{nat_tests}
use Rattle.dpi_lex.specs.Shapes.{holds_end}
use Rattle.dpi_lex.proofs.CommentLemmas.{is_end, holds_end-step}
use Rattle.dpi_lex.proofs.comments.end_of.Goals as goal
use Rattle.dpi_lex.proofs.comments.end_of.Goals.{else-inner-at-eq42-via-then-inner-at-eq42+else-inner-at-eq47}
use Rattle.dpi_lex.proofs.comments.end_of.Goals.{else-inner-at-eq42-via-else-inner-at-eq42}

pub returns-then-inner-at-eq47 : goal.returns-then-inner-at-eq47
returns-then-inner-at-eq47 c =
    let inner = c.args.inner.now in
    let at = c.loop-at.at in
    let before : holds_end (take at inner) ≡ false = c.loop-at.invariant in
    let here : is_end (get_or inner (at - 1) 0) (get_or inner at 0) ≡ true =
    grind (arith, nat_tests) in
    record {
      some = omega arith;
      within = omega arith;
      ends =
          holds_end-step inner at (omega arith) c.loop-at-test.true
          ∙ ap (λ t. t || is_end (get_or inner (at - 1) 0) (get_or inner at 0)) before
          ∙ here;
      first = ap (λ k. holds_end (take k inner)) (omega arith) ∙ before;
    }

pub loop-at-preserved : goal.loop-at-preserved
loop-at-preserved c =
    let inner = c.args.inner.now in
    let at = c.loop-at.at in
    let before : holds_end (take at inner) ≡ false = c.loop-at.invariant in
    let here : is_end (get_or inner (at - 1) 0) (get_or inner at 0) ≡ false =
    elim c.else-inner-at-eq42.branch [
      | else-inner-at-eq42-via-then-inner-at-eq42+else-inner-at-eq47 w ↦ grind (arith, nat_tests)
      | else-inner-at-eq42-via-else-inner-at-eq42 w ↦ grind (arith, nat_tests)
    ] in
    holds_end-step inner at (omega arith) c.loop-at-test.true
    ∙ ap (λ t. t || is_end (get_or inner (at - 1) 0) (get_or inner at 0)) before
    ∙ here

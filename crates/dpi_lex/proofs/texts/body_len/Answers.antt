use Rattle.std.proofs.Common.{◌≡◌, ◌+◌, ◌≤◌, true, false, length, get_or, arith, inl, inr, sym, ◌∙◌}
use Rattle.std.specs.Prelude.{◌⊎◌}
use Rattle.std.proofs.lemmas.Bool.Decides.{nat_tests}
use Rattle.dpi_lex.specs.Bytes.{is_backslash, is_escape}
use Rattle.dpi_lex.proofs.Bodies.{IsLongestBody-ended, IsLongestBody-broken, is_body-plain}
use Rattle.dpi_lex.proofs.Bodies.{is_body-escape}
use Rattle.dpi_lex.proofs.texts.body_len.Goals as goal
use Rattle.dpi_lex.proofs.texts.body_len.Goals.{else-at-inner-via-then-at-inner+else-is_escape}
use Rattle.dpi_lex.proofs.texts.body_len.Goals.{else-at-inner-via-else-at-inner}

pub returns-then-byte-eq34 : goal.returns-then-byte-eq34
returns-then-byte-eq34 c =
    let at = c.loop-at.at in
    let inner = c.args.inner.now in
    IsLongestBody-ended (is_escape c.args.language) at inner c.loop-at-test.true
    c.loop-at.invariant.1 (grind (arith, nat_tests)) (grind (arith, nat_tests))

pub loop-at-preserved-then-byte-ne92 : goal.loop-at-preserved-then-byte-ne92
loop-at-preserved-then-byte-ne92 c =
    let at = c.loop-at.at in
    let inner = c.args.inner.now in (
      omega arith,
      is_body-plain (is_escape c.args.language) at inner c.loop-at-test.true
          c.loop-at.invariant.1 (grind (arith, nat_tests)) (grind (arith, nat_tests)),
    )

pub returns-else-at-inner : goal.returns-else-at-inner
returns-else-at-inner c =
    let at = c.loop-at.at in
    let inner = c.args.inner.now in
    let e = is_escape c.args.language in
    let bad : (length inner ≤ at + 1) ⊎ (e (get_or inner (at + 1) 0) ≡ false) =
    elim c.else-at-inner.branch [
      | else-at-inner-via-then-at-inner+else-is_escape w ↦ inr (sym w.is_escape.ensures
          ∙ w.if-is_escape.false)
      | else-at-inner-via-else-at-inner w ↦ inl (omega arith)
    ] in
    IsLongestBody-broken e at inner c.loop-at-test.true c.loop-at.invariant.1
    (grind (arith, nat_tests)) bad

pub loop-at-preserved : goal.loop-at-preserved
loop-at-preserved c =
    let at = c.loop-at.at in
    let inner = c.args.inner.now in
    let slash : is_backslash (get_or inner at 0) ≡ true = grind (arith, nat_tests) in (
      omega arith,
      is_body-escape (is_escape c.args.language) at inner c.if-at-inner.true
          c.loop-at.invariant.1 slash (sym c.is_escape.ensures ∙ c.if-is_escape.true),
    )

use Rattle.std.proofs.Common.{◌≡◌, ◌<◌, ◌+◌, true, take, get_or, arith, sym, ap, ◌∙◌, ◌*◌}
use Rattle.dpi_lex.specs.Digits.{is_digit_in, value_in}
use Rattle.dpi_lex.proofs.Decimals.{is_digit_in-base, value_in-take, value_in-more}
use Rattle.dpi_lex.proofs.Decimals.{next_value-digit}
use Rattle.dpi_literal.proofs.digits.value_up_to.Goals as goal

pub returns-then-next-limit : goal.returns-then-next-limit
returns-then-next-limit c =
    let bytes = c.args.bytes.now in
    let base = c.args.base in
    let i = c.loop-byte.byte-index in
    let b = get_or bytes i 0 in
    let is : is_digit_in base b ≡ true = sym c.is_digit_in.ensures ∙ c.if-is_digit_in.true in
    let some : 0 < base = is_digit_in-base base b is in
    let past : c.args.limit < value_in base bytes =
    omega (
      arith,
      value_in-take base bytes (i + 1) some,
      value_in-more base bytes i
          c.loop-byte-test.true,
      next_value-digit base (value_in base (take i bytes)) b is,
      c.if-next-limit.true,
      c.digit_value.ensures.value,
      ap (λ v. v * base)
          c.loop-byte.invariant.0,
    ) in
    omega arith

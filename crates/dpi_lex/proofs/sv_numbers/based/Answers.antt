use Rattle.std.proofs.Common.{◌≡◌, ◌+◌, ◌-◌, ◌<◌, ◌≤◌, ◌&&◌, length, take, drop, get_or, sym, ap}
use Rattle.std.proofs.Common.{◌∙◌, arith}
use Rattle.dpi_lex.specs.Digits.{number_if}
use Rattle.dpi_lex.specs.SvNumbers.{size_of, after_size, base_of, base_len, given_base}
use Rattle.dpi_lex.specs.SvNumbers.{given_digits, IsBasedRun, is_size, are_digits}
use Rattle.dpi_lex.proofs.SvNumberLemmas.{based_form-none, based_form-longest, size_starts}
use Rattle.dpi_lex.proofs.sv_numbers.based.Goals as goal

pub returns-then-head-eq0-clause-longest : goal.returns-then-head-eq0-clause-longest
returns-then-head-eq0-clause-longest c =
    let rest = c.args.rest.now in
    let after = c.bytes_from-after.result.now in
    let from : after ≡ after_size rest = c.bytes_from-after.ensures
    ∙ ap (λ k. drop k rest) c.plain_len-size.ensures.run in
    based_form-none rest after from (sym c.base_len-head.ensures.len ∙ c.if-head-eq0.true)

pub returns-clause-longest : goal.returns-clause-longest
returns-clause-longest c =
    let rest = c.args.rest.now in
    let after = c.bytes_from-after.result.now in
    let given = c.bytes_from-given.result.now in
    let head = c.base_len-head.ensures.len in
    let size = c.plain_len-size.ensures.run in
    let from : after ≡ after_size rest = c.bytes_from-after.ensures ∙ ap (λ k. drop k rest) size in
    let some : 0 < base_len after = omega (arith, head) in
    let within : base_len after ≤ length after =
    omega (arith, head, c.base_len-head.ensures.within) in
    let base : c.base_of-base.result ≡ given_base after = c.base_of-base.ensures
    ∙ ap (λ h. base_of (get_or after (h - 1) 0)) head in
    let digits : given ≡ given_digits after = c.bytes_from-given.ensures
    ∙ ap (λ h. drop h after) head in
    let run : IsBasedRun (given_base after) (given_digits after) c.based_len-digits.result =
    rw (← base, ← digits) c.based_len-digits.ensures in
    let form : c.based_number.result ≡ number_if
    (is_size (size_of rest) && are_digits (given_base after)
    (take c.based_len-digits.result (given_digits after))) = c.based_number.ensures.form
    ∙ ap (λ k. number_if (is_size (take k rest) && are_digits c.base_of-base.result
    (take c.based_len-digits.result given))) size
    ∙ ap (λ b. number_if (is_size (size_of rest) && are_digits b
    (take c.based_len-digits.result given))) base
    ∙ ap (λ ds. number_if
    (is_size (size_of rest) && are_digits (given_base after)
    (take c.based_len-digits.result ds))) digits in
    based_form-longest rest after from some within (size_starts rest c.requires)
    c.based_len-digits.result run
    (record {
      form = c.based_number.result;
      len =
          c.plain_len-size.result + c.base_len-head.result + c.based_len-digits.result;
    })
    (omega (arith, size, head)) form

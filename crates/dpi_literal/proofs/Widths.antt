-- How many bits a based number has.
use Rattle.std.proofs.Common.{◌≡◌, ℕ, true, false, cond, Option, Some, None, List, length}
use Rattle.std.specs.Prelude.{◌==◌, find}
use Rattle.std.proofs.lemmas.List.{length-replicate}
use Rattle.dpi_lex.specs.SvNumbers.{is_four_state, size_of, after_size, given_base, given_digits}
use Rattle.dpi_bits.proofs.Written.{length-binary}
use Rattle.dpi_lex.specs.Digits.{value_in}
use Rattle.std.specs.Prelude.{min}
use Rattle.dpi_literal.specs.declared.form.NumberKind.TheVariants.{Based}
use Rattle.dpi_literal.specs.SvNumber.{filler, filler_of, leading, written, decimal_by, decimal_bits, padded}
use Rattle.dpi_literal.specs.SvNumber.{based_bits, bits_by, given_width}
use Rattle.dpi_literal.proofs.Padding.{length-filled_up}

length-decimal_by : (width : ℕ) (digits : List ℕ) (b : Option ℕ) → length (decimal_by width digits b) ≡ width
length-decimal_by width digits None = length-binary width (min (value_in 10 digits) 18446744073709551615)
length-decimal_by width digits (Some b) = length-replicate width (filler b)

length-based_bits : (width base : ℕ) (digits : List ℕ) → length (based_bits width base digits) ≡ width
length-based_bits width base digits =
    elim (base == 10) as (λ t. length (cond t (decimal_bits width digits) (padded width base digits)) ≡ width) [
      | true ↦ length-decimal_by width digits (find is_four_state digits)
      | false ↦ length-filled_up width (filler_of (leading digits)) (written base digits)
    ]

-- a based number has as many bits as its size says
pub length-bits_by_based : (bytes : List ℕ) → length (bits_by Based bytes) ≡ given_width (size_of bytes)
length-bits_by_based bytes =
    length-based_bits (given_width (size_of bytes)) (given_base (after_size bytes)) (given_digits (after_size bytes))

use Rattle.std.proofs.Common.{◌≡◌, suc, ◌+◌, ◌-◌, ◌/◌, ◌^◌, ◌≤◌, length, map, sym, ap, ◌∙◌, arith}
use Rattle.std.proofs.lemmas.Nat.{shr_le}
use Rattle.dpi_bits.specs.declared.bit.Bit.TheVariants.{One}
use Rattle.dpi_bits.specs.Bits.{not_bit}
use Rattle.dpi_bits.specs.Numbers.{number}
use Rattle.dpi_bits.specs.Parts.{extension}
use Rattle.dpi_bits.proofs.Arith.{digits_short, all_ones, number_inverted, top_positive, value_below, value_above}
use Rattle.dpi_bits.proofs.packed.Packed.whole.Goals as goal

number_is : (c : goal.After-width) → c.low_digits-number.result ≡ number c.args.self.now
number_is c = digits_short c.low_digits-number.result c.args.self.now (omega (arith, c.low_digits-number.type_inv)) c.requires.known c.requires.short c.low_digits-number.ensures

size_is : (c : goal.After-width) → (18446744073709551615 / 2 ^ (64 - c.width.result) - c.low_digits-number.result + 1 ≡ suc (number (map not_bit c.args.self.now))) × (c.low_digits-number.result ≤ 18446744073709551615 / 2 ^ (64 - c.width.result))
size_is c =
    let ones : 18446744073709551615 / 2 ^ (64 - c.width.result) ≡ 2 ^ length c.args.self.now - 1 =
    all_ones c.width.result (omega (arith, c.requires.short, c.width.ensures.bits)) ∙ ap (λ w. 2 ^ w - 1) c.width.ensures.bits in
    let both : number (map not_bit c.args.self.now) + number c.args.self.now + 1 ≡ 2 ^ length c.args.self.now = number_inverted c.args.self.now c.requires.known in
    let n : c.low_digits-number.result ≡ number c.args.self.now = number_is c in
    (omega (arith, ones, both, n), omega (arith, ones, both, n))

signed_here : (c : goal.After-width) → One ≡ extension c.args.signed c.args.self.now
signed_here c = sym c.in-One.is ∙ c.extension.ensures

pub overflow_sub-result-in-One : goal.overflow_sub-result-in-One
overflow_sub-result-in-One c = (size_is c).1

pub overflow_add-result : goal.overflow_add-result
overflow_add-result c =
    let n : c.low_digits-number.result ≡ number c.args.self.now = number_is c in
    let least : 1 ≤ number c.args.self.now = top_positive c.args.signed c.args.self.now (omega (arith, c.width.ensures.least, c.width.ensures.bits)) (signed_here c) in
    let ones : 18446744073709551615 / 2 ^ (64 - c.width.result) ≤ 18446744073709551615 = shr_le 18446744073709551615 (64 - c.width.result) in
    omega (arith, (size_is c).1)

pub returns-in-One-clause-value : goal.returns-in-One-clause-value
returns-in-One-clause-value c = value_below c.args.signed c.args.self.now _ (signed_here c) (size_is c).0

pub returns-in_default : goal.returns-in_default
returns-in_default c =
    let n : c.low_digits-number.result ≡ number c.args.self.now =
    digits_short c.low_digits-number.result c.args.self.now (omega (arith, c.low_digits-number.type_inv)) c.requires.known c.requires.short c.low_digits-number.ensures in
    record {
      value = value_above c.args.signed c.args.self.now c.low_digits-number.result (λ e. c.in_default.not-One (c.extension.ensures ∙ e)) n;
      proper = λ f. cc;
      zero = λ z. sym n ∙ z;
    }

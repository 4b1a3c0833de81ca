use Rattle.std.proofs.Common.{◌≡◌, ◌≤◌, ◌^◌, true, false, refl, sym, arith}
use Rattle.dpi_bits.specs.Numbers.{number}
use Rattle.dpi_bits.proofs.Written.{number_large, digits_number}
use Rattle.dpi_bits.proofs.packed.Packed.to_u64.Goals as goal

never : false ≡ true → ⊥
never f = cc

pub returns-then-stands-clause-some : goal.returns-then-stands-clause-some
returns-then-stands-clause-some c =
    let place = c.if-stands.ensures.somewhere refl in
    let large : 2 ^ 64 ≤ number c.args.self.now = number_large c.args.self.now place.0 64 (omega arith) place.3 in
    (λ f. absurd (never f), λ p. absurd (omega (arith, p.1)))

pub returns-clause-value : goal.returns-clause-value
returns-clause-value c =
    digits_number c.low_digits.result c.args.self.now (omega (arith, c.low_digits.type_inv)) (sym c.if-not-known.ensures)
    (λ i h l. c.if-stands.ensures.nowhere refl i (omega arith) l) c.low_digits.ensures

pub returns-clause-some : goal.returns-clause-some
returns-clause-some c =
    let e : c.low_digits.result ≡ number c.args.self.now =
    digits_number c.low_digits.result c.args.self.now (omega (arith, c.low_digits.type_inv)) (sym c.if-not-known.ensures)
    (λ i h l. c.if-stands.ensures.nowhere refl i (omega arith) l) c.low_digits.ensures in
    (λ t. (sym c.if-not-known.ensures, omega (arith, c.low_digits.type_inv)), λ p. refl)

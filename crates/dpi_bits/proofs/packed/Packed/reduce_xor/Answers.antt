use Rattle.std.proofs.Common.{◌≡◌, ℕ, ◌*◌, ◌%◌, length, sym, ap, ◌∙◌, arith}
use Rattle.dpi_bits.specs.declared.bit.Bit.TheVariants.{Zero, One}
use Rattle.dpi_bits.specs.Layout.{digits_below}
use Rattle.dpi_bits.specs.Words.{bit_of}
use Rattle.dpi_bits.proofs.Counted.{xor_unknown, parity_of}
use Rattle.dpi_bits.proofs.InPlace.{width_is, held_is}
use Rattle.dpi_bits.proofs.packed.Packed.reduce_xor.Goals as goal

even : (n : ℕ) → n % 2 ≡ 0 → bit_of (n % 2) 0 ≡ Zero
even n e = ap (λ d. bit_of d 0) e

odd : (n : ℕ) → n % 2 ≡ 1 → bit_of (n % 2) 0 ≡ One
odd n e = ap (λ d. bit_of d 0) e

pub returns-then-not-known : goal.returns-then-not-known
returns-then-not-known c = sym (xor_unknown c.args.self.now (sym c.if-not-known.ensures))

pub returns-then-count_ones-eq0 : goal.returns-then-count_ones-eq0
returns-then-count_ones-eq0 c =
    let e : length c.args.self.now ≡ c.self.inside.width = width_is _ c.self.inside.words.items _ c.self.view_is in
    let count : c.count_ones.result ≡ digits_below c.self.inside.words.items (32 * length c.self.inside.words.items) =
    c.count_ones.ensures ∙ ap (λ ws. digits_below ws (32 * length ws)) c.as_slice.ensures in
    sym (parity_of c.self.inside.words.items c.args.self.now (held_is c.self.inside.width c.self.inside.words.items c.args.self.now c.self.view_is c.self.invariant)
    (32 * length c.self.inside.words.items) (omega (arith, c.self.invariant.count)) (sym c.if-not-known.ensures)
    ∙ even (digits_below c.self.inside.words.items (32 * length c.self.inside.words.items)) (omega (arith, c.if-count_ones-eq0.true)))

pub returns-else-count_ones-eq0 : goal.returns-else-count_ones-eq0
returns-else-count_ones-eq0 c =
    let e : length c.args.self.now ≡ c.self.inside.width = width_is _ c.self.inside.words.items _ c.self.view_is in
    let count : c.count_ones.result ≡ digits_below c.self.inside.words.items (32 * length c.self.inside.words.items) =
    c.count_ones.ensures ∙ ap (λ ws. digits_below ws (32 * length ws)) c.as_slice.ensures in
    sym (parity_of c.self.inside.words.items c.args.self.now (held_is c.self.inside.width c.self.inside.words.items c.args.self.now c.self.view_is c.self.invariant)
    (32 * length c.self.inside.words.items) (omega (arith, c.self.invariant.count)) (sym c.if-not-known.ensures)
    ∙ odd (digits_below c.self.inside.words.items (32 * length c.self.inside.words.items)) (omega (arith, c.if-count_ones-eq0.false)))

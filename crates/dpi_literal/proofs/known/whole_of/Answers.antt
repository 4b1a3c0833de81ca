use Rattle.std.proofs.Common.{◌≡◌, ◌<◌, ◌^◌, true, map, IsSome, IfSome, sym, subst, ◌∙◌}
use Rattle.std.specs.Prelude.{◌↔◌, List}
use Rattle.dpi_bits.specs.declared.bit.Bit.{Bit}
use Rattle.dpi_bits.specs.Bits.{not_bit}
use Rattle.dpi_bits.specs.Lists.{known}
use Rattle.dpi_bits.specs.Numbers.{number}
use Rattle.dpi_literal.proofs.Inverted.{negative_whole, positive_whole}
use Rattle.dpi_literal.proofs.known.whole_of.Goals as goal

pub returns-then-is_below-clause-whole : goal.returns-then-is_below-clause-whole
returns-then-is_below-clause-whole c =
    let bits = c.args.value.now in
    let same : c.in_ok-inverted.inverted ≡ map not_bit bits = c.in_ok-inverted.ensures.bits in
    let Some : List Bit → Type 0 = λ b. IsSome c.to_u64.result ↔ ((known b ≡ true) × (number b < 2 ^ 64)) in
    let Is : List Bit → Type 0 = λ b. IfSome c.to_u64.result (λ n. n ≡ number b) in
    c.negative.ensures
    ∙ negative_whole
    c.to_u64.result
    c.args.signed
    bits
    (sym c.is_below.ensures ∙ c.if-is_below.true)
    (subst Some same c.to_u64.ensures.some)
    (subst Is same c.to_u64.ensures.value)

pub returns-clause-whole : goal.returns-clause-whole
returns-clause-whole c =
    c.positive.ensures
    ∙ positive_whole
    c.to_u64-2.result
    c.args.signed
    c.args.value.now
    (sym c.is_below.ensures ∙ c.if-is_below.false)
    c.to_u64-2.ensures.some
    c.to_u64-2.ensures.value

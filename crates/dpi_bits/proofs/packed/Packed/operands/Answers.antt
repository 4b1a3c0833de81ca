use Rattle.std.proofs.Common.{◌≡◌, true, ◌&&◌, sym, ap, ◌∙◌, arith}
use Rattle.dpi_bits.specs.Lists.{known}
use Rattle.dpi_bits.proofs.Arith.{digits_short}
use Rattle.dpi_bits.proofs.packed.Packed.operands.Goals as goal

pub returns : goal.returns
returns c =
    let left : known c.args.self.now ≡ true = sym c.if-not-known.ensures in
    let right : known c.args.other.now ≡ true = sym c.if-not-known-2.ensures in (
      ap (λ b. b && known c.args.other.now) left ∙ right,
      digits_short c.low_digits.result c.args.self.now (omega (arith, c.low_digits.type_inv)) left c.requires.left c.low_digits.ensures,
      digits_short c.low_digits-2.result c.args.other.now (omega (arith, c.low_digits-2.type_inv)) right c.requires.right c.low_digits-2.ensures,
    )

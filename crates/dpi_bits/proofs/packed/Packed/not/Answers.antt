use Rattle.std.proofs.Common.{◌≡◌, List, [], ◌∷◌, length, map, replicate, refl, ap, ◌∙◌}
use Rattle.dpi_bits.specs.declared.bit.Bit.{Bit}
use Rattle.dpi_bits.specs.declared.bit.Bit.TheVariants.{Zero, One, Z, X}
use Rattle.dpi_bits.specs.Bits.{xor_bit, not_bit}
use Rattle.dpi_bits.specs.Lists.{pairwise}
use Rattle.dpi_bits.proofs.packed.Packed.not.Goals as goal

against_one : (b : Bit) → xor_bit One b ≡ not_bit b
against_one Zero = refl
against_one One = refl
against_one Z = refl
against_one X = refl

against_ones : (bits : List Bit) → pairwise xor_bit (replicate (length bits) One) bits ≡ map not_bit bits
against_ones [] = refl
against_ones (b ∷ bs) = ap (λ x. x ∷ pairwise xor_bit (replicate (length bs) One) bs) (against_one b) ∙ ap (λ more. not_bit b ∷ more) (against_ones bs)

pub returns-clause-bits : goal.returns-clause-bits
returns-clause-bits c =
    c.combine_with.ensures
    ∙ ap (λ l. pairwise xor_bit l c.args.self.now) (c.in_ok-inverted.ensures.bits ∙ ap (λ n. replicate n One) c.width.ensures.bits)
    ∙ against_ones c.args.self.now

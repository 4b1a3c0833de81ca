use Rattle.std.proofs.Common.{refl, sym, ◌∙◌, arith}
use Rattle.dpi_bits.proofs.Reductions.{and_zero, and_x, and_one, either}
use Rattle.dpi_bits.proofs.packed.Packed.reduce_and.Goals as goal

pub returns-then-stands : goal.returns-then-stands
returns-then-stands c =
    let place = c.if-stands.ensures.somewhere refl in
    sym (and_zero c.args.self.now place.0 place.2 place.3)

pub returns-then-stands-2 : goal.returns-then-stands-2
returns-then-stands-2 c =
    let place = c.if-stands-2.ensures.somewhere refl in
    sym (and_x c.args.self.now (λ i l. c.if-stands.ensures.nowhere refl i (omega arith) l) place.0 place.2 (sym (either _) ∙ place.3))

pub returns-else-stands-2 : goal.returns-else-stands-2
returns-else-stands-2 c =
    sym (and_one c.args.self.now (λ i l. c.if-stands.ensures.nowhere refl i (omega arith) l) (λ i l. sym (either _) ∙ c.if-stands-2.ensures.nowhere refl i (omega arith) l))

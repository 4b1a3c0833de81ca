use Rattle.std.proofs.Common.{◌≡◌, ℕ, ◌<◌, ◌||◌, List, length, get_or, refl, sym, ap, ◌∙◌, arith}
use Rattle.dpi_bits.specs.declared.bit.Bit.{Bit}
use Rattle.dpi_bits.specs.declared.bit.Bit.TheVariants.{Zero, One, Z, X}
use Rattle.dpi_bits.specs.Bits.{is_unknown}
use Rattle.dpi_bits.specs.Compare.{equal_bit}
use Rattle.dpi_bits.specs.Lists.{pairwise}
use Rattle.dpi_bits.specs.Sought.{is_zero, are_opposed}
use Rattle.dpi_bits.proofs.ListsAt.{pairwise_in, length-pairwise}
use Rattle.dpi_bits.proofs.Reductions.{and_zero, and_x, and_one}
use Rattle.dpi_bits.proofs.packed.Packed.eq4.Goals as goal

opposed : (x y : Bit) → is_zero (equal_bit x y) ≡ are_opposed x y
opposed Zero Zero = refl
opposed Zero One = refl
opposed Zero Z = refl
opposed Zero X = refl
opposed One Zero = refl
opposed One One = refl
opposed One Z = refl
opposed One X = refl
opposed Z Zero = refl
opposed Z One = refl
opposed Z Z = refl
opposed Z X = refl
opposed X Zero = refl
opposed X One = refl
opposed X Z = refl
opposed X X = refl

unknown : (x y : Bit) → is_unknown (equal_bit x y) ≡ is_unknown x || is_unknown y
unknown Zero Zero = refl
unknown Zero One = refl
unknown Zero Z = refl
unknown Zero X = refl
unknown One Zero = refl
unknown One One = refl
unknown One Z = refl
unknown One X = refl
unknown Z Zero = refl
unknown Z One = refl
unknown Z Z = refl
unknown Z X = refl
unknown X Zero = refl
unknown X One = refl
unknown X Z = refl
unknown X X = refl

zero_at : (a b : List Bit) → length a ≡ length b → (i : ℕ) → i < length a → is_zero (get_or (pairwise equal_bit a b) i Zero) ≡ are_opposed (get_or a i Zero) (get_or b i Zero)
zero_at a b e i l = ap is_zero (pairwise_in equal_bit a b e i l) ∙ opposed (get_or a i Zero) (get_or b i Zero)

unknown_at : (a b : List Bit) → length a ≡ length b → (i : ℕ) → i < length a → is_unknown (get_or (pairwise equal_bit a b) i Zero) ≡ is_unknown (get_or a i Zero) || is_unknown (get_or b i Zero)
unknown_at a b e i l = ap is_unknown (pairwise_in equal_bit a b e i l) ∙ unknown (get_or a i Zero) (get_or b i Zero)

pub returns-then-stands : goal.returns-then-stands
returns-then-stands c =
    let place = c.if-stands.ensures.somewhere refl in
    let size : length (pairwise equal_bit c.args.self.now c.args.other.now) ≡ length c.args.self.now = length-pairwise equal_bit c.args.self.now c.args.other.now c.requires in
    sym (and_zero (pairwise equal_bit c.args.self.now c.args.other.now) place.0 (omega arith) (zero_at c.args.self.now c.args.other.now c.requires place.0 place.2 ∙ place.3))

pub returns-then-stands-2 : goal.returns-then-stands-2
returns-then-stands-2 c =
    let place = c.if-stands-2.ensures.somewhere refl in
    let size : length (pairwise equal_bit c.args.self.now c.args.other.now) ≡ length c.args.self.now = length-pairwise equal_bit c.args.self.now c.args.other.now c.requires in
    sym (and_x (pairwise equal_bit c.args.self.now c.args.other.now)
    (λ i l. zero_at c.args.self.now c.args.other.now c.requires i (omega arith) ∙ c.if-stands.ensures.nowhere refl i (omega arith) (omega arith))
    place.0 (omega arith) (unknown_at c.args.self.now c.args.other.now c.requires place.0 place.2 ∙ place.3))

pub returns-else-stands-2 : goal.returns-else-stands-2
returns-else-stands-2 c =
    let size : length (pairwise equal_bit c.args.self.now c.args.other.now) ≡ length c.args.self.now = length-pairwise equal_bit c.args.self.now c.args.other.now c.requires in
    sym (and_one (pairwise equal_bit c.args.self.now c.args.other.now)
    (λ i l. zero_at c.args.self.now c.args.other.now c.requires i (omega arith) ∙ c.if-stands.ensures.nowhere refl i (omega arith) (omega arith))
    (λ i l. unknown_at c.args.self.now c.args.other.now c.requires i (omega arith) ∙ c.if-stands-2.ensures.nowhere refl i (omega arith) (omega arith)))

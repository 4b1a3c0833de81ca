use Rattle.std.proofs.Common.{◌≡◌, ℕ, ◌*◌, ◌<◌, ◌≤◌, Bool, true, false, not, IsTrue, IsFalse, List, length, get_or, refl, sym, ap, ◌∙◌, arith}
use Rattle.std.proofs.lemmas.List.{ext_get_or}
use Rattle.dpi_bits.specs.declared.bit.Bit.{Bit}
use Rattle.dpi_bits.specs.declared.bit.Bit.TheVariants.{Zero, One, Z, X}
use Rattle.dpi_bits.specs.Sought.{same_state}
use Rattle.dpi_bits.proofs.packed.Packed.case_eq.Goals as goal

alike : (x y : Bit) → not (same_state x y) ≡ false → x ≡ y
alike Zero Zero h = refl
alike Zero One h = cc
alike Zero Z h = cc
alike Zero X h = cc
alike One Zero h = cc
alike One One h = refl
alike One Z h = cc
alike One X h = cc
alike Z Zero h = cc
alike Z One h = cc
alike Z Z h = refl
alike Z X h = cc
alike X Zero h = cc
alike X One h = cc
alike X Z h = cc
alike X X h = refl

itself : (x : Bit) → not (same_state x x) ≡ false
itself Zero = refl
itself One = refl
itself Z = refl
itself X = refl

same_bit : (x y : Bit) → x ≡ y → not (same_state x y) ≡ false
same_bit x y e = ap (λ b. not (same_state x b)) (sym e) ∙ itself x

differ : (b : Bool) → b ≡ true → b ≡ false → ⊥
differ b h k = cc

decided : (r : Bool) (a b : List Bit) → length a ≡ length b
    → (IsFalse r → (i : ℕ) → 32 * 0 ≤ i → i < length a → not (same_state (get_or a i Zero) (get_or b i Zero)) ≡ false)
    → (IsTrue r → (i : ℕ) × (32 * 0 ≤ i) × (i < length a) × (not (same_state (get_or a i Zero) (get_or b i Zero)) ≡ true))
    → (IsTrue (not r) → a ≡ b) × (a ≡ b → IsTrue (not r))
decided false a b e never somewhere =
    (λ t. ext_get_or Zero a b e (λ i l. alike (get_or a i Zero) (get_or b i Zero) (never refl i (omega arith) l)), λ f. refl)
decided true a b e never somewhere =
    let place = somewhere refl in
    let apart : a ≡ b → ⊥ = λ f. differ (not (same_state (get_or a place.0 Zero) (get_or b place.0 Zero))) place.3 (same_bit (get_or a place.0 Zero) (get_or b place.0 Zero) (ap (λ l. get_or l place.0 Zero) f)) in
    (λ t. absurd (differ false t refl), λ f. absurd (apart f))

pub returns : goal.returns
returns c = decided c.stands.result c.args.self.now c.args.other.now c.requires c.stands.ensures.nowhere c.stands.ensures.somewhere

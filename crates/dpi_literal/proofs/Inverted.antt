-- The whole number below 0 that bits write, by the number of the bits inverted.
use Rattle.std.proofs.Common.{◌≡◌, ℕ, ◌<◌, ◌≤◌, ◌^◌, ◌⊎◌, inl, inr, Bool, true, false, cond, List, [], ◌∷◌, map}
use Rattle.std.proofs.Common.{Option, Some, None, IsSome, IfSome, refl, ap, sym, ◌∙◌, arith}
use Rattle.std.specs.Prelude.{ℤ, pos, negsuc, ◌&&◌, nat_lt, not, ◌↔◌}
use Rattle.std.proofs.lemmas.Bool.{false≢true}
use Rattle.std.proofs.lemmas.Bool.Decides.{nat_tests}
use Rattle.dpi_bits.specs.declared.bit.Bit.{Bit}
use Rattle.dpi_bits.specs.declared.bit.Bit.TheVariants.{Zero, One, Z, X}
use Rattle.dpi_bits.specs.Bits.{is_unknown, not_bit}
use Rattle.dpi_bits.specs.Lists.{known, top}
use Rattle.dpi_bits.specs.Numbers.{number}
use Rattle.dpi_bits.specs.Sought.{is_one}
use Rattle.dpi_literal.specs.SvNumber.{positive, negative, fits_64, whole_of}

is_unknown-not_bit : (b : Bit) → is_unknown (not_bit b) ≡ is_unknown b
is_unknown-not_bit Zero = refl
is_unknown-not_bit One = refl
is_unknown-not_bit Z = refl
is_unknown-not_bit X = refl

-- a bit is known where the inverted one is
known-map-not_bit : (bits : List Bit) → known (map not_bit bits) ≡ known bits
known-map-not_bit [] = refl
known-map-not_bit (b ∷ bs) =
    ap (λ u. not u && known (map not_bit bs)) (is_unknown-not_bit b)
    ∙ ap (λ k. not (is_unknown b) && k) (known-map-not_bit bs)

negative_by : (r : Option ℕ) (k : Bool) (n : ℕ) → (IsSome r ↔ ((k ≡ true) × (n < 2 ^ 64)))
    → IfSome r (λ m. m ≡ n) → negative r ≡ cond (k && nat_lt n (2 ^ 63)) (Some (negsuc n)) None
negative_by None false n some same = refl
negative_by None true n some same =
    let cases : (n < 2 ^ 63) ⊎ (2 ^ 63 ≤ n) = search arith in
    elim cases [
      | inl l ↦ let fits : n < 2 ^ 64 = omega arith in absurd (false≢true (some.1 (refl, fits)))
      | inr l ↦ grind (arith, nat_tests)
    ]
negative_by (Some m) false n some same = absurd (false≢true (some.0 refl).0)
negative_by (Some m) true n some same =
    ap (λ v. cond (nat_lt v (2 ^ 63)) (Some (negsuc v)) None) same

-- the whole number of bits by whether it's below 0
abbrev value_by : List Bit → Bool → ℤ
value_by bits t = cond t (negsuc (number (map not_bit bits))) (pos (number bits))

-- a whole number of known bits, where it fits
abbrev fitting : Bool → ℤ → Option ℤ
fitting k v = cond (k && fits_64 v) (Some v) None

-- the whole number of signed bits with a 1 on top
pub negative_whole : (r : Option ℕ) (signed : Bool) (bits : List Bit) → signed && is_one (top bits) ≡ true
    → (IsSome r ↔ ((known (map not_bit bits) ≡ true) × (number (map not_bit bits) < 2 ^ 64)))
    → IfSome r (λ n. n ≡ number (map not_bit bits)) → negative r ≡ whole_of signed bits
negative_whole r false bits below some same = absurd (false≢true below)
negative_whole r true bits below some same =
    negative_by r (known (map not_bit bits)) (number (map not_bit bits)) some same
    ∙ ap (λ k. fitting k (negsuc (number (map not_bit bits)))) (known-map-not_bit bits)
    ∙ sym (ap (λ t. fitting (known bits) (value_by bits t)) below)

positive_by : (r : Option ℕ) (k : Bool) (n : ℕ) → (IsSome r ↔ ((k ≡ true) × (n < 2 ^ 64)))
    → IfSome r (λ m. m ≡ n) → positive r ≡ fitting k (pos n)
positive_by None false n some same = refl
positive_by None true n some same =
    let cases : (n < 2 ^ 63) ⊎ (2 ^ 63 ≤ n) = search arith in
    elim cases [
      | inl l ↦ let fits : n < 2 ^ 64 = omega arith in absurd (false≢true (some.1 (refl, fits)))
      | inr l ↦ grind (arith, nat_tests)
    ]
positive_by (Some m) false n some same = absurd (false≢true (some.0 refl).0)
positive_by (Some m) true n some same = ap (λ v. fitting true (pos v)) same

-- the whole number of bits that are unsigned or have no 1 on top
pub positive_whole : (r : Option ℕ) (signed : Bool) (bits : List Bit) → signed && is_one (top bits) ≡ false
    → (IsSome r ↔ ((known bits ≡ true) × (number bits < 2 ^ 64)))
    → IfSome r (λ n. n ≡ number bits) → positive r ≡ whole_of signed bits
positive_whole r false bits above some same = positive_by r (known bits) (number bits) some same
positive_whole r true bits above some same =
    positive_by r (known bits) (number bits) some same
    ∙ sym (ap (λ t. fitting (known bits) (value_by bits t)) above)

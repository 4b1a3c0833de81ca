use Rattle.std.proofs.Common.{◌≡◌, ℕ, ◌-◌, ◌<◌, ◌∙◌, ap, arith, refl}
use Rattle.std.proofs.lemmas.Nat.Bits.{bit_at-lt, bit_at-zero}
use Rattle.dpi_bits.specs.declared.bit.Bit.{Bit}
use Rattle.dpi_bits.specs.declared.bit.Bit.TheVariants.{Zero, One, Z, X}
use Rattle.dpi_bits.specs.Lists.{two_state}
use Rattle.dpi_bits.specs.Words.{held, bit_of, aval, bval}
use Rattle.dpi_bits.proofs.Digits.{digits}
use Rattle.dpi_bits.proofs.Held.{same_digits}
use Rattle.dpi_bits.proofs.InPlace.{written_more, rest_kept, still}
use Rattle.dpi_bits.proofs.word.clear_unknown.Goals as goal

cases : (x : Bit) → bit_of (aval x - bval x) 0 ≡ two_state (bit_of (aval x) (bval x))
cases Zero = refl
cases One = refl
cases Z = refl
cases X = refl

cleared : (p q : ℕ) → p < 2 → q < 2 → bit_of (p - q) 0 ≡ two_state (bit_of p q)
cleared = digits (λ p q. bit_of (p - q) 0 ≡ two_state (bit_of p q)) cases

pub loop-j-preserved : goal.loop-j-preserved
loop-j-preserved c = record {
  written =
      written_more c.loop-j.words _ c.loop-j.j (omega arith) (λ i. two_state (held c.args.words.now i)) c.loop-j.invariant.written
      (λ k h.
      same_digits _ _ _ _ (c.without.ensures k h) (bit_at-zero k)
      ∙ cleared _ _ (bit_at-lt _ k) (bit_at-lt _ k)
      ∙ ap two_state (still c.loop-j.words c.loop-j.j k (held c.args.words.now) h c.loop-j.invariant.rest));
  rest = rest_kept c.loop-j.words _ c.loop-j.j (omega arith) (held c.args.words.now) c.loop-j.invariant.rest;
}

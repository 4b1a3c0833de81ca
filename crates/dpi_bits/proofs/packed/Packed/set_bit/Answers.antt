use Rattle.std.proofs.Common.{◌≡◌, ◌≢◌, ℕ, ◌+◌, ◌*◌, ◌/◌, ◌%◌, ◌<◌, ◌≤◌, ◌⊎◌, inl, inr, List, length, get_or, set, refl, sym, ap, ◌∙◌, arith}
use Rattle.std.specs.Int.{bit_at}
use Rattle.std.proofs.lemmas.List.{length-set, get_or-set_same, get_or-set_other}
use Rattle.dpi_bits.specs.declared.bit.Bit.{Bit}
use Rattle.dpi_bits.specs.declared.bit.Bit.TheVariants.{Zero}
use Rattle.dpi_bits.specs.declared.word.Word4.{Word4}
use Rattle.dpi_bits.specs.Words.{bit_in, blank, held, bits_of}
use Rattle.dpi_bits.specs.Layout.{IsCanonical}
use Rattle.dpi_bits.proofs.Held.{held_at, held_set_same, held_set_other}
use Rattle.dpi_bits.proofs.InPlace.{width_is, held_is, closed, closed_view}
use Rattle.dpi_bits.proofs.packed.Packed.set_bit.Goals as goal

pub bounds-deref-place : goal.bounds-deref-place
bounds-deref-place c =
    let e : length c.args.self.now ≡ c.self.inside.width = width_is _ c.self.inside.words.items _ c.self.view_is in
    rw c.deref.ensures (omega (arith, c.self.invariant.count))

pub bounds-deref_mut-place : goal.bounds-deref_mut-place
bounds-deref_mut-place c =
    let e : length c.args.self.now ≡ c.self.inside.width = width_is _ c.self.inside.words.items _ c.self.view_is in
    rw c.deref_mut.ensures.value (omega (arith, c.self.invariant.count))

-- a mask of one place is 0 at any other
apart : (mask place k : ℕ) → ((i : ℕ) → i < place → bit_at mask i ≡ 0) → ((i : ℕ) → place + 1 ≤ i → bit_at mask i ≡ 0) → k ≢ place → bit_at mask k ≡ 0
apart mask place k below above h =
    let cases : (k < place) ⊎ (place + 1 ≤ k) = search arith in
    elim cases [ inl l ↦ below k l | inr l ↦ above k l ]

-- a bit written into its word is written into the list
one_bit : (width : ℕ) (words : List Word4) (bits : List Bit) (word : Word4) (place : ℕ) (bit : Bit)
    → IsCanonical width words → bits_of width words ≡ bits → place < length bits
    → bit_in word (place % 32) ≡ bit
    → ((k : ℕ) → k < 32 → k ≢ place % 32 → bit_in word k ≡ bit_in (get_or words (place / 32) blank) k)
    → (i : ℕ) → i < 32 * length (set words (place / 32) word) → held (set words (place / 32) word) i ≡ get_or (set bits place bit) i Zero
one_bit width words bits word place bit canonical v inside here others i h =
    let e : length bits ≡ width = width_is width words bits v in
    let n : place / 32 < length words = omega (arith, canonical.count) in
    let in_word : (i / 32 ≡ place / 32) ⊎ (i / 32 ≢ place / 32) = search arith in
    let at_place : (i ≡ place) ⊎ (i ≢ place) = search arith in
    elim at_place [
      | inl same ↦
          held_set_same words word (place / 32) i (place % 32) n (omega arith) (omega arith) ∙ here
          ∙ sym (ap (λ k. get_or (set bits place bit) k Zero) same ∙ get_or-set_same bits place bit Zero inside)
      | inr other ↦
          elim in_word [
            | inl near ↦
                held_set_same words word (place / 32) i (i % 32) n (omega arith) (omega arith)
                ∙ others (i % 32) (omega arith) (λ f. other (omega arith))
                ∙ held_at words i (place / 32) (i % 32) near refl
                ∙ held_is width words bits v canonical i
                ∙ sym (get_or-set_other bits place i bit Zero other)
            | inr far ↦
                held_set_other words word (place / 32) i far
                ∙ held_is width words bits v canonical i
                ∙ sym (get_or-set_other bits place i bit Zero other)
          ]
    ]

pub invariant_of-self : goal.invariant_of-self
invariant_of-self c =
    rw c.deref_mut.ensures.value
    (closed c.self.inside.width c.self.inside.words.items (set c.self.inside.words.items (c.args.i / 32) c.choose.result) c.args.self.now (set c.args.self.now c.args.i c.args.bit)
    c.self.invariant c.self.view_is (length-set _ _ _) (length-set _ _ _)
    (one_bit c.self.inside.width c.self.inside.words.items c.args.self.now c.choose.result c.args.i c.args.bit c.self.invariant c.self.view_is c.requires
    (c.choose.ensures.inside (c.args.i % 32) (omega arith) (c.ones_between-mask.ensures.inside (c.args.i % 32) (omega arith) (omega arith)) ∙ c.filled.ensures (c.args.i % 32) (omega arith))
    (λ k h n. c.choose.ensures.outside k h (apart c.ones_between-mask.result (c.args.i % 32) k c.ones_between-mask.ensures.below c.ones_between-mask.ensures.above n) ∙ ap (λ ws. bit_in (get_or ws (c.args.i / 32) blank) k) c.deref.ensures)))

pub returns : goal.returns
returns c =
    rw c.deref_mut.ensures.value
    (closed_view c.self.inside.width c.self.inside.words.items (set c.self.inside.words.items (c.args.i / 32) c.choose.result) c.args.self.now (set c.args.self.now c.args.i c.args.bit)
    c.self.invariant c.self.view_is (length-set _ _ _) (length-set _ _ _)
    (one_bit c.self.inside.width c.self.inside.words.items c.args.self.now c.choose.result c.args.i c.args.bit c.self.invariant c.self.view_is c.requires
    (c.choose.ensures.inside (c.args.i % 32) (omega arith) (c.ones_between-mask.ensures.inside (c.args.i % 32) (omega arith) (omega arith)) ∙ c.filled.ensures (c.args.i % 32) (omega arith))
    (λ k h n. c.choose.ensures.outside k h (apart c.ones_between-mask.result (c.args.i % 32) k c.ones_between-mask.ensures.below c.ones_between-mask.ensures.above n) ∙ ap (λ ws. bit_in (get_or ws (c.args.i / 32) blank) k) c.deref.ensures)))

-- The bits that words hold.
use Rattle.std.proofs.Common.{◌≡◌, ◌≢◌, set, ℕ, ◌+◌, ◌-◌, ◌*◌, ◌/◌, ◌%◌, ◌<◌, ◌≤◌, ◌⊎◌, inl, inr, List, [], ◌∷◌, ◌++◌, length, get_or, ap, sym, ◌∙◌, arith}
use Rattle.std.proofs.lemmas.List.{get_or-set_same, get_or-set_other, ext_get_or, get_or_past, get_or_append_left, get_or-append_right}
use Rattle.std.proofs.lemmas.Nat.Bits.{bit_at-zero}
use Rattle.std.proofs.lemmas.List.FromFn.{length-map-range_with_len, get_or-map-range_with_len}
use Rattle.dpi_bits.specs.declared.bit.Bit.{Bit}
use Rattle.dpi_bits.specs.declared.bit.Bit.TheVariants.{Zero}
use Rattle.dpi_bits.specs.declared.word.Word4.{Word4}
use Rattle.dpi_bits.specs.Words.{bit_of, bit_in, blank, held, bits_of}
use Rattle.dpi_bits.specs.Layout.{IsCanonical}

pub same_digits : (a b p q : ℕ) → a ≡ p → b ≡ q → bit_of a b ≡ bit_of p q
same_digits a b p q e f = cc

-- the bit at a place that is given by its word and its place there
pub held_at : (words : List Word4) (n q r : ℕ) → n / 32 ≡ q → n % 32 ≡ r → bit_in (get_or words q blank) r ≡ held words n
held_at words n q r e f = ap (λ k. bit_in (get_or words k blank) r) (sym e) ∙ ap (bit_in (get_or words (n / 32) blank)) (sym f)

pub length-bits_of : (width : ℕ) (words : List Word4) → length (bits_of width words) ≡ width
unfolding bits_of
length-bits_of width words = length-map-range_with_len (held words) 0 width

pub get_or-bits_of : (width : ℕ) (words : List Word4) (i : ℕ) (d : Bit) → i < width → get_or (bits_of width words) i d ≡ held words i
unfolding bits_of
get_or-bits_of width words i d h = get_or-map-range_with_len (held words) 0 width i i d h (omega arith)

-- every bit of canonical words, the unused ones too
pub bits_are_held : (width : ℕ) (words : List Word4) → IsCanonical width words → (i : ℕ) → held words i ≡ get_or (bits_of width words) i Zero
bits_are_held width words canonical i =
    let cases : (i < width) ⊎ (width ≤ i) = search arith in
    elim cases [
      | inl h ↦ sym (get_or-bits_of width words i Zero h)
      | inr h ↦ canonical.unused i h ∙ sym (get_or_past (bits_of width words) i Zero (rw (length-bits_of width words) h))
    ]

-- words hold the list whose bits they hold
pub held_list : (width : ℕ) (words : List Word4) (bits : List Bit) → length bits ≡ width → ((i : ℕ) → i < width → held words i ≡ get_or bits i Zero) → bits_of width words ≡ bits
held_list width words bits e h =
    ext_get_or Zero (bits_of width words) bits (length-bits_of width words ∙ sym e)
    (λ i k. let l : i < width = omega (arith, length-bits_of width words) in get_or-bits_of width words i Zero l ∙ h i l)

-- one more word
pub held_push : (words : List Word4) (word : Word4) (n i : ℕ) → length words ≡ n → i < 32 * n → held (words ++ word ∷ []) i ≡ held words i
held_push words word n i e h =
    ap (λ w. bit_in w (i % 32)) (get_or_append_left words (word ∷ []) blank (i / 32) (omega arith))

same_index : (words : List Word4) (i j : ℕ) → i ≡ j → get_or words i blank ≡ get_or words j blank
same_index words i j e = ap (λ k. get_or words k blank) e

pub held_pushed : (words : List Word4) (word : Word4) (n i k : ℕ) → length words ≡ n → k < 32 → i ≡ 32 * n + k → held (words ++ word ∷ []) i ≡ bit_in word k
held_pushed words word n i k e h f =
    sym (held_at (words ++ word ∷ []) i n k (omega arith) (omega arith))
    ∙ ap (λ w. bit_in w k) (get_or-append_right words (word ∷ []) n n blank e (omega arith) ∙ same_index (word ∷ []) (n - n) 0 (omega arith))

-- past the last word
pub held_past : (words : List Word4) (i : ℕ) → 32 * length words ≤ i → held words i ≡ Zero
held_past words i h =
    ap (λ w. bit_in w (i % 32)) (get_or_past words (i / 32) blank (omega arith)) ∙ same_digits _ _ 0 0 (bit_at-zero (i % 32)) (bit_at-zero (i % 32))

-- words that hold a list, and 0 past it, are canonical
pub canonical_from : (width : ℕ) (words : List Word4) (bits : List Bit) → 1 ≤ width → width ≤ 1024 → length words ≡ (width + 31) / 32 → length bits ≡ width → ((i : ℕ) → i < 32 * length words → held words i ≡ get_or bits i Zero) → IsCanonical width words
canonical_from width words bits least most count e h =
    record {
      least = least;
      most = most;
      count = count;
      unused = λ i k.
          let cases : (i < 32 * length words) ⊎ (32 * length words ≤ i) = search arith in
          elim cases [ inl l ↦ h i l ∙ get_or_past bits i Zero (rw e k) | inr l ↦ held_past words i l ];
    }

pub list_from : (width : ℕ) (words : List Word4) (bits : List Bit) → length words ≡ (width + 31) / 32 → length bits ≡ width → ((i : ℕ) → i < 32 * length words → held words i ≡ get_or bits i Zero) → bits_of width words ≡ bits
list_from width words bits count e h = held_list width words bits e (λ i k. h i (omega arith))

-- one word written
pub held_set_same : (words : List Word4) (word : Word4) (n i k : ℕ) → n < length words → k < 32 → i ≡ 32 * n + k → held (set words n word) i ≡ bit_in word k
held_set_same words word n i k l h f =
    sym (held_at (set words n word) i n k (omega arith) (omega arith))
    ∙ ap (λ w. bit_in w k) (get_or-set_same words n word blank l)

pub held_set_other : (words : List Word4) (word : Word4) (n i : ℕ) → i / 32 ≢ n → held (set words n word) i ≡ held words i
held_set_other words word n i h = ap (λ w. bit_in w (i % 32)) (get_or-set_other words n (i / 32) word blank h)

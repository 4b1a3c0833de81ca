-- The bits of lists that operators make.
use Rattle.std.proofs.Common.{◌≡◌, ℕ, zero, suc, ◌+◌, ◌-◌, ◌<◌, ◌≤◌, List, [], ◌∷◌, ◌++◌, length, get_or, take, drop, map, refl, ap, sym, ◌∙◌, arith, length-append, length-drop}
use Rattle.std.proofs.lemmas.List.{length-take, get_or-take, get_or-drop, get_or_append_left, get_or-append_right}
use Rattle.std.proofs.lemmas.List.FromFn.{length-map-range_with_len, get_or-map-range_with_len}
use Rattle.dpi_bits.specs.declared.bit.Bit.{Bit}
use Rattle.dpi_bits.specs.declared.bit.Bit.TheVariants.{Zero}
use Rattle.dpi_bits.specs.declared.word.Word4.{Word4}
use Rattle.dpi_bits.specs.Words.{bit_in}
use Rattle.dpi_bits.specs.Lists.{pairwise, word_bits}

pub map_at : (f : Bit → Bit) → f Zero ≡ Zero → (bits : List Bit) (i : ℕ) → get_or (map f bits) i Zero ≡ f (get_or bits i Zero)
map_at f e [] i = sym e
map_at f e (b ∷ bs) zero = refl
map_at f e (b ∷ bs) (suc i) = map_at f e bs i

pub length-map_bits : (f : Bit → Bit) (bits : List Bit) → length (map f bits) ≡ length bits
length-map_bits f [] = refl
length-map_bits f (b ∷ bs) = ap suc (length-map_bits f bs)

pub pairwise_at : (f : Bit → Bit → Bit) → f Zero Zero ≡ Zero → (a b : List Bit) → length a ≡ length b → (i : ℕ) → get_or (pairwise f a b) i Zero ≡ f (get_or a i Zero) (get_or b i Zero)
pairwise_at f e [] [] h i = sym e
pairwise_at f e [] (y ∷ b) h i = absurd (omega arith)
pairwise_at f e (x ∷ a) [] h i = absurd (omega arith)
pairwise_at f e (x ∷ a) (y ∷ b) h zero = refl
pairwise_at f e (x ∷ a) (y ∷ b) h (suc i) = pairwise_at f e a b (omega arith) i

pub length-pairwise : (f : Bit → Bit → Bit) (a b : List Bit) → length a ≡ length b → length (pairwise f a b) ≡ length a
length-pairwise f [] b h = refl
length-pairwise f (x ∷ a) [] h = absurd (omega arith)
length-pairwise f (x ∷ a) (y ∷ b) h = ap suc (length-pairwise f a b (omega arith))

pub length-word_bits : (word : Word4) → length (word_bits word) ≡ 32
unfolding word_bits
length-word_bits word = length-map-range_with_len (bit_in word) 0 32

pub word_bits_at : (word : Word4) (i : ℕ) → i < 32 → get_or (word_bits word) i Zero ≡ bit_in word i
unfolding word_bits
word_bits_at word i h = get_or-map-range_with_len (bit_in word) 0 32 i i Zero h (omega arith)

same_place : (bits : List Bit) (i j : ℕ) → i ≡ j → get_or bits i Zero ≡ get_or bits j Zero
same_place bits i j e = ap (λ k. get_or bits k Zero) e

module _ (low : ℕ) (value old : List Bit) where
  front_length : low ≤ length old → length (take low old) ≡ low
  front_length h = omega (arith, length-take low old)

  fronts_length : low ≤ length old → length (take low old ++ value) ≡ low + length value
  fronts_length h = omega (arith, length-append (take low old) value, length-take low old)

  pub put_pos_before : (i : ℕ) → i < length old → i < low → get_or (take (length old) (take low old ++ value ++ drop (low + length value) old)) i Zero ≡ get_or old i Zero
  put_pos_before i h k =
      let l : i < length (take low old) = omega (arith, length-take low old) in
      let m : i < length (take low old ++ value) = omega (arith, length-append (take low old) value) in
      get_or-take (length old) (take low old ++ value ++ drop (low + length value) old) i Zero h
      ∙ get_or_append_left (take low old ++ value) (drop (low + length value) old) Zero i m
      ∙ get_or_append_left (take low old) value Zero i l
      ∙ get_or-take low old i Zero k

  pub put_pos_within : (i : ℕ) → i < length old → low ≤ i → i - low < length value → get_or (take (length old) (take low old ++ value ++ drop (low + length value) old)) i Zero ≡ get_or value (i - low) Zero
  put_pos_within i h k l =
      let m : i < length (take low old ++ value) = omega (arith, fronts_length (omega arith)) in
      get_or-take (length old) (take low old ++ value ++ drop (low + length value) old) i Zero h
      ∙ get_or_append_left (take low old ++ value) (drop (low + length value) old) Zero i m
      ∙ get_or-append_right (take low old) value low i Zero (front_length (omega arith)) k

  pub put_pos_past : (i : ℕ) → i < length old → low ≤ i → length value ≤ i - low → get_or (take (length old) (take low old ++ value ++ drop (low + length value) old)) i Zero ≡ get_or old i Zero
  put_pos_past i h k l =
      get_or-take (length old) (take low old ++ value ++ drop (low + length value) old) i Zero h
      ∙ get_or-append_right (take low old ++ value) (drop (low + length value) old) (low + length value) i Zero (fronts_length (omega arith)) (omega arith)
      ∙ get_or-drop (low + length value) old (i - (low + length value)) Zero
      ∙ same_place old (low + length value + (i - (low + length value))) i (omega arith)

  pub length-put_pos : length (take (length old) (take low old ++ value ++ drop (low + length value) old)) ≡ length old
  length-put_pos =
      omega (arith, length-take (length old) (take low old ++ value ++ drop (low + length value) old), length-append (take low old ++ value) (drop (low + length value) old), length-append (take low old) value, length-take low old, length-drop (low + length value) old)

module _ (below : ℕ) (value old : List Bit) where
  pub put_neg_within : (i : ℕ) → i < length old → below + i < length value → get_or (take (length old) (drop below value ++ drop (length value - below) old)) i Zero ≡ get_or value (below + i) Zero
  put_neg_within i h k =
      let l : i < length (drop below value) = omega (arith, length-drop below value) in
      get_or-take (length old) (drop below value ++ drop (length value - below) old) i Zero h
      ∙ get_or_append_left (drop below value) (drop (length value - below) old) Zero i l
      ∙ get_or-drop below value i Zero

  pub put_neg_past : (i : ℕ) → i < length old → length value ≤ below + i → get_or (take (length old) (drop below value ++ drop (length value - below) old)) i Zero ≡ get_or old i Zero
  put_neg_past i h k =
      get_or-take (length old) (drop below value ++ drop (length value - below) old) i Zero h
      ∙ get_or-append_right (drop below value) (drop (length value - below) old) (length value - below) i Zero (length-drop below value) (omega arith)
      ∙ get_or-drop (length value - below) old (i - (length value - below)) Zero
      ∙ same_place old (length value - below + (i - (length value - below))) i (omega arith)

  pub length-put_neg : length (take (length old) (drop below value ++ drop (length value - below) old)) ≡ length old
  length-put_neg =
      omega (arith, length-take (length old) (drop below value ++ drop (length value - below) old), length-append (drop below value) (drop (length value - below) old), length-drop below value, length-drop (length value - below) old)

pub pairwise_in : (f : Bit → Bit → Bit) (a b : List Bit) → length a ≡ length b → (i : ℕ) → i < length a → get_or (pairwise f a b) i Zero ≡ f (get_or a i Zero) (get_or b i Zero)
pairwise_in f [] b h i l = absurd (omega arith)
pairwise_in f (x ∷ a) [] h i l = absurd (omega arith)
pairwise_in f (x ∷ a) (y ∷ b) h zero l = refl
pairwise_in f (x ∷ a) (y ∷ b) h (suc i) l = pairwise_in f a b (omega arith) i (omega arith)

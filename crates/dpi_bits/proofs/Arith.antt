-- Arithmetic modulo 2 to the width.
use Rattle.std.proofs.Common.{◌≡◌, ◌≢◌, ℕ, zero, suc, ◌+◌, ◌-◌, ◌*◌, ◌/◌, ◌%◌, ◌^◌, ◌<◌, ◌≤◌, Bool, true, false, ◌&&◌, cond, pos, negsuc, neg_ℤ, List, [], ◌∷◌, length, get_or, map, w64, refl, ap, sym, ◌∙◌, arith}
use Rattle.std.specs.Int.{bit_at}
use Rattle.std.proofs.lemmas.List.{ext_get_or, get_or-map}
use Rattle.std.proofs.lemmas.Nat.{pow-add, pow_pos}
use Rattle.std.proofs.lemmas.Nat.Bits.{bit_at_not, bit_at_cat_low, bit_at-lt, ones_shr}
use Rattle.std.proofs.Math.Nat.{pow-suc}
use Rattle.dpi_bits.specs.declared.bit.Bit.{Bit}
use Rattle.dpi_bits.specs.declared.bit.Bit.TheVariants.{Zero, One, Z, X}
use Rattle.dpi_bits.specs.Arithmetic.{value, twos_complement, where_known, sum_of, difference, product_of, negated}
use Rattle.dpi_bits.specs.Bits.{not_bit}
use Rattle.dpi_bits.specs.Lists.{known, top, all_x}
use Rattle.dpi_bits.specs.Numbers.{digit, number, binary}
use Rattle.dpi_bits.specs.Parts.{extension}
use Rattle.dpi_bits.specs.Sought.{is_one}
use Rattle.dpi_bits.specs.Words.{aval, bit_of}
use Rattle.dpi_bits.proofs.ListsAt.{length-map_bits}
use Rattle.dpi_bits.proofs.Written.{digits_number, number_large, binary_same, binary_at, length-binary, mod_digit}

pub digits_short : (n : ℕ) (bits : List Bit) → n < 2 ^ 64 → known bits ≡ true → length bits ≤ 64 → ((i : ℕ) → i < 64 → bit_at n i ≡ aval (get_or bits i Zero)) → n ≡ number bits
digits_short n bits fits k short same = digits_number n bits fits k (λ i h l. absurd (omega arith)) same

-- ---- sums and products
pub wrapped : (width n : ℕ) → width ≤ 64 → binary width (n % 2 ^ 64) ≡ binary width n
wrapped width n h = binary_same width (n % 2 ^ 64) n (λ i l. mod_digit n 64 i (omega arith))

rest : (width : ℕ) → width ≤ 64 → 64 ≡ 64 - width + width
rest width h = omega arith

back : (width : ℕ) → width ≤ 64 → 64 - (64 - width) ≡ width
back width h = omega arith

whole_power : (width : ℕ) → width ≤ 64 → 2 ^ 64 ≡ 2 ^ (64 - width) * 2 ^ width
whole_power width h = ap (λ k. 2 ^ k) (rest width h) ∙ pow-add 2 (64 - width) width

apart : (a b p w : ℕ) → b ≤ w → a + (suc p * w - b) ≡ p * w + (a + (w - b))
apart a b p w h = omega arith

pub less_by : (width a b : ℕ) → width ≤ 64 → b ≤ 2 ^ width → binary width ((a + (2 ^ 64 - b)) % 2 ^ 64) ≡ binary width (a + (2 ^ width - b))
less_by width a b h l =
    let p : ℕ = 2 ^ (64 - width) - 1 in
    let one : suc p ≡ 2 ^ (64 - width) = omega (arith, pow_pos (64 - width)) in
    let whole : 2 ^ 64 ≡ suc p * 2 ^ width = whole_power width h ∙ ap (λ n. n * 2 ^ width) (sym one) in
    let split : a + (2 ^ 64 - b) ≡ p * 2 ^ width + (a + (2 ^ width - b)) = ap (λ n. a + (n - b)) whole ∙ apart a b p (2 ^ width) l in
    binary_same width ((a + (2 ^ 64 - b)) % 2 ^ 64) (a + (2 ^ width - b))
    (λ i k.
    mod_digit (a + (2 ^ 64 - b)) 64 i (omega arith)
    ∙ ap (λ n. bit_at n i) split
    ∙ bit_at_cat_low p width (a + (2 ^ width - b)) i k)

-- ---- two's complement
inverted : (d : ℕ) → d < 2 → bit_of (1 - d) 0 ≡ not_bit (bit_of d 0)
inverted zero h = refl
inverted (suc zero) h = refl
inverted (suc (suc d)) h = absurd (omega arith)

complement : (width n : ℕ) → width ≤ 64 → n < 2 ^ 64 → binary width (2 ^ 64 - 1 - n) ≡ map not_bit (binary width n)
complement width n h fits =
    ext_get_or Zero (binary width (2 ^ 64 - 1 - n)) (map not_bit (binary width n)) (length-binary width (2 ^ 64 - 1 - n) ∙ sym (length-map_bits not_bit (binary width n) ∙ length-binary width n))
    (λ i k.
    let l : i < width = omega (arith, length-binary width (2 ^ 64 - 1 - n)) in
    binary_at width (2 ^ 64 - 1 - n) i Zero l
    ∙ ap (λ d. bit_of d 0) (bit_at_not w64 n i fits (omega arith))
    ∙ inverted (bit_at n i) (bit_at-lt n i)
    ∙ sym (get_or-map not_bit (binary width n) i Zero Zero (omega (arith, length-binary width n)) ∙ ap not_bit (binary_at width n i Zero l)))

-- ---- whole numbers
known_head : (b : Bit) (bs : List Bit) → known (b ∷ bs) ≡ true → known bs ≡ true
known_head Zero bs h = h
known_head One bs h = h
known_head Z bs h = cc
known_head X bs h = cc

known_pair : (b : Bit) (bs : List Bit) → known (b ∷ bs) ≡ true → digit (not_bit b) + digit b ≡ 1
known_pair Zero bs h = refl
known_pair One bs h = refl
known_pair Z bs h = cc
known_pair X bs h = cc

pub number_inverted : (bits : List Bit) → known bits ≡ true → number (map not_bit bits) + number bits + 1 ≡ 2 ^ length bits
number_inverted [] h = refl
number_inverted (b ∷ bs) h =
    let rest : number (map not_bit bs) + number bs + 1 ≡ 2 ^ length bs = number_inverted bs (known_head b bs h) in
    let here : digit (not_bit b) + digit b ≡ 1 = known_pair b bs h in
    omega (arith, pow-suc 2 (length bs))

pub all_ones : (width : ℕ) → width ≤ 64 → 18446744073709551615 / 2 ^ (64 - width) ≡ 2 ^ width - 1
all_ones width h = ones_shr 64 (64 - width) (omega arith) ∙ ap (λ k. 2 ^ k - 1) (back width h)

any_default : (bits : List Bit) (i : ℕ) (d e : Bit) → i < length bits → get_or bits i d ≡ get_or bits i e
any_default [] i d e h = absurd (omega arith)
any_default (b ∷ bs) zero d e h = refl
any_default (b ∷ bs) (suc i) d e h = any_default bs i d e (omega arith)

signed_top : (signed : Bool) (bits : List Bit) → One ≡ extension signed bits → top bits ≡ One
signed_top true bits h = sym h
signed_top false bits h = cc

-- a signed list with the top bit 1 is not 0
pub top_positive : (signed : Bool) (bits : List Bit) → 1 ≤ length bits → One ≡ extension signed bits → 1 ≤ number bits
top_positive signed bits l h =
    let top_one : is_one (get_or bits (length bits - 1) Zero) ≡ true =
    ap is_one (any_default bits (length bits - 1) Zero X (omega arith) ∙ signed_top signed bits h) in
    number_large bits (length bits - 1) 0 (omega arith) top_one

value_is : (signed : Bool) (bits : List Bit) → value signed bits ≡ cond (is_one (extension signed bits)) (negsuc (number (map not_bit bits))) (pos (number bits))
value_is true bits = refl
value_is false bits = refl

pub value_below : (signed : Bool) (bits : List Bit) (size : ℕ) → One ≡ extension signed bits → size ≡ suc (number (map not_bit bits)) → neg_ℤ (pos size) ≡ value signed bits
value_below signed bits size h e =
    ap (λ n. neg_ℤ (pos n)) e
    ∙ sym (value_is signed bits ∙ ap (λ b. cond (is_one b) (negsuc (number (map not_bit bits))) (pos (number bits))) (sym h))

other_bit : (b : Bit) → b ≢ One → is_one b ≡ false
other_bit Zero h = refl
other_bit One h = absurd (h refl)
other_bit Z h = refl
other_bit X h = refl

pub value_above : (signed : Bool) (bits : List Bit) (size : ℕ) → extension signed bits ≢ One → size ≡ number bits → pos size ≡ value signed bits
value_above signed bits size h e =
    ap pos e
    ∙ sym (value_is signed bits ∙ ap (λ b. cond b (negsuc (number (map not_bit bits))) (pos (number bits))) (other_bit (extension signed bits) h))

-- ---- the answers of operators
same_binary : (width m n : ℕ) → m ≡ n → binary width m ≡ binary width n
same_binary width m n e = ap (binary width) e

ap_le : (v w n : ℕ) → v ≡ w → n ≤ 2 ^ w → n ≤ 2 ^ v
ap_le v w n e h = rw e h

known_answer : (a b answer : List Bit) → known a && known b ≡ true → answer ≡ where_known a b answer
known_answer a b answer h = ap (λ k. cond k answer (all_x a)) (sym h)

bounded : (bits : List Bit) → known bits ≡ true → number bits ≤ 2 ^ length bits
bounded bits h = omega (arith, number_inverted bits h)

second_known : (p q : Bool) → p && q ≡ true → q ≡ true
second_known true q h = h
second_known false q h = cc

module _ (a b : List Bit) (w m n : ℕ) (width : w ≡ length a) (short : length a ≤ 64) (k : known a && known b ≡ true) (e : m ≡ number a) (f : n ≡ number b) where
  pub sum_is : binary w ((m + n) % 2 ^ 64) ≡ sum_of a b
  sum_is =
      ap (λ x. binary x ((m + n) % 2 ^ 64)) width
      ∙ wrapped (length a) (m + n) short
      ∙ ap (λ x. binary (length a) (x + n)) e
      ∙ ap (λ y. binary (length a) (number a + y)) f
      ∙ known_answer a b (binary (length a) (number a + number b)) k

  pub product_is : binary w ((m * n) % 2 ^ 64) ≡ product_of a b
  product_is =
      ap (λ x. binary x ((m * n) % 2 ^ 64)) width
      ∙ wrapped (length a) (m * n) short
      ∙ ap (λ x. binary (length a) (x * n)) e
      ∙ ap (λ y. binary (length a) (number a * y)) f
      ∙ known_answer a b (binary (length a) (number a * number b)) k

  pub difference_is : length a ≡ length b → binary w ((m + (2 ^ 64 - n)) % 2 ^ 64) ≡ difference a b
  difference_is alike =
      let fits : number b ≤ 2 ^ length a = ap_le (length a) (length b) (number b) alike (bounded b (second_known (known a) (known b) k)) in
      ap (λ x. binary x ((m + (2 ^ 64 - n)) % 2 ^ 64)) width
      ∙ ap (λ x. binary (length a) ((x + (2 ^ 64 - n)) % 2 ^ 64)) e
      ∙ ap (λ y. binary (length a) ((number a + (2 ^ 64 - y)) % 2 ^ 64)) f
      ∙ less_by (length a) (number a) (number b) short fits
      ∙ known_answer a b (binary (length a) (number a + (2 ^ length a - number b))) k

pub negated_is : (a : List Bit) (w m : ℕ) → w ≡ length a → length a ≤ 64 → known a && known a ≡ true → m ≡ number a → binary w ((0 + (2 ^ 64 - m)) % 2 ^ 64) ≡ negated a
negated_is a w m width short k e =
    ap (λ x. binary x ((0 + (2 ^ 64 - m)) % 2 ^ 64)) width
    ∙ ap (λ y. binary (length a) ((0 + (2 ^ 64 - y)) % 2 ^ 64)) e
    ∙ less_by (length a) 0 (number a) short (bounded a (second_known (known a) (known a) k))
    ∙ same_binary (length a) (0 + (2 ^ length a - number a)) (2 ^ length a - number a) (omega arith)
    ∙ known_answer a a (binary (length a) (2 ^ length a - number a)) k

pub negative_is : (width size : ℕ) → width ≤ 64 → size < 2 ^ 64 → binary width ((0 + (2 ^ 64 - size)) % 2 ^ 64) ≡ twos_complement width (neg_ℤ (pos size))
negative_is width zero h l = refl
negative_is width (suc n) h l =
    wrapped width (0 + (2 ^ 64 - suc n)) h
    ∙ same_binary width (0 + (2 ^ 64 - suc n)) (2 ^ 64 - 1 - n) (omega arith)
    ∙ complement width n h (omega arith)

-- What decides a reduction.
use Rattle.std.proofs.Common.{◌≡◌, ℕ, zero, suc, ◌*◌, ◌<◌, ◌≤◌, ◌&&◌, ◌||◌, Bool, true, false, not, IsTrue, IsFalse, List, [], ◌∷◌, length, get_or, refl, ap, sym, ◌∙◌, arith}
use Rattle.dpi_bits.specs.declared.bit.Bit.{Bit}
use Rattle.dpi_bits.specs.declared.bit.Bit.TheVariants.{Zero, One, Z, X}
use Rattle.dpi_bits.specs.Bits.{is_unknown, and_bit, or_bit}
use Rattle.dpi_bits.specs.Lists.{known, reduce_and, reduce_or}
use Rattle.dpi_bits.specs.Sought.{is_zero, is_one}

neither : (a : Bool) → a && false ≡ false
neither true = refl
neither false = refl

first : (a b : Bool) → not a && b ≡ true → a ≡ false
first true b h = cc
first false b h = refl

second : (a b : Bool) → a && b ≡ true → b ≡ true
second true b h = h
second false b h = cc

-- ---- known bits
pub all_known : (bits : List Bit) → ((i : ℕ) → i < length bits → is_unknown (get_or bits i Zero) ≡ false) → known bits ≡ true
all_known [] h = refl
all_known (b ∷ bs) h = rw (h 0 (omega arith), all_known bs (λ i l. h (suc i) (omega arith))) refl

pub some_unknown : (bits : List Bit) (i : ℕ) → i < length bits → is_unknown (get_or bits i Zero) ≡ true → known bits ≡ false
some_unknown [] i l h = absurd (omega arith)
some_unknown (b ∷ bs) zero l h = rw h refl
some_unknown (b ∷ bs) (suc i) l h = rw (some_unknown bs i (omega arith) h) (neither (not (is_unknown b)))

pub known_at : (bits : List Bit) → known bits ≡ true → (i : ℕ) → is_unknown (get_or bits i Zero) ≡ false
known_at [] h i = refl
known_at (b ∷ bs) h zero = first (is_unknown b) (known bs) h
known_at (b ∷ bs) h (suc i) = known_at bs (second (not (is_unknown b)) (known bs) h) i

pub either : (a : Bool) → a || a ≡ a
either true = refl
either false = refl

pub known_by : (b : Bool) (bits : List Bit)
    → (IsFalse b → (i : ℕ) → 32 * 0 ≤ i → i < length bits → is_unknown (get_or bits i Zero) || is_unknown (get_or bits i Zero) ≡ false)
    → (IsTrue b → (i : ℕ) × (32 * 0 ≤ i) × (i < length bits) × (is_unknown (get_or bits i Zero) || is_unknown (get_or bits i Zero) ≡ true))
    → not b ≡ known bits
known_by false bits never somewhere = sym (all_known bits (λ i l. sym (either _) ∙ never refl i (omega arith) l))
known_by true bits never somewhere =
    let place = somewhere refl in
    sym (some_unknown bits place.0 place.2 (sym (either _) ∙ place.3))

-- ---- `&` of a list
abbrev pub NotZero : List Bit → Type 0
NotZero bits = (i : ℕ) → i < length bits → is_zero (get_or bits i Zero) ≡ false

tail_not : (p : Bit → Bool) (b : Bit) (bs : List Bit) → ((i : ℕ) → i < length (b ∷ bs) → p (get_or (b ∷ bs) i Zero) ≡ false) → (i : ℕ) → i < length bs → p (get_or bs i Zero) ≡ false
tail_not p b bs h i l = h (suc i) (omega arith)

zero_is : (b : Bit) → is_zero b ≡ true → b ≡ Zero
zero_is Zero h = refl
zero_is One h = cc
zero_is Z h = cc
zero_is X h = cc

one_is : (b : Bit) → is_one b ≡ true → b ≡ One
one_is Zero h = cc
one_is One h = refl
one_is Z h = cc
one_is X h = cc

known_one : (b : Bit) → is_zero b ≡ false → is_unknown b ≡ false → b ≡ One
known_one Zero h k = cc
known_one One h k = refl
known_one Z h k = cc
known_one X h k = cc

known_zero : (b : Bit) → is_one b ≡ false → is_unknown b ≡ false → b ≡ Zero
known_zero Zero h k = refl
known_zero One h k = cc
known_zero Z h k = cc
known_zero X h k = cc

and_zero_right : (b : Bit) → and_bit b Zero ≡ Zero
and_zero_right Zero = refl
and_zero_right One = refl
and_zero_right Z = refl
and_zero_right X = refl

or_one_right : (b : Bit) → or_bit b One ≡ One
or_one_right Zero = refl
or_one_right One = refl
or_one_right Z = refl
or_one_right X = refl

and_x_right : (b : Bit) → is_zero b ≡ false → and_bit b X ≡ X
and_x_right Zero h = cc
and_x_right One h = refl
and_x_right Z h = refl
and_x_right X h = refl

or_x_right : (b : Bit) → is_one b ≡ false → or_bit b X ≡ X
or_x_right Zero h = refl
or_x_right One h = cc
or_x_right Z h = refl
or_x_right X h = refl

and_x_left : (b c : Bit) → is_unknown b ≡ true → is_zero c ≡ false → and_bit b c ≡ X
and_x_left Zero c h k = cc
and_x_left One c h k = cc
and_x_left Z Zero h k = cc
and_x_left Z One h k = refl
and_x_left Z Z h k = refl
and_x_left Z X h k = refl
and_x_left X Zero h k = cc
and_x_left X One h k = refl
and_x_left X Z h k = refl
and_x_left X X h k = refl

or_x_left : (b c : Bit) → is_unknown b ≡ true → is_one c ≡ false → or_bit b c ≡ X
or_x_left Zero c h k = cc
or_x_left One c h k = cc
or_x_left Z Zero h k = refl
or_x_left Z One h k = cc
or_x_left Z Z h k = refl
or_x_left Z X h k = refl
or_x_left X Zero h k = refl
or_x_left X One h k = cc
or_x_left X Z h k = refl
or_x_left X X h k = refl

and_not_zero : (b c : Bit) → is_zero b ≡ false → is_zero c ≡ false → is_zero (and_bit b c) ≡ false
and_not_zero Zero c h k = cc
and_not_zero One Zero h k = cc
and_not_zero One One h k = refl
and_not_zero One Z h k = refl
and_not_zero One X h k = refl
and_not_zero Z Zero h k = cc
and_not_zero Z One h k = refl
and_not_zero Z Z h k = refl
and_not_zero Z X h k = refl
and_not_zero X Zero h k = cc
and_not_zero X One h k = refl
and_not_zero X Z h k = refl
and_not_zero X X h k = refl

or_not_one : (b c : Bit) → is_one b ≡ false → is_one c ≡ false → is_one (or_bit b c) ≡ false
or_not_one One c h k = cc
or_not_one Zero Zero h k = refl
or_not_one Zero One h k = cc
or_not_one Zero Z h k = refl
or_not_one Zero X h k = refl
or_not_one Z Zero h k = refl
or_not_one Z One h k = cc
or_not_one Z Z h k = refl
or_not_one Z X h k = refl
or_not_one X Zero h k = refl
or_not_one X One h k = cc
or_not_one X Z h k = refl
or_not_one X X h k = refl

pub and_zero : (bits : List Bit) (i : ℕ) → i < length bits → is_zero (get_or bits i Zero) ≡ true → reduce_and bits ≡ Zero
and_zero [] i l h = absurd (omega arith)
and_zero (b ∷ bs) zero l h = ap (λ x. and_bit x (reduce_and bs)) (zero_is b h)
and_zero (b ∷ bs) (suc i) l h = ap (and_bit b) (and_zero bs i (omega arith) h) ∙ and_zero_right b

and_nonzero : (bits : List Bit) → ((i : ℕ) → i < length bits → is_zero (get_or bits i Zero) ≡ false) → is_zero (reduce_and bits) ≡ false
and_nonzero [] h = refl
and_nonzero (b ∷ bs) h = and_not_zero b (reduce_and bs) (h 0 (omega arith)) (and_nonzero bs (tail_not is_zero b bs h))

pub and_x : (bits : List Bit) → ((i : ℕ) → i < length bits → is_zero (get_or bits i Zero) ≡ false) → (i : ℕ) → i < length bits → is_unknown (get_or bits i Zero) ≡ true → reduce_and bits ≡ X
and_x [] h i l k = absurd (omega arith)
and_x (b ∷ bs) h zero l k = and_x_left b (reduce_and bs) k (and_nonzero bs (tail_not is_zero b bs h))
and_x (b ∷ bs) h (suc i) l k = ap (and_bit b) (and_x bs (tail_not is_zero b bs h) i (omega arith) k) ∙ and_x_right b (h 0 (omega arith))

pub and_one : (bits : List Bit) → ((i : ℕ) → i < length bits → is_zero (get_or bits i Zero) ≡ false) → ((i : ℕ) → i < length bits → is_unknown (get_or bits i Zero) ≡ false) → reduce_and bits ≡ One
and_one [] h k = refl
and_one (b ∷ bs) h k =
    ap (λ x. and_bit x (reduce_and bs)) (known_one b (h 0 (omega arith)) (k 0 (omega arith)))
    ∙ ap (and_bit One) (and_one bs (tail_not is_zero b bs h) (tail_not is_unknown b bs k))

pub or_one : (bits : List Bit) (i : ℕ) → i < length bits → is_one (get_or bits i Zero) ≡ true → reduce_or bits ≡ One
or_one [] i l h = absurd (omega arith)
or_one (b ∷ bs) zero l h = ap (λ x. or_bit x (reduce_or bs)) (one_is b h)
or_one (b ∷ bs) (suc i) l h = ap (or_bit b) (or_one bs i (omega arith) h) ∙ or_one_right b

or_nonone : (bits : List Bit) → ((i : ℕ) → i < length bits → is_one (get_or bits i Zero) ≡ false) → is_one (reduce_or bits) ≡ false
or_nonone [] h = refl
or_nonone (b ∷ bs) h = or_not_one b (reduce_or bs) (h 0 (omega arith)) (or_nonone bs (tail_not is_one b bs h))

pub or_x : (bits : List Bit) → ((i : ℕ) → i < length bits → is_one (get_or bits i Zero) ≡ false) → (i : ℕ) → i < length bits → is_unknown (get_or bits i Zero) ≡ true → reduce_or bits ≡ X
or_x [] h i l k = absurd (omega arith)
or_x (b ∷ bs) h zero l k = or_x_left b (reduce_or bs) k (or_nonone bs (tail_not is_one b bs h))
or_x (b ∷ bs) h (suc i) l k = ap (or_bit b) (or_x bs (tail_not is_one b bs h) i (omega arith) k) ∙ or_x_right b (h 0 (omega arith))

pub or_zero : (bits : List Bit) → ((i : ℕ) → i < length bits → is_one (get_or bits i Zero) ≡ false) → ((i : ℕ) → i < length bits → is_unknown (get_or bits i Zero) ≡ false) → reduce_or bits ≡ Zero
or_zero [] h k = refl
or_zero (b ∷ bs) h k =
    ap (λ x. or_bit x (reduce_or bs)) (known_zero b (h 0 (omega arith)) (k 0 (omega arith)))
    ∙ ap (or_bit Zero) (or_zero bs (tail_not is_one b bs h) (tail_not is_unknown b bs k))

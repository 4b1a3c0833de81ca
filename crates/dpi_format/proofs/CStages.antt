-- The parts of a number in a format of printf: each stands at the front of what it was read from.
use Rattle.std.proofs.Common.{◌≡◌, ◌≤◌, ◌<◌, ℕ, ◌+◌, ◌-◌, ◌*◌, ◌/◌, ◌%◌, Bool, true, false, cond}
use Rattle.std.proofs.Common.{List, [], ◌∷◌, ◌++◌, length, drop, Option, Some, None, IfSome, refl, ap, sym, ◌∙◌, arith}
use Rattle.std.proofs.Common.{subst, length-append}
use Rattle.std.specs.Prelude.{◌==◌, ◌&&◌, nat_le, decimal}
use Rattle.std.proofs.lemmas.Bool.Decides.{nat_tests}
use Rattle.std.proofs.lemmas.Fmt.{decimal_digit, decimal_step}
use Rattle.std.proofs.Math.Seq.{drop-append_seam}
use Rattle.dpi_format.specs.declared.c_piece.CLetter.TheVariants.{D, U, X}
use Rattle.dpi_format.specs.CFormat.{zero_spelled, width_spelled, long_spelled, letter_spelled, IsWidth}
use Rattle.dpi_format.specs.CFirst.{first_letter, has_long, has_zero, width_by, width_of}
use Rattle.dpi_format.proofs.Codes.{eq_of}

-- what the part spells stands at the front of the bytes
abbrev pub Fronts : List ℕ → List ℕ → Type 0
Fronts part bytes = bytes ≡ part ++ drop (length part) bytes

fronts : (part bytes rest : List ℕ) → bytes ≡ part ++ rest → Fronts part bytes
fronts part bytes rest e =
    e ∙ ap (λ r. part ++ r) (sym (ap (drop (length part)) e ∙ drop-append_seam part rest))

zero_by : (b : ℕ) (more : List ℕ) (zero : Bool) → (b == 48) ≡ zero → Fronts (zero_spelled zero) (b ∷ more)
zero_by b more true e = ap (λ x. x ∷ more) (eq_of b 48 e)
zero_by b more false e = refl

pub zero-front : (bytes : List ℕ) → Fronts (zero_spelled (has_zero bytes)) bytes
zero-front [] = refl
zero-front (b ∷ more) = zero_by b more (b == 48) refl

long_by : (b c : ℕ) (more : List ℕ) (one two : Bool) → (b == 108) ≡ one → (c == 108) ≡ two
    → Fronts (long_spelled (one && two)) (b ∷ c ∷ more)
long_by b c more true true e f =
    ap (λ x. x ∷ c ∷ more) (eq_of b 108 e) ∙ ap (λ x. 108 ∷ x ∷ more) (eq_of c 108 f)
long_by b c more true false e f = refl
long_by b c more false two e f = refl

single_by : (b : ℕ) (one : Bool) → Fronts (long_spelled (one && false)) (b ∷ [])
single_by b true = refl
single_by b false = refl

pub long-front : (bytes : List ℕ) → Fronts (long_spelled (has_long bytes)) bytes
long-front [] = refl
long-front (b ∷ []) = single_by b (b == 108)
long-front (b ∷ c ∷ more) = long_by b c more (b == 108) (c == 108) refl refl

letter_by : (b : ℕ) (more : List ℕ) (is_d is_u is_x : Bool) → (b == 100) ≡ is_d → (b == 117) ≡ is_u
    → (b == 120) ≡ is_x
    → IfSome (cond is_d (Some D) (cond is_u (Some U) (cond is_x (Some X) None)))
    (λ l. Fronts (letter_spelled l) (b ∷ more))
letter_by b more true is_u is_x e f g = ap (λ x. x ∷ more) (eq_of b 100 e)
letter_by b more false true is_x e f g = ap (λ x. x ∷ more) (eq_of b 117 f)
letter_by b more false false true e f g = ap (λ x. x ∷ more) (eq_of b 120 g)
letter_by b more false false false e f g = tt

pub letter-front : (bytes : List ℕ) → IfSome (first_letter bytes) (λ l. Fronts (letter_spelled l) bytes)
letter-front [] = tt
letter-front (b ∷ more) = letter_by b more (b == 100) (b == 117) (b == 120) refl refl refl

digit_low : (low b : ℕ) → nat_le low b && nat_le b 57 ≡ true → low ≤ b
digit_low low b h = grind (arith, nat_tests)

digit_high : (low b : ℕ) → nat_le low b && nat_le b 57 ≡ true → b ≤ 57
digit_high low b h = grind (arith, nat_tests)

pub decimal_two : (n : ℕ) (rest : List ℕ) → 10 ≤ n → n < 100 → (48 + n / 10) ∷ (48 + n % 10) ∷ rest ≡ decimal n ++ rest
decimal_two n rest h small =
    sym
    (ap (λ s. s ++ rest)
    (decimal_step n h (omega arith)
    ∙ ap (λ s. s ++ ((48 + n % 10) ∷ [])) (decimal_digit (n / 10) (omega arith))))

one_digit : (b : ℕ) (more : List ℕ) → 49 ≤ b → b ≤ 57 → IsWidth (b - 48) × Fronts (decimal (b - 48)) (b ∷ more)
one_digit b more low high =
    let same : 48 + (b - 48) ≡ b = omega arith in
    let spelled : b ∷ more ≡ decimal (b - 48) ++ more =
    ap (λ x. x ∷ more) (sym same) ∙ ap (λ s. s ++ more) (sym (decimal_digit (b - 48) (omega arith))) in
    ((omega arith, omega arith), fronts (decimal (b - 48)) (b ∷ more) more spelled)

two_digits : (b c : ℕ) (more : List ℕ) → 49 ≤ b → b ≤ 57 → 48 ≤ c → c ≤ 57
    → IsWidth ((b - 48) * 10 + (c - 48)) × Fronts (decimal ((b - 48) * 10 + (c - 48))) (b ∷ c ∷ more)
two_digits b c more low high from to =
    let n : ℕ = (b - 48) * 10 + (c - 48) in
    let tens : 48 + n / 10 ≡ b = omega arith in
    let ones : 48 + n % 10 ≡ c = omega arith in
    let spelled : b ∷ c ∷ more ≡ decimal n ++ more =
    ap (λ x. x ∷ c ∷ more) (sym tens)
    ∙ ap (λ x. (48 + n / 10) ∷ x ∷ more) (sym ones)
    ∙ decimal_two n more (omega arith) (omega arith) in
    ((omega arith, omega arith), fronts (decimal n) (b ∷ c ∷ more) more spelled)

second_by : (b c : ℕ) (more : List ℕ) (second : Bool) → nat_le 48 c && nat_le c 57 ≡ second → 49 ≤ b → b ≤ 57
    → IsWidth (cond second ((b - 48) * 10 + (c - 48)) (b - 48))
    × Fronts (decimal (cond second ((b - 48) * 10 + (c - 48)) (b - 48))) (b ∷ c ∷ more)
second_by b c more true e low high =
    two_digits b c more low high (digit_low 48 c e) (digit_high 48 c e)
second_by b c more false e low high = one_digit b (c ∷ more) low high

width_read : (b : ℕ) (more : List ℕ) → 49 ≤ b → b ≤ 57
    → IsWidth (width_by (b - 48) more) × Fronts (decimal (width_by (b - 48) more)) (b ∷ more)
width_read b [] low high = one_digit b [] low high
width_read b (c ∷ more) low high = second_by b c more (nat_le 48 c && nat_le c 57) refl low high

width_if : (b : ℕ) (more : List ℕ) (first : Bool) → nat_le 49 b && nat_le b 57 ≡ first
    → IfSome (cond first (Some (width_by (b - 48) more)) None) IsWidth
    × Fronts (width_spelled (cond first (Some (width_by (b - 48) more)) None)) (b ∷ more)
width_if b more true e = width_read b more (digit_low 49 b e) (digit_high 49 b e)
width_if b more false e = (tt, refl)

-- the width that is read is one, and its digits stand at the front
pub width-front : (bytes : List ℕ) → IfSome (width_of bytes) IsWidth × Fronts (width_spelled (width_of bytes)) bytes
width-front [] = (tt, refl)
width-front (b ∷ more) = width_if b more (nat_le 49 b && nat_le b 57) refl

-- how many digits a width has
pub one_long : (o : Option ℕ) (width : ℕ) → o ≡ Some width → width < 10 → 1 ≡ length (width_spelled o)
one_long o width e small =
    sym (ap (λ w. length (width_spelled w)) e ∙ ap length (decimal_digit width small))

pub two_long : (o : Option ℕ) (width : ℕ) → o ≡ Some width → IfSome o IsWidth → 10 ≤ width
    → 2 ≡ length (width_spelled o)
two_long o width e is large =
    let of : IsWidth width = subst (λ w. IfSome w IsWidth) e is in
    let whole : (48 + width / 10) ∷ (48 + width % 10) ∷ [] ≡ decimal width ++ [] =
    decimal_two width [] large (omega (arith, of.1)) in
    let sizes : 2 ≡ length (decimal width) + 0 = ap length whole ∙ length-append (decimal width) [] in
    let size : length (width_spelled o) ≡ length (decimal width) = ap (λ w. length (width_spelled w)) e in
    omega (arith, sizes, size)

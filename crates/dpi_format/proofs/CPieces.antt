-- Pieces of a format of printf are told by their spellings.
use Rattle.std.proofs.Common.{◌≡◌, ◌≤◌, ◌<◌, ◌⊎◌, inl, inr, ℕ, ◌+◌, ◌-◌, ◌*◌, ◌/◌, ◌%◌, Bool, true, false, cond}
use Rattle.std.proofs.Common.{List, [], ◌∷◌, ◌++◌, length, drop, Option, Some, None, IfSome, refl, ap, sym, ◌∙◌, arith}
use Rattle.std.proofs.Common.{append_assoc, subst}
use Rattle.std.specs.Prelude.{◌==◌, ◌&&◌, nat_le, decimal}
use Rattle.std.proofs.lemmas.Bool.Decides.{nat_tests}
use Rattle.std.proofs.lemmas.Fmt.{decimal_digit}
use Rattle.std.proofs.Math.Seq.{drop-append_seam}
use Rattle.dpi_format.specs.declared.c_piece.CLetter.{CLetter}
use Rattle.dpi_format.specs.declared.c_piece.CLetter.TheVariants.{D, U, X}
use Rattle.dpi_format.specs.declared.c_piece.CNumber.{CNumber}
use Rattle.dpi_format.specs.declared.c_piece.CPiece.{CPiece}
use Rattle.dpi_format.specs.declared.c_piece.CPiece.TheVariants.{Byte, Percent, Text, Character, Number}
use Rattle.dpi_format.specs.CFormat.{spelled, number_spelled, zero_spelled, width_spelled, long_spelled}
use Rattle.dpi_format.specs.CFormat.{letter_spelled, IsWidth, IsPlain}
use Rattle.dpi_format.specs.CFirst.{first_letter, has_long, has_zero, width_by, width_of}
use Rattle.dpi_format.specs.CFirst.{number_by, behind_width, behind_zero, number_of, behind_percent, first_of}
use Rattle.dpi_format.proofs.Codes.{eq_of, unequal, differs, IsTold, Begins}
use Rattle.dpi_format.proofs.CStages.{decimal_two, Fronts, zero-front, width-front, long-front, letter-front}

-- bytes that no digit begins, and that aren't taken for another piece
record EndsDigits (bytes : List ℕ) : Type 0 where
  pub second : (d : ℕ) → width_by d bytes ≡ d
  pub none : width_of bytes ≡ None
  pub no_zero : has_zero bytes ≡ false
  pub no_other : behind_percent bytes ≡ number_of bytes

abbrev tail : Bool → CLetter → List ℕ → List ℕ
tail long letter rest = (long_spelled long ++ letter_spelled letter) ++ rest

tail_ends : (long : Bool) (letter : CLetter) (rest : List ℕ) → EndsDigits (tail long letter rest)
tail_ends true D rest = record { second = λ d. refl; none = refl; no_zero = refl; no_other = refl }
tail_ends true U rest = record { second = λ d. refl; none = refl; no_zero = refl; no_other = refl }
tail_ends true X rest = record { second = λ d. refl; none = refl; no_zero = refl; no_other = refl }
tail_ends false D rest = record { second = λ d. refl; none = refl; no_zero = refl; no_other = refl }
tail_ends false U rest = record { second = λ d. refl; none = refl; no_zero = refl; no_other = refl }
tail_ends false X rest = record { second = λ d. refl; none = refl; no_zero = refl; no_other = refl }

tail_told : (zero : Bool) (width : Option ℕ) (long : Bool) (letter : CLetter) (rest : List ℕ)
    → behind_width zero width (tail long letter rest)
    ≡ Some (Number (record { zero = zero; width = width; long = long; letter = letter }))
tail_told zero width true D rest = refl
tail_told zero width true U rest = refl
tail_told zero width true X rest = refl
tail_told zero width false D rest = refl
tail_told zero width false U rest = refl
tail_told zero width false X rest = refl

-- a width before such bytes is read as it is
record TellsWidth (width : Option ℕ) (bytes : List ℕ) : Type 0 where
  pub same : width_of bytes ≡ width
  pub no_zero : has_zero bytes ≡ false
  pub no_other : behind_percent bytes ≡ number_of bytes

is_first : (b : ℕ) → 49 ≤ b → b ≤ 57 → nat_le 49 b && nat_le b 57 ≡ true
is_first b low high = grind (arith, nat_tests)

is_second : (b : ℕ) → 48 ≤ b → b ≤ 57 → nat_le 48 b && nat_le b 57 ≡ true
is_second b low high = grind (arith, nat_tests)

not_byte : (b c : ℕ) → b < c ⊎ c < b → (b == c) ≡ false
not_byte b c h = grind (arith, nat_tests)

-- bytes that begin with a digit other than 0
begin_width : (b : ℕ) (more : List ℕ) (width : ℕ) → 49 ≤ b → b ≤ 57 → width_by (b - 48) more ≡ width
    → TellsWidth (Some width) (b ∷ more)
begin_width b more width low high e =
    record {
      same = ap (λ t. cond t (Some (width_by (b - 48) more)) None) (is_first b low high) ∙ ap (λ w. Some w) e;
      no_zero = not_byte b 48 (inr (omega arith));
      no_other =
          ap (λ t. cond t (Some Percent) (cond (b == 115) (Some Text) (cond (b == 99) (Some Character) (number_of (b ∷ more)))))
          (not_byte b 37 (inr (omega arith)))
          ∙ ap (λ t. cond t (Some Text) (cond (b == 99) (Some Character) (number_of (b ∷ more))))
          (not_byte b 115 (inl (omega arith)))
          ∙ ap (λ t. cond t (Some Character) (number_of (b ∷ more))) (not_byte b 99 (inl (omega arith)));
    }

one_told : (width : ℕ) (rest : List ℕ) → 1 ≤ width → width < 10 → EndsDigits rest
    → TellsWidth (Some width) (decimal width ++ rest)
one_told width rest low high ends =
    let value : 48 + width - 48 ≡ width = omega arith in
    rw (decimal_digit width high)
    (begin_width (48 + width) rest width (omega arith) (omega arith) (ends.second (48 + width - 48) ∙ value))

two_told : (width : ℕ) (rest : List ℕ) → 10 ≤ width → width ≤ 99
    → TellsWidth (Some width) (decimal width ++ rest)
two_told width rest low high =
    let tens : ℕ = 48 + width / 10 in
    let ones : ℕ = 48 + width % 10 in
    let value : (tens - 48) * 10 + (ones - 48) ≡ width = omega arith in
    let read : width_by (tens - 48) (ones ∷ rest) ≡ width =
    ap (λ t. cond t ((tens - 48) * 10 + (ones - 48)) (tens - 48)) (is_second ones (omega arith) (omega arith)) ∙ value in
    subst (TellsWidth (Some width)) (decimal_two width rest low (omega arith))
    (begin_width tens (ones ∷ rest) width (omega arith) (omega arith) read)

some_told : (width : ℕ) (rest : List ℕ) (size : (width < 10) ⊎ (10 ≤ width)) → IsWidth width → EndsDigits rest
    → TellsWidth (Some width) (decimal width ++ rest)
some_told width rest (inl small) is ends = one_told width rest is.0 small ends
some_told width rest (inr large) is ends = two_told width rest large is.1

width_told : (width : Option ℕ) (rest : List ℕ) → IfSome width IsWidth → EndsDigits rest
    → TellsWidth width (width_spelled width ++ rest)
width_told None rest is ends = record { same = ends.none; no_zero = ends.no_zero; no_other = ends.no_other }
width_told (Some width) rest is ends =
    let size : (width < 10) ⊎ (10 ≤ width) = search arith in some_told width rest size is ends

-- behind the flag
zero_told : (zero : Bool) (width : Option ℕ) (long : Bool) (letter : CLetter) (rest : List ℕ)
    → IfSome width IsWidth
    → behind_zero zero (width_spelled width ++ tail long letter rest)
    ≡ Some (Number (record { zero = zero; width = width; long = long; letter = letter }))
zero_told zero width long letter rest is =
    let told = width_told width (tail long letter rest) is (tail_ends long letter rest) in
    let mid : List ℕ = width_spelled width ++ tail long letter rest in
    ap (λ w. behind_width zero w (drop (length (width_spelled w)) mid)) told.same
    ∙ ap (behind_width zero width) (drop-append_seam (width_spelled width) (tail long letter rest))
    ∙ tail_told zero width long letter rest

number_told : (zero : Bool) (width : Option ℕ) (long : Bool) (letter : CLetter) (rest : List ℕ)
    → IfSome width IsWidth
    → behind_percent (zero_spelled zero ++ (width_spelled width ++ tail long letter rest))
    ≡ Some (Number (record { zero = zero; width = width; long = long; letter = letter }))
number_told true width long letter rest is = zero_told true width long letter rest is
number_told false width long letter rest is =
    let told = width_told width (tail long letter rest) is (tail_ends long letter rest) in
    let mid : List ℕ = width_spelled width ++ tail long letter rest in
    told.no_other
    ∙ ap (λ z. behind_zero z (drop (length (zero_spelled z)) mid)) told.no_zero
    ∙ zero_told false width long letter rest is

-- what stands behind a number's parts, with its parts apart
parts : (n : CNumber) (rest : List ℕ) → number_spelled n ++ rest
    ≡ zero_spelled n.zero ++ (width_spelled n.width ++ tail n.long n.letter rest)
parts n rest =
    append_assoc (zero_spelled n.zero) (width_spelled n.width ++ (long_spelled n.long ++ letter_spelled n.letter)) rest
    ∙ ap (λ r. zero_spelled n.zero ++ r)
    (append_assoc (width_spelled n.width) (long_spelled n.long ++ letter_spelled n.letter) rest)

pub told : IsTold first_of spelled IsPlain
told (Byte b) rest h = ap (λ t. cond t (behind_percent rest) (Some (Byte b))) (unequal b 37 h)
told Percent rest h = refl
told Text rest h = refl
told Character rest h = refl
told (Number n) rest h =
    ap behind_percent (parts n rest) ∙ number_told n.zero n.width n.long n.letter rest h

-- a number whose parts stand one behind the other
number_by-begins : (bytes : List ℕ) (zero : Bool) (width : Option ℕ) (long : Bool) (letter : Option CLetter)
    (behind_flag behind_digits behind_long : List ℕ) → bytes ≡ zero_spelled zero ++ behind_flag
    → IfSome width IsWidth → behind_flag ≡ width_spelled width ++ behind_digits
    → behind_digits ≡ long_spelled long ++ behind_long
    → IfSome letter (λ l. Fronts (letter_spelled l) behind_long)
    → IfSome (number_by zero width long letter) (Begins spelled IsPlain (37 ∷ bytes))
number_by-begins bytes zero width long None behind_flag behind_digits behind_long e is f g h = tt
number_by-begins bytes zero width long (Some l) behind_flag behind_digits behind_long e is f g h =
    let n : CNumber = record { zero = zero; width = width; long = long; letter = l } in
    let rest : List ℕ = drop (length (letter_spelled l)) behind_long in
    let whole : bytes ≡ number_spelled n ++ rest =
    e
    ∙ ap (λ r. zero_spelled zero ++ r)
    (f
    ∙ ap (λ r. width_spelled width ++ r)
    (g
    ∙ ap (λ r. long_spelled long ++ r) h
    ∙ sym (append_assoc (long_spelled long) (letter_spelled l) rest)))
    ∙ sym (parts n rest) in
    (is, (rest, ap (λ r. 37 ∷ r) whole))

number_begins : (bytes : List ℕ) → IfSome (number_of bytes) (Begins spelled IsPlain (37 ∷ bytes))
number_begins bytes =
    let zero = has_zero bytes in
    let behind_flag : List ℕ = drop (length (zero_spelled zero)) bytes in
    let width = width_of behind_flag in
    let behind_digits : List ℕ = drop (length (width_spelled width)) behind_flag in
    let long = has_long behind_digits in
    let behind_long : List ℕ = drop (length (long_spelled long)) behind_digits in
    number_by-begins bytes zero width long (first_letter behind_long) behind_flag behind_digits behind_long
    (zero-front bytes) (width-front behind_flag).0 (width-front behind_flag).1 (long-front behind_digits)
    (letter-front behind_long)

behind_by : (b : ℕ) (more : List ℕ) (percent text character : Bool) → (b == 37) ≡ percent → (b == 115) ≡ text
    → (b == 99) ≡ character
    → IfSome
    (cond percent (Some Percent) (cond text (Some Text) (cond character (Some Character) (number_of (b ∷ more)))))
    (Begins spelled IsPlain (37 ∷ b ∷ more))
behind_by b more true text character e f g = (tt, (more, ap (λ x. 37 ∷ x ∷ more) (eq_of b 37 e)))
behind_by b more false true character e f g = (tt, (more, ap (λ x. 37 ∷ x ∷ more) (eq_of b 115 f)))
behind_by b more false false true e f g = (tt, (more, ap (λ x. 37 ∷ x ∷ more) (eq_of b 99 g)))
behind_by b more false false false e f g = number_begins (b ∷ more)

behind_begins : (more : List ℕ) → IfSome (behind_percent more) (Begins spelled IsPlain (37 ∷ more))
behind_begins [] = tt
behind_begins (b ∷ more) = behind_by b more (b == 37) (b == 115) (b == 99) refl refl refl

first_by : (b : ℕ) (more : List ℕ) (percent : Bool) → (b == 37) ≡ percent
    → IfSome (cond percent (behind_percent more) (Some (Byte b))) (Begins spelled IsPlain (b ∷ more))
first_by b more true e = rw (eq_of b 37 e) (behind_begins more)
first_by b more false e = (differs b 37 e, (more, refl))

read_begins : (bytes : List ℕ) → IfSome (first_of bytes) (Begins spelled IsPlain bytes)
read_begins [] = tt
read_begins (b ∷ more) = first_by b more (b == 37) refl

pub begins : (bytes : List ℕ) (p : CPiece) → first_of bytes ≡ Some p → Begins spelled IsPlain bytes p
begins bytes p e = subst (λ o. IfSome o (Begins spelled IsPlain bytes)) e (read_begins bytes)

-- Pieces of a format of $display are told by their spellings.
use Rattle.std.proofs.Common.{◌≡◌, ℕ, Bool, true, false, cond, List, [], ◌∷◌, ◌++◌, Option, Some, None, IfSome, refl}
use Rattle.std.proofs.Common.{ap, sym, ◌∙◌, append_assoc, subst}
use Rattle.std.specs.Prelude.{◌==◌}
use Rattle.dpi_format.specs.declared.sv_piece.SvLetter.{SvLetter}
use Rattle.dpi_format.specs.declared.sv_piece.SvLetter.TheVariants.{B, D, H, X}
use Rattle.dpi_format.specs.declared.sv_piece.SvPiece.{SvPiece}
use Rattle.dpi_format.specs.declared.sv_piece.SvPiece.TheVariants.{Byte, Percent, Text, Number}
use Rattle.dpi_format.specs.SvFormat.{spelled, zero_spelled, letter_spelled, IsPlain}
use Rattle.dpi_format.specs.SvFirst.{letter_of, number_by, number_of, behind_percent, first_of}
use Rattle.dpi_format.proofs.Codes.{eq_of, unequal, differs, IsTold, Begins}

told_number : (zero : Bool) (letter : SvLetter) (rest : List ℕ)
    → behind_percent ((zero_spelled zero ++ letter_spelled letter) ++ rest)
    ≡ Some (Number (record { zero = zero; letter = letter }))
told_number true B rest = refl
told_number true D rest = refl
told_number true H rest = refl
told_number true X rest = refl
told_number false B rest = refl
told_number false D rest = refl
told_number false H rest = refl
told_number false X rest = refl

pub told : IsTold first_of spelled IsPlain
told (Byte b) rest h = ap (λ t. cond t (behind_percent rest) (Some (Byte b))) (unequal b 37 h)
told Percent rest h = refl
told Text rest h = refl
told (Number n) rest h = told_number n.zero n.letter rest

letter_by : (b : ℕ) (is_b is_d is_h is_x : Bool) → (b == 98) ≡ is_b → (b == 100) ≡ is_d → (b == 104) ≡ is_h
    → (b == 120) ≡ is_x
    → IfSome (cond is_b (Some B) (cond is_d (Some D) (cond is_h (Some H) (cond is_x (Some X) None))))
    (λ l. b ∷ [] ≡ letter_spelled l)
letter_by b true is_d is_h is_x e f g h = ap (λ x. x ∷ []) (eq_of b 98 e)
letter_by b false true is_h is_x e f g h = ap (λ x. x ∷ []) (eq_of b 100 f)
letter_by b false false true is_x e f g h = ap (λ x. x ∷ []) (eq_of b 104 g)
letter_by b false false false true e f g h = ap (λ x. x ∷ []) (eq_of b 120 h)
letter_by b false false false false e f g h = tt

number_begins : (zero : Bool) (b : ℕ) (more : List ℕ) (o : Option SvLetter)
    → IfSome o (λ l. b ∷ [] ≡ letter_spelled l)
    → IfSome (number_by zero o) (Begins spelled IsPlain (37 ∷ (zero_spelled zero ++ (b ∷ more))))
number_begins zero b more None h = tt
number_begins zero b more (Some l) h = (
  tt,
  (
    more,
    ap (λ t. 37 ∷ (zero_spelled zero ++ (t ++ more))) h
        ∙ ap (λ t. 37 ∷ t) (sym (append_assoc (zero_spelled zero) (letter_spelled l) more)),
  ),
)

letter_begins : (zero : Bool) (b : ℕ) (more : List ℕ)
    → IfSome (number_by zero (letter_of b)) (Begins spelled IsPlain (37 ∷ (zero_spelled zero ++ (b ∷ more))))
letter_begins zero b more =
    number_begins zero b more (letter_of b)
    (letter_by b (b == 98) (b == 100) (b == 104) (b == 120) refl refl refl refl)

zero_begins : (more : List ℕ) → IfSome (number_of true more) (Begins spelled IsPlain (37 ∷ 48 ∷ more))
zero_begins [] = tt
zero_begins (b ∷ more) = letter_begins true b more

behind_by : (b : ℕ) (more : List ℕ) (percent text zero : Bool) → (b == 37) ≡ percent → (b == 115) ≡ text
    → (b == 48) ≡ zero
    → IfSome
    (cond percent (Some Percent)
    (cond text (Some Text) (cond zero (number_of true more) (number_by false (letter_of b)))))
    (Begins spelled IsPlain (37 ∷ b ∷ more))
behind_by b more true text zero e f g = (tt, (more, ap (λ x. 37 ∷ x ∷ more) (eq_of b 37 e)))
behind_by b more false true zero e f g = (tt, (more, ap (λ x. 37 ∷ x ∷ more) (eq_of b 115 f)))
behind_by b more false false true e f g =
    rw (eq_of b 48 g) (zero_begins more)
behind_by b more false false false e f g = letter_begins false b more

behind_begins : (more : List ℕ) → IfSome (behind_percent more) (Begins spelled IsPlain (37 ∷ more))
behind_begins [] = tt
behind_begins (b ∷ more) = behind_by b more (b == 37) (b == 115) (b == 48) refl refl refl

first_by : (b : ℕ) (more : List ℕ) (percent : Bool) → (b == 37) ≡ percent
    → IfSome (cond percent (behind_percent more) (Some (Byte b))) (Begins spelled IsPlain (b ∷ more))
first_by b more true e = rw (eq_of b 37 e) (behind_begins more)
first_by b more false e = (differs b 37 e, (more, refl))

read_begins : (bytes : List ℕ) → IfSome (first_of bytes) (Begins spelled IsPlain bytes)
read_begins [] = tt
read_begins (b ∷ more) = first_by b more (b == 37) refl

pub begins : (bytes : List ℕ) (p : SvPiece) → first_of bytes ≡ Some p → Begins spelled IsPlain bytes p
begins bytes p e = subst (λ o. IfSome o (Begins spelled IsPlain bytes)) e (read_begins bytes)

use Rattle.std.proofs.Common.{◌≡◌, ℕ, Bool, true, false, ◌&&◌, List, [], ◌∷◌, length}
use Rattle.std.proofs.Common.{take, drop, None, refl, ap, arith}
use Rattle.std.specs.Prelude.{nat_eq, codes}
use Rattle.std.specs.List.{starts_with}
use Rattle.std.proofs.lemmas.Bool.Decides.{nat_tests}
use lib.Pointwise.{pointwise}
use Rattle.dpi_lex.specs.declared.form.Form.TheVariants.{Skipped}
use Rattle.dpi_lex.specs.C.{define_forms, hash_forms}
use Rattle.dpi_lex.specs.Define.{begins_define, define_form}
use Rattle.dpi_lex.specs.Shapes.{form_if, is_line_of}
use Rattle.dpi_lex.specs.Stretches.{longest_front, front_of, bad_byte}
use Rattle.dpi_lex.proofs.Classes.{option_or-none}
use Rattle.dpi_lex.proofs.DefineLemmas.{define_form-none, begins_define-none, begins_define-text}
use Rattle.dpi_lex.proofs.Fronts.{no_line_front}
use Rattle.dpi_lex.proofs.Longest.{longest_none, longest_same}

-- within a line a `#` begins nothing
pub front_of-hash_within : (rest : List ℕ) → front_of hash_forms false rest ≡ bad_byte
unfolding front_of
front_of-hash_within rest =
    longest_none (λ m. hash_forms false (take m rest) (drop m rest)) (length rest)
    (λ m some le. refl)

include_no_define : (rest : List ℕ) → starts_with nat_eq rest (codes "#include") ≡ true →
    starts_with nat_eq rest (codes "#define") ≡ false
include_no_define [] h = refl
include_no_define (a ∷ []) h = second_false (nat_eq 35 a)
  where
    second_false : (p : Bool) → (p && false) ≡ false
    second_false true = refl
    second_false false = refl
include_no_define (a ∷ b ∷ more) h =
    by_first (nat_eq 35 a) h
  where
    first_true : (p q : Bool) → (p && q) ≡ true → p ≡ true
    first_true true q h = refl
    first_true false q h = h

    differs : nat_eq 105 b ≡ true → nat_eq 100 b ≡ false
    differs h = grind (arith, nat_tests)

    by_first : (p : Bool) →
        (p && (nat_eq 105 b && pointwise nat_eq (codes "nclude") (take 6 more))) ≡ true →
        (p && (nat_eq 100 b && pointwise nat_eq (codes "efine") (take 5 more))) ≡ false
    by_first true h =
        ap (λ t. t && pointwise nat_eq (codes "efine") (take 5 more))
        (differs (first_true (nat_eq 105 b) (pointwise nat_eq (codes "nclude") (take 6 more))
        h))
    by_first false h = refl

-- a line that is included
pub front_of-include : (rest : List ℕ) → starts_with nat_eq rest (codes "#include") ≡ true →
    front_of hash_forms true rest ≡ longest_front
    (λ front. form_if (is_line_of (codes "#include") front) Skipped) rest
unfolding front_of
front_of-include rest include =
    let none : begins_define rest ≡ false =
    begins_define-text rest (include_no_define rest include) in
    longest_same (λ m. hash_forms true (take m rest) (drop m rest))
    (λ m. form_if (is_line_of (codes "#include") (take m rest)) Skipped) (length rest)
    (λ m some le. let without : define_form (take m rest) (drop m rest) ≡ None =
    define_form-none (take m rest) (drop m rest) (begins_define-none m rest none) in
    rw without (option_or-none (form_if (is_line_of (codes "#include") (take m rest)) Skipped)))

-- a define, or nothing
pub front_of-hash : (rest : List ℕ) → starts_with nat_eq rest (codes "#include") ≡ false →
    front_of hash_forms true rest ≡ front_of define_forms false rest
unfolding front_of
front_of-hash rest no_include =
    longest_same (λ m. hash_forms true (take m rest) (drop m rest))
    (λ m. define_form (take m rest) (drop m rest)) (length rest)
    (λ m some le. let without : form_if (is_line_of (codes "#include") (take m rest)) Skipped ≡
    None = ap (λ t. form_if t Skipped)
    (no_line_front true (codes "#include") rest m le no_include) in
    rw without (option_or-none (define_form (take m rest) (drop m rest))))

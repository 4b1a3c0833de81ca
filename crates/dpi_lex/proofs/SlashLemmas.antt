use Rattle.std.proofs.Common.{◌≡◌, ℕ, ◌-◌, ◌<◌, ◌≤◌, Bool, true, false, not, cond, ◌&&◌, zero, suc}
use Rattle.std.proofs.Common.{List, [], ◌∷◌, length, take, drop, get_or, Option, None, refl, ap}
use Rattle.std.proofs.Common.{sym, ◌∙◌, arith}
use Rattle.std.specs.Prelude.{nat_eq, codes}
use Rattle.std.specs.List.{list_all}
use Rattle.std.proofs.lemmas.Bool.Decides.{nat_tests}
use Rattle.dpi_lex.specs.declared.form.Form.{Form}
use Rattle.dpi_lex.specs.declared.form.Form.TheVariants.{Skipped, Whole, Faulty}
use Rattle.dpi_lex.specs.declared.form.Stretch.{Stretch}
use Rattle.dpi_lex.specs.declared.fault.LexFault.TheVariants.{Unclosed}
use Rattle.dpi_lex.specs.declared.token.Kind.TheVariants.{Sign}
use Rattle.dpi_lex.specs.Listed.{no_comments}
use Rattle.dpi_lex.specs.Place.{is_line_feed}
use Rattle.dpi_lex.specs.Shapes.{form_if, slash_form, is_line_of, holds_end, block_form}
use Rattle.dpi_lex.specs.Shapes.{is_listed}
use Rattle.dpi_lex.specs.Stretches.{longest_front}
use Rattle.dpi_lex.proofs.Classes.{option_or-none}
use Rattle.dpi_lex.proofs.Fronts.{is_listed-not}
use Rattle.dpi_lex.proofs.Longest.{longest_past, longest_same}

first_true : (p q : Bool) → (p && q) ≡ true → p ≡ true
first_true true q h = refl
first_true false q h = h

second_true : (p q : Bool) → (p && q) ≡ true → q ≡ true
second_true true q h = h
second_true false q h = cc

both_true : (p q : Bool) → p ≡ true → q ≡ true → (p && q) ≡ true
both_true p q x y = rw (x, y) refl

second_false : (p : Bool) → (p && false) ≡ false
second_false true = refl
second_false false = refl

-- a stretch that doesn't begin with two such bytes
not_line : (b : ℕ) (more : List ℕ) (j : ℕ) → nat_eq 47 (get_or more 0 0) ≡ false →
    form_if (is_line_of (codes "//") (b ∷ take j more)) Skipped ≡ None
not_line b more zero h =
    ap (λ t. form_if (t && list_all (λ c. not (is_line_feed c)) (b ∷ [])) Skipped)
    (second_false (nat_eq 47 b))
not_line b [] (suc j) h =
    ap (λ t. form_if (t && list_all (λ c. not (is_line_feed c)) (b ∷ [])) Skipped)
    (second_false (nat_eq 47 b))
not_line b (c ∷ more) (suc j) h =
    ap (λ t. form_if ((nat_eq 47 b && (t && true)) && list_all (λ c. not (is_line_feed c)) (b ∷ c
    ∷ take j more)) Skipped) h
    ∙ ap (λ t. form_if (t && list_all (λ c. not (is_line_feed c)) (b ∷ c ∷ take j more)) Skipped)
    (second_false (nat_eq 47 b))

abbrev block_rest : List ℕ → Bool → Option Form
block_rest bytes t =
    form_if (t && not (holds_end (take (length (drop 2 bytes) - 1) (drop 2 bytes))))
    (cond (holds_end (drop 2 bytes)) Skipped (Faulty (Unclosed 0)))

not_block : (b : ℕ) (more : List ℕ) (j : ℕ) → nat_eq 42 (get_or more 0 0) ≡ false →
    block_form (b ∷ take j more) ≡ None
not_block b more zero h = ap (block_rest (b ∷ [])) (second_false (nat_eq 47 b))
not_block b [] (suc j) h = ap (block_rest (b ∷ [])) (second_false (nat_eq 47 b))
not_block b (c ∷ more) (suc j) h =
    ap (λ t. block_rest (b ∷ c ∷ take j more) (nat_eq 47 b && (t && true))) h
    ∙ ap (block_rest (b ∷ c ∷ take j more)) (second_false (nat_eq 47 b))

slash_no_star : (c : ℕ) → nat_eq 47 c ≡ true → nat_eq 42 c ≡ false
slash_no_star c h = grind (arith, nat_tests)

star_no_slash : (c : ℕ) → nat_eq 42 c ≡ true → nat_eq 47 c ≡ false
star_no_slash c h = grind (arith, nat_tests)

-- a line comment
pub longest_front-slashes : (signs : List (List ℕ)) (rest : List ℕ) (s : Stretch) →
    no_comments signs ≡ true → nat_eq 47 (get_or rest 0 0) ≡ true →
    nat_eq 47 (get_or rest 1 0) ≡ true →
    s ≡ longest_front (λ front. form_if (is_line_of (codes "//") front) Skipped) rest → 1 < s.len →
    longest_front (slash_form signs) rest ≡ s
longest_front-slashes signs rest s apart first second is past =
    longest_past (λ m. form_if (is_line_of (codes "//") (take m rest)) Skipped)
    (λ m. slash_form signs (take m rest)) (length rest) 1 (omega arith) (rw is at past)
    (λ m lt le. each rest m first second lt le)
    ∙ sym is
  where
    each : (rest : List ℕ) (m : ℕ) → nat_eq 47 (get_or rest 0 0) ≡ true →
        nat_eq 47 (get_or rest 1 0) ≡ true → 1 < m → m ≤ length rest →
        slash_form signs (take m rest) ≡ form_if (is_line_of (codes "//") (take m rest)) Skipped
    each [] m first second lt le = absurd (omega arith)
    each (b ∷ []) m first second lt le = absurd (omega arith)
    each (b ∷ c ∷ more) zero first second lt le = absurd (omega arith)
    each (b ∷ c ∷ more) (suc zero) first second lt le = absurd (omega arith)
    each (b ∷ c ∷ more) (suc (suc j)) first second lt le =
        let block : block_form (b ∷ c ∷ take j more) ≡ None =
        not_block b (c ∷ more) (suc j) (slash_no_star c second) in
        let sign : form_if (is_listed signs (b ∷ c ∷ take j more)) (Whole Sign) ≡ None =
        ap (λ t. form_if t (Whole Sign))
        (is_listed-not (λ t. nat_eq 47 (get_or t 0 0) && nat_eq 47 (get_or t 1 0)) signs (b ∷ c
        ∷ take j more) (first_true _ _ apart)
        (both_true (nat_eq 47 b) (nat_eq 47 c) first second)) in
        rw (block, sign) (option_or-none
        (form_if (is_line_of (codes "//") (b ∷ c ∷ take j more)) Skipped))

-- a block comment
pub longest_front-slash_star : (signs : List (List ℕ)) (rest : List ℕ) (s : Stretch) →
    no_comments signs ≡ true → nat_eq 47 (get_or rest 0 0) ≡ true →
    nat_eq 42 (get_or rest 1 0) ≡ true → s ≡ longest_front block_form rest → 1 < s.len →
    longest_front (slash_form signs) rest ≡ s
longest_front-slash_star signs rest s apart first second is past =
    longest_past (λ m. block_form (take m rest)) (λ m. slash_form signs (take m rest)) (length rest)
    1 (omega arith) (rw is at past) (λ m lt le. each rest m first second lt le)
    ∙ sym is
  where
    each : (rest : List ℕ) (m : ℕ) → nat_eq 47 (get_or rest 0 0) ≡ true →
        nat_eq 42 (get_or rest 1 0) ≡ true → 1 < m → m ≤ length rest →
        slash_form signs (take m rest) ≡ block_form (take m rest)
    each [] m first second lt le = absurd (omega arith)
    each (b ∷ []) m first second lt le = absurd (omega arith)
    each (b ∷ c ∷ more) zero first second lt le = absurd (omega arith)
    each (b ∷ c ∷ more) (suc zero) first second lt le = absurd (omega arith)
    each (b ∷ c ∷ more) (suc (suc j)) first second lt le =
        let line : form_if (is_line_of (codes "//") (b ∷ c ∷ take j more)) Skipped ≡ None =
        not_line b (c ∷ more) (suc j) (star_no_slash c second) in
        let sign : form_if (is_listed signs (b ∷ c ∷ take j more)) (Whole Sign) ≡ None =
        ap (λ t. form_if t (Whole Sign))
        (is_listed-not (λ t. nat_eq 47 (get_or t 0 0) && nat_eq 42 (get_or t 1 0)) signs (b ∷ c
        ∷ take j more) (second_true _ _ apart)
        (both_true (nat_eq 47 b) (nat_eq 42 c) first second)) in
        rw (line, sign) (option_or-none (block_form (b ∷ c ∷ take j more)))

-- a sign
pub longest_front-slash : (signs : List (List ℕ)) (rest : List ℕ) →
    nat_eq 47 (get_or rest 1 0) ≡ false → nat_eq 42 (get_or rest 1 0) ≡ false →
    longest_front (slash_form signs) rest ≡ longest_front
    (λ front. form_if (is_listed signs front) (Whole Sign)) rest
longest_front-slash signs rest no_slash no_star =
    longest_same (λ m. slash_form signs (take m rest))
    (λ m. form_if (is_listed signs (take m rest)) (Whole Sign)) (length rest)
    (λ m some le. each rest m no_slash no_star some le)
  where
    each : (rest : List ℕ) (m : ℕ) → nat_eq 47 (get_or rest 1 0) ≡ false →
        nat_eq 42 (get_or rest 1 0) ≡ false → 0 < m → m ≤ length rest →
        slash_form signs (take m rest) ≡ form_if (is_listed signs (take m rest)) (Whole Sign)
    each [] m no_slash no_star some le = absurd (omega arith)
    each (b ∷ more) zero no_slash no_star some le = absurd (omega arith)
    each (b ∷ more) (suc j) no_slash no_star some le =
        let line : form_if (is_line_of (codes "//") (b ∷ take j more)) Skipped ≡ None =
        not_line b more j no_slash in
        let block : block_form (b ∷ take j more) ≡ None = not_block b more j no_star in
        rw (line, block) (option_or-none (form_if (is_listed signs (b ∷ take j more)) (Whole Sign)))

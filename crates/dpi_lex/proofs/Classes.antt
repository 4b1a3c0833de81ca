use Rattle.std.proofs.Common.{◌≡◌, ℕ, ◌<◌, ◌≤◌, ◌-◌, cond, not, Bool, true, false, ◌&&◌, ◌||◌, zero}
use Rattle.std.proofs.Common.{suc, List, [], ◌∷◌, length, take, drop, get_or, Option, Some, None}
use Rattle.std.proofs.Common.{refl, ap, arith}
use Rattle.std.specs.Prelude.{codes, nat_eq}
use Rattle.std.specs.Option.{option_or}
use Rattle.std.specs.List.{list_all}
use lib.Pointwise.{pointwise}
use Rattle.dpi_lex.specs.declared.fault.LexFault.TheVariants.{Unclosed}
use Rattle.dpi_lex.specs.declared.form.Form.{Form}
use Rattle.dpi_lex.specs.declared.form.Form.TheVariants.{Skipped, Whole, Faulty}
use Rattle.dpi_lex.specs.declared.token.Kind.TheVariants.{Word}
use Rattle.dpi_lex.specs.Bytes.{is_blank, is_name_start, is_quote}
use Rattle.dpi_lex.specs.Place.{is_line_feed}
use Rattle.dpi_lex.specs.Shapes.{form_if, is_space, is_line_of, holds_end, block_form, is_name}
use Rattle.dpi_lex.specs.Shapes.{is_body, ending_form, text_form}
use Rattle.dpi_lex.specs.Stretches.{Forms, front_of, longest_front}
use Rattle.dpi_lex.proofs.Longest.{longest_same}

-- the forms of a stretch, by those that begin like it
pub front_of-by : (forms : Forms) (begins : Bool) (form_of : List ℕ → Option Form) (rest : List ℕ) →
    0 < length rest → ((more after : List ℕ) →
    forms begins (get_or rest 0 0 ∷ more) after ≡ form_of (get_or rest 0 0 ∷ more)) →
    front_of forms begins rest ≡ longest_front form_of rest
unfolding front_of
front_of-by forms begins form_of [] some same = absurd (omega arith)
front_of-by forms begins form_of (b ∷ rest) some same =
    longest_same (λ n. forms begins (take n (b ∷ rest)) (drop n (b ∷ rest)))
    (λ n. form_of (take n (b ∷ rest))) (length (b ∷ rest)) (each rest same)
  where
    each : (rest : List ℕ) →
        ((more after : List ℕ) → forms begins (b ∷ more) after ≡ form_of (b ∷ more)) → (m : ℕ) →
        0 < m → m ≤ length (b ∷ rest) →
        forms begins (take m (b ∷ rest)) (drop m (b ∷ rest)) ≡ form_of (take m (b ∷ rest))
    each rest same zero some le = absurd (omega arith)
    each rest same (suc m) some le = same (take m rest) (drop m rest)

-- the stretch at the front, by the forms of those that begin like it
pub front_of-with : (forms others : Forms) (begins other : Bool) (rest : List ℕ) → 0 < length rest →
    ((more after : List ℕ) →
    forms begins (get_or rest 0 0 ∷ more) after ≡ others other (get_or rest 0 0 ∷ more) after) →
    front_of forms begins rest ≡ front_of others other rest
unfolding front_of
front_of-with forms others begins other [] some same = absurd (omega arith)
front_of-with forms others begins other (b ∷ rest) some same =
    longest_same (λ n. forms begins (take n (b ∷ rest)) (drop n (b ∷ rest)))
    (λ n. others other (take n (b ∷ rest)) (drop n (b ∷ rest))) (length (b ∷ rest))
    (each rest same)
  where
    each : (rest : List ℕ) →
        ((more after : List ℕ) → forms begins (b ∷ more) after ≡ others other (b ∷ more) after) →
        (m : ℕ) → 0 < m → m ≤ length (b ∷ rest) →
        forms begins (take m (b ∷ rest)) (drop m (b ∷ rest)) ≡ others other (take m (b ∷ rest))
        (drop m (b ∷ rest))
    each rest same zero some le = absurd (omega arith)
    each rest same (suc m) some le = same (take m rest) (drop m rest)

pub option_or-none : (o : Option Form) → option_or o None ≡ o
option_or-none None = refl
option_or-none (Some form) = refl

pub no_space : (b : ℕ) (more : List ℕ) → (is_blank b || is_line_feed b) ≡ false →
    form_if (is_space (b ∷ more)) Skipped ≡ None
no_space b [] h = ap (λ t. form_if t Skipped) h
no_space b (c ∷ more) h = refl

pub no_name : (goes_on : ℕ → Bool) (b : ℕ) (more : List ℕ) → is_name_start b ≡ false →
    form_if (is_name goes_on (b ∷ more)) (Whole Word) ≡ None
no_name goes_on b more h = ap (λ t. form_if (t && list_all goes_on more) (Whole Word)) h

pub no_text : (e : ℕ → Bool) (b : ℕ) (more : List ℕ) → is_quote b ≡ false →
    text_form e (b ∷ more) ≡ None
no_text e b more h =
    ap (λ t. cond (not t) None
    (cond (is_body e false more) (Some (Faulty (Unclosed 0)))
    (cond (is_body e false (take (length more - 1) more))
    (ending_form (length more) (get_or more (length more - 1) 0)) None))) h

pub no_line : (b : ℕ) (more : List ℕ) → nat_eq 47 b ≡ false →
    form_if (is_line_of (codes "//") (b ∷ more)) Skipped ≡ None
no_line b more h =
    ap (λ t. form_if ((t && pointwise nat_eq (47 ∷ []) (take 1 more)) && list_all
    (λ c. not (is_line_feed c)) (b ∷ more)) Skipped) h

pub no_block : (b : ℕ) (more : List ℕ) → nat_eq 47 b ≡ false → block_form (b ∷ more) ≡ None
no_block b more h =
    ap (λ t. form_if ((t && pointwise nat_eq (42 ∷ []) (take 1 more)) && not
    (holds_end (take (length (drop 1 more) - 1) (drop 1 more))))
    (cond (holds_end (drop 1 more)) Skipped (Faulty (Unclosed 0)))) h

pub no_line_at : (begins : Bool) (first : ℕ) (more_text : List ℕ) (b : ℕ) (more : List ℕ) →
    nat_eq first b ≡ false →
    form_if (begins && is_line_of (first ∷ more_text) (b ∷ more)) Skipped ≡ None
no_line_at false first more_text b more h = refl
no_line_at true first more_text b more h =
    ap (λ t. form_if ((t && pointwise nat_eq more_text (take (length more_text) more)) && list_all
    (λ c. not (is_line_feed c)) (b ∷ more)) Skipped) h

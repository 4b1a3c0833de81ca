-- Where tokens begin.
use Rattle.std.proofs.Common.{◌≡◌, ◌≤◌, ℕ, Bool, true, false, nat_lt, length, refl, ap, sym, ◌∙◌, arith}
use Rattle.std.specs.Prelude.{min}
use Rattle.std.proofs.lemmas.Bool.Decides.{nat_tests}
use Rattle.std.proofs.lemmas.Option.{slice_get_past}
use Rattle.std.specs.Option.{option_map_or}
use Rattle.dpi_lex.specs.Lexed.{Lexed}
use Rattle.dpi_lex.specs.Words.{place_of}
use Rattle.dpi_lex.specs.declared.token.Token.{Token}

-- each number past the last one stands for the end of the text
pub place_past : (l : Lexed) (i j : ℕ) → length l.tokens ≤ i → length l.tokens ≤ j → place_of l i ≡ place_of l j
place_past l i j past far =
    ap (λ o. option_map_or (λ (t : Token). t.start) o (length l.text)) (slice_get_past l.tokens i past ∙ sym (slice_get_past l.tokens j far))

pub place_within : (l : Lexed) (i : ℕ) → place_of l (min i (length l.tokens)) ≡ place_of l i
place_within l i = by (nat_lt i (length l.tokens)) refl
  where
    by : (b : Bool) → nat_lt i (length l.tokens) ≡ b → place_of l (min i (length l.tokens)) ≡ place_of l i
    by true near = let least : min i (length l.tokens) ≡ i = grind (arith, nat_tests) in ap (place_of l) least
    by false far =
        let past : length l.tokens ≤ i = grind (arith, nat_tests) in
        let least : min i (length l.tokens) ≡ length l.tokens = omega arith in
        ap (place_of l) least ∙ place_past l (length l.tokens) i (omega arith) past

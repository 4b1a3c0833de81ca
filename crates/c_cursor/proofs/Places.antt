-- The token of a number, and the words from there on.
use Rattle.std.proofs.Common.{◌≡◌, ℕ, zero, suc, ◌+◌, ◌≤◌, ◌<◌, Bool, List, [], ◌∷◌, drop, length, Option, Some, None, if◌then◌else◌, refl, sym, ap, ◌∙◌, arith}
use Rattle.std.specs.List.{slice_get}
use Rattle.std.specs.Prelude.{IsSomeAnd}
use Rattle.std.proofs.lemmas.Option.{slice_get_past}
use Rattle.std.proofs.lemmas.List.{length-map}
use Rattle.dpi_grammar.specs.Faults.{is_late, opener}
use Rattle.dpi_grammar.specs.Parser.{State, first, step, step_from}
use Rattle.dpi_lex.specs.Lexed.{Lexed}
use Rattle.dpi_lex.specs.Words.{Word, words_of}
use Rattle.dpi_lex.specs.declared.token.Kind.{Kind}
use Rattle.c_tree.specs.declared.class.Class.TheVariants as classes
use Rattle.c_tree.specs.Classes.{class_by, class_at, is_class, is}
use Rattle.c_cursor.specs.Places.{state_at}
use Rattle.c_cursor.specs.Reading.{late, bytes_at}

first_drop : {X : Type 0} (n : ℕ) (ws : List X) → first (drop n ws) ≡ slice_get ws n
first_drop zero [] = refl
first_drop zero (w ∷ ws) = refl
first_drop (suc n) [] = refl
first_drop (suc n) (w ∷ ws) = first_drop n ws

class_by_word : (o : Option Word) (k : Kind) (b : List ℕ) → IsSomeAnd o (λ w. w.kind ≡ k) → IsSomeAnd o (λ w. w.bytes ≡ b) → class_at o ≡ Some (class_by k b)
class_by_word None k b h g = absurd h
class_by_word (Some w) k b h g = ap (λ k. Some (class_by k w.bytes)) h ∙ ap (λ b. Some (class_by k b)) g

bytes_by_word : (o : Option Word) (b : List ℕ) → IsSomeAnd o (λ w. w.bytes ≡ b) → bytes_at o ≡ b
bytes_by_word None b g = absurd g
bytes_by_word (Some w) b g = g

-- the class of the token of a number, from its kind and its bytes
pub class_there : (l : Lexed) (n : ℕ) (k : Kind) (b : List ℕ) → IsSomeAnd (slice_get (words_of l) n) (λ w. w.kind ≡ k) → IsSomeAnd (slice_get (words_of l) n) (λ w. w.bytes ≡ b)
    → class_at (first (state_at l n).rest) ≡ Some (class_by k b)
class_there l n k b h g = ap class_at (first_drop n (words_of l)) ∙ class_by_word (slice_get (words_of l) n) k b h g

-- no token has that number
pub no_class : (l : Lexed) (n : ℕ) → length l.tokens ≤ n → class_at (first (state_at l n).rest) ≡ None
no_class l n past = ap class_at (first_drop n (words_of l) ∙ slice_get_past (words_of l) n (simp length-map past))

-- the bytes of the token of a number
pub bytes_there : (l : Lexed) (n : ℕ) (b : List ℕ) → IsSomeAnd (slice_get (words_of l) n) (λ w. w.bytes ≡ b) → bytes_at (first (state_at l n).rest) ≡ b
bytes_there l n b g = ap bytes_at (first_drop n (words_of l)) ∙ bytes_by_word (slice_get (words_of l) n) b g

step_drop : {X : Type 0} (k n : ℕ) (ws : List X) → n < length ws → step_from k (drop n ws) ≡ record { place = k + 1; rest = drop (suc n) ws }
step_drop k zero [] below = absurd (omega (arith, below))
step_drop k zero (w ∷ ws) below = refl
step_drop k (suc n) [] below = absurd (omega (arith, below))
step_drop k (suc n) (w ∷ ws) below = step_drop k n ws (omega (arith, below))

-- behind the token of a number stands the cursor before the next one
pub step_state : (l : Lexed) (n : ℕ) → n < length l.tokens → state_at l (n + 1) ≡ step (state_at l n)
step_state l n below =
    let more : n + 1 ≡ suc n = omega arith in
    ap (λ m. let s : State Word = record { place = n + 1; rest = drop m (words_of l) } in s) more ∙ sym (step_drop n n (words_of l) (simp length-map below))

late_by : (o : Option Word) → is_late late o ≡ is classes.OpenParen o
unfolding is_class
late_by None = refl
late_by (Some w) = refl

-- whether a token is known by the next one alone, from its class
pub late_there : (l : Lexed) (n : ℕ) → is_late late (slice_get (words_of l) n) ≡ is_class classes.OpenParen (class_at (first (state_at l n).rest))
late_there l n = late_by (slice_get (words_of l) n) ∙ ap (λ o. is classes.OpenParen o) (sym (first_drop n (words_of l)))

-- behind a token
pub opener_behind : {T : Type 0} (late : T → Bool) (ts : List T) (n m : ℕ) → n ≡ m + 1 → opener late ts n ≡ (if is_late late (slice_get ts m) then m else n)
opener_behind late ts n m e = let more : n ≡ suc m = omega (arith, e) in ap (λ k. opener late ts k) more ∙ ap (λ k. if is_late late (slice_get ts m) then m else k) (sym more)

-- Parsers that choose by the next token, or by the one behind it.
use Rattle.std.specs.Prelude.{ℕ, zero, suc, Bool, true, false, ◌⊎◌, List, [], ◌∷◌, ◌++◌, length, Option, Some, None, if◌then◌else◌}
use Rattle.std.proofs.Common.{inl, inr}
use Rattle.dpi_grammar.specs.Parser.{Parser, and_then, pure, ◌>>=◌, first, expect, level, refuse}

abbrev pub choose_by : {T A : Type 0} → Bool → Parser T A → Parser T A → Parser T A
choose_by true p q = p
choose_by false p q = q

-- the first where the next token passes the test, else the second
abbrev pub choose : {T A : Type 0} → (Option T → Bool) → Parser T A → Parser T A → Parser T A
choose begins p q = λ s. choose_by (begins (first s.rest)) p q s

-- ---- a token before one of two parts, which the token behind it tells apart

-- The first test is for the part that opens no level, the second for the one that does. The number is that of the token before them.
abbrev pub opened_by : {T E A : Type 0} → (ℕ → Parser T A) → (ℕ → E → Parser T A) → Option E → ℕ → Bool → Bool → Parser T A
opened_by flat deep inner k true b = flat k
opened_by flat deep inner k false true = level inner (deep k)
opened_by flat deep inner k false false = refuse

abbrev pub opened : {T E A : Type 0} → (Option T → Bool) → (Option T → Bool) → (Option T → Bool) → (ℕ → Parser T A) → (ℕ → E → Parser T A) → Option E → Parser T A
opened is begins_flat begins_deep flat deep inner = λ s. and_then (expect is s) (λ _ s1. opened_by flat deep inner s.place (begins_flat (first s1.rest)) (begins_deep (first s1.rest)) s1)

-- ---- parts up to the last one, which may be one of another sort

-- behind a part that isn't the last, or at the last one
abbrev pub lead : {T A V : Type 0} → (List A → Parser T (List A × V)) → List A → A ⊎ V → Parser T (List A × V)
lead next found (inl a) = next (found ++ a ∷ [])
lead next found (inr v) = pure (found, v)

-- Parts for as long as one begins, of which one may be the last, and else a last one of the other sort. The number bounds the turns.
unfoldable pub leading_from : {T A V : Type 0} → (Option T → Bool) → Parser T (A ⊎ V) → Parser T V → ℕ → List A → Parser T (List A × V)
leading_from begins part ending zero found = ending >>= (λ v. pure (found, v))
leading_from begins part ending (suc n) found = λ s. if begins (first s.rest) then and_then (part s) (lead (leading_from begins part ending n) found) else and_then (ending s) (λ v. pure (found, v))

abbrev pub leading : {T A V : Type 0} → (Option T → Bool) → Parser T (A ⊎ V) → Parser T V → Parser T (List A × V)
leading begins part ending = λ s. leading_from begins part ending (length s.rest) [] s

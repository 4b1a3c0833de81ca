-- Parsers of token lists, as functions.
use Rattle.std.proofs.Common.{inl, inr}
use Rattle.std.specs.Prelude.{◌≡◌, ◌≢◌, ◌⊎◌, ℕ, zero, suc, ◌+◌, Bool, true, false, List, [], ◌∷◌, ◌++◌, length, Option, Some, None, Result, Ok, Err, if◌then◌else◌}
use Rattle.dpi_grammar.specs.declared.stop.Stop.{Stop}
use Rattle.dpi_grammar.specs.declared.stop.Stop.TheVariants.{Memory, Syntax, TooDeep}

-- the tokens that are not read yet, and the number of the first of them
pub record State (T : Type 0) : Type 0 where
  pub place : ℕ
  pub rest : List T

-- what was read, and where the parser stands then
abbrev pub Outcome : Type 0 → Type 0 → Type 0
Outcome T A = Result (A × State T) Stop

abbrev pub Parser : Type 0 → Type 0 → Type 0
Parser T A = State T → Outcome T A

abbrev pub and_then : {T A B : Type 0} → Outcome T A → (A → Parser T B) → Outcome T B
and_then (Ok p) f = f p.0 p.1
and_then (Err e) f = Err e

infixl 10 ◌>>=◌
abbrev pub ◌>>=◌ : {T A B : Type 0} → Parser T A → (A → Parser T B) → Parser T B
p >>= f = λ s. and_then (p s) f

infixl 10 ◌>>◌
abbrev pub ◌>>◌ : {T A B : Type 0} → Parser T A → Parser T B → Parser T B
p >> q = p >>= (λ _. q)

abbrev pub pure : {T A : Type 0} → A → Parser T A
pure a = λ s. Ok (a, s)

infixr 11 ◌<$>◌
abbrev pub ◌<$>◌ : {T A B : Type 0} → (A → B) → Parser T A → Parser T B
f <$> p = p >>= (λ x. pure (f x))

-- the first token, or nothing at the end
abbrev pub first : {T : Type 0} → List T → Option T
first [] = None
first (t ∷ ts) = Some t

-- behind the first token; the end stays the end
abbrev pub step_from : {T : Type 0} → ℕ → List T → State T
step_from n [] = record { place = n; rest = [] }
step_from n (t ∷ ts) = record { place = n + 1; rest = ts }

abbrev pub step : {T : Type 0} → State T → State T
step s = step_from s.place s.rest

abbrev pub is_there : {A : Type 0} → Option A → Bool
is_there (Some x) = true
is_there None = false

-- the number of the next token
abbrev pub here : {T : Type 0} → Parser T ℕ
here = λ s. Ok (s.place, s)

-- the next token
abbrev pub peek : {T : Type 0} → Parser T (Option T)
peek = λ s. Ok (first s.rest, s)

abbrev pub refuse : {T A : Type 0} → Parser T A
refuse = λ s. Err (Syntax s.place)

abbrev pub too_deep : {T A : Type 0} → Parser T A
too_deep = λ s. Err (TooDeep s.place)

abbrev pub skip_if : {T : Type 0} → Bool → Parser T (Unit {0})
skip_if b = λ s. if b then Ok (tt, step s) else Err (Syntax s.place)

-- a token of this kind
abbrev pub expect : {T : Type 0} → (Option T → Bool) → Parser T (Unit {0})
expect is = λ s. skip_if (is (first s.rest)) s

abbrev pub taken : {T A : Type 0} → Option A → Parser T A
taken (Some x) = λ s. Ok (x, step s)
taken None = refuse

-- a token that stands for a value
abbrev pub token : {T A : Type 0} → (Option T → Option A) → Parser T A
token of = λ s. taken (of (first s.rest)) s

-- nothing is left
abbrev pub finish : {T A : Type 0} → A → Parser T A
finish a = λ s. if is_there (first s.rest) then Err (Syntax s.place) else Ok (a, s)

-- one level further in, where there is one left
abbrev pub level : {T E A : Type 0} → Option E → (E → Parser T A) → Parser T A
level None body = too_deep
level (Some e) body = body e

abbrev pub optional_by : {T A : Type 0} → Bool → Parser T A → Parser T (Option A)
optional_by true p = Some <$> p
optional_by false p = pure None

-- a part that is there where it begins
abbrev pub optional : {T A : Type 0} → (Option T → Bool) → Parser T A → Parser T (Option A)
optional begins p = λ s. optional_by (begins (first s.rest)) p s

-- Items for as long as one begins. The number bounds the turns, and each turn takes a token, so the count of tokens is enough.
unfoldable pub many_from : {T A : Type 0} → (Option T → Bool) → Parser T A → ℕ → List A → Parser T (List A)
many_from begins item zero found = pure found
many_from begins item (suc n) found = λ s. if begins (first s.rest) then and_then (item s) (λ x. many_from begins item n (found ++ x ∷ [])) else Ok (found, s)

-- the same, behind those found so far
abbrev pub more : {T A : Type 0} → (Option T → Bool) → Parser T A → List A → Parser T (List A)
more begins item found = λ s. many_from begins item (length s.rest) found s

-- What a function that parses ensures: the parser's outcome, unless memory runs out.
abbrev pub Reads : {T A : Type 0} → Outcome T A → Result A Stop → State T → Type 0
Reads outcome (Ok a) new = outcome ≡ Ok (a, new)
Reads outcome (Err e) new = e ≢ Memory → outcome ≡ Err e

-- ---- lists with separators

abbrev pub or_empty : {A : Type 0} → Option (List A) → List A
or_empty None = []
or_empty (Some xs) = xs

-- at least one, with separators between them
abbrev pub separated : {T A : Type 0} → (Option T → Bool) → Parser T A → Parser T (List A)
separated is p = p >>= λ x. more is (expect is >> p) (x ∷ [])

-- the same, or none where none begins
abbrev pub listed : {T A : Type 0} → (Option T → Bool) → (Option T → Bool) → Parser T A → Parser T (List A)
listed begins is p = or_empty <$> optional begins (separated is p)

-- ---- parts up to one that is the last

-- behind a part that isn't the last, or at the last one
abbrev pub go_on : {T A B : Type 0} → (List A → Parser T (List A × Option B)) → List A → A ⊎ B → Parser T (List A × Option B)
go_on next found (inl a) = next (found ++ a ∷ [])
go_on next found (inr b) = pure (found, Some b)

-- Parts for as long as one begins, up to one that is the last. The number bounds the turns, as above.
unfoldable pub branches_from : {T A B : Type 0} → (Option T → Bool) → Parser T (A ⊎ B) → ℕ → List A → Parser T (List A × Option B)
branches_from begins part zero found = pure (found, None)
branches_from begins part (suc n) found = λ s. if begins (first s.rest) then and_then (part s) (go_on (branches_from begins part n) found) else Ok ((found, None), s)

abbrev pub branches : {T A B : Type 0} → (Option T → Bool) → Parser T (A ⊎ B) → Parser T (List A × Option B)
branches begins part = λ s. branches_from begins part (length s.rest) [] s

-- Which tokens can go on to a tree, and which token is refused. Nothing here knows of a parser.
use Rattle.std.specs.Prelude.{◌≡◌, ℕ, zero, suc, ◌+◌, ◌≤◌, Bool, false, List, [], ◌∷◌, ◌++◌, map, take, slice_get, Option, Some, None, if◌then◌else◌}
use Rattle.dpi_grammar.specs.Told.{Told, words_in, IsRight}

-- the end counts as a token
abbrev pub with_end : {T : Type 0} → List T → List (Option T)
with_end ts = map Some ts ++ None ∷ []

-- the whole list begins with what was seen
abbrev pub Begins : {A : Type 0} → List A → List A → Type 0
Begins seen whole = (more : List _) × (whole ≡ seen ++ more)

-- a token that is known for what it is by the next one alone
abbrev pub is_late : {T : Type 0} → (T → Bool) → Option T → Bool
is_late late None = false
is_late late (Some t) = late t

-- The token that opens the level that shows at this one: the token before it, where that is one that is known for what it is by the
-- next token alone, else this one.
abbrev pub opener : {T : Type 0} → (T → Bool) → List T → ℕ → ℕ
opener late ts zero = zero
opener late ts (suc n) = if is_late late (slice_get ts n) then n else suc n

module _ {T X : Type 0} (told : X → Told T) where
  -- the tokens of a tree
  abbrev pub tokens_of : X → List T
  tokens_of x = words_in (told x).atoms

  -- its numbers are right, and it keeps the conditions of the grammar
  abbrev pub IsTree : X → Type 0
  IsTree x = IsRight 0 (told x).atoms

  -- a tree of few levels
  abbrev pub IsShallow : ℕ → X → Type 0
  IsShallow limit x = IsTree x × ((told x).levels ≤ limit)

  -- one of these trees begins with these tokens
  abbrev pub IsViable : (X → Type 0) → List (Option T) → Type 0
  IsViable Is seen = (x : X) × Is x × Begins seen (with_end (tokens_of x))

  -- a token list has at most one tree
  abbrev pub IsUnambiguous : Type 0
  IsUnambiguous = (x y : X) → IsTree x → IsTree y → tokens_of x ≡ tokens_of y → x ≡ y

  -- these tokens are this tree's, which has few levels, and no other tree's
  pub record IsParsed (limit : ℕ) (ts : List T) (x : X) : Type 0 where
    pub tree : IsTree x
    pub shallow : (told x).levels ≤ limit
    pub tokens : tokens_of x ≡ ts
    pub only : (y : X) → IsTree y → tokens_of y ≡ ts → y ≡ x

  -- the tokens before this one begin a tree of few levels, and no tree goes on with it
  pub record IsRefused (limit : ℕ) (ts : List T) (at : ℕ) : Type 0 where
    pub before : IsViable (IsShallow limit) (take at (with_end ts))
    pub refused : IsViable IsTree (take (at + 1) (with_end ts)) → ⊥

  -- the tokens before this one begin a tree of few levels, and only trees of more levels go on with it
  pub record IsTooMuch (limit : ℕ) (ts : List T) (at : ℕ) : Type 0 where
    pub before : IsViable (IsShallow limit) (take at (with_end ts))
    pub deeper : IsViable IsTree (take (at + 1) (with_end ts))
    pub refused : IsViable (IsShallow limit) (take (at + 1) (with_end ts)) → ⊥

  -- only trees of too many levels go on with some token, and this is the one that opens the first of these levels
  pub record IsTooDeep (late : T → Bool) (limit : ℕ) (ts : List T) (at : ℕ) : Type 0 where
    pub shows : ℕ
    pub too_much : IsTooMuch limit ts shows
    pub opens : at ≡ opener late ts shows

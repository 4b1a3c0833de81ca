-- What a tree tells, in the order of its parts: its words, the numbers that it notes, and what it must keep.
use Rattle.std.specs.Prelude.{◌≡◌, ℕ, ◌+◌, max, Bool, true, false, not, List, [], ◌∷◌, ◌++◌, Option, Some, None}

-- a word; the number of the next word; or a condition of the grammar
pub data Atom (T : Type 0) : Type 0 where
  says : T → Atom T
  notes : ℕ → Atom T
  must : Bool → Atom T

-- the words among the atoms
abbrev pub words_in : {T : Type 0} → List (Atom T) → List T
words_in [] = []
words_in (says t ∷ more) = t ∷ words_in more
words_in (notes k ∷ more) = words_in more
words_in (must b ∷ more) = words_in more

-- each number is that of the next word, where the first word has the number n, and each condition holds
abbrev pub IsRight : {T : Type 0} → ℕ → List (Atom T) → Type 0
IsRight n [] = Unit {0}
IsRight n (says t ∷ more) = IsRight (n + 1) more
IsRight n (notes k ∷ more) = (k ≡ n) × IsRight n more
IsRight n (must b ∷ more) = (b ≡ true) × IsRight n more

-- the atoms of a tree, its levels, and whether it ends in an `if` without an `else`
pub record Told (T : Type 0) : Type 0 where
  pub atoms : List (Atom T)
  pub levels : ℕ
  pub unended : Bool

-- one part, and then another
infixr 12 ◌&◌
abbrev pub ◌&◌ : {T : Type 0} → Told T → Told T → Told T
a & b = record { atoms = a.atoms ++ b.atoms; levels = max a.levels b.levels; unended = b.unended }

abbrev pub atom : {T : Type 0} → Atom T → Told T
atom a = record { atoms = a ∷ []; levels = 0; unended = false }

-- a word
abbrev pub word : {T : Type 0} → T → Told T
word t = atom (says t)

-- the number of the next word
abbrev pub noted : {T : Type 0} → ℕ → Told T
noted k = atom (notes k)

-- a condition
abbrev pub kept : {T : Type 0} → Bool → Told T
kept b = atom (must b)

-- no part
abbrev pub nothing : {T : Type 0} → Told T
nothing = record { atoms = []; levels = 0; unended = false }

-- a part that counts more a level
abbrev pub deeper : {T : Type 0} → Told T → Told T
deeper a = record { atoms = a.atoms; levels = a.levels + 1; unended = a.unended }

-- a part that an `else` can't go on with, or that can
abbrev pub ended : {T : Type 0} → Bool → Told T → Told T
ended b a = record { atoms = a.atoms; levels = a.levels; unended = b }

-- parts one after another
abbrev pub each : {T : Type 0} → List (Told T) → Told T
each [] = nothing
each (a ∷ more) = a & each more

-- a part that may be absent
abbrev pub maybe : {T : Type 0} → Option (Told T) → Told T
maybe None = nothing
maybe (Some a) = a

-- parts, each behind a separator
abbrev pub behind_each : {T : Type 0} → T → List (Told T) → Told T
behind_each t [] = nothing
behind_each t (a ∷ more) = (word t & a) & behind_each t more

-- parts with separators between them
abbrev pub between : {T : Type 0} → T → List (Told T) → Told T
between t [] = nothing
between t (a ∷ more) = a & behind_each t more

-- at least one part, with separators between them
abbrev pub some_between : {T : Type 0} → T → List (Told T) → Told T
some_between t [] = kept false
some_between t (a ∷ more) = a & behind_each t more

-- The parts behind an `if` and its statement, each from its `else` on, and the last one. The first argument says whether what
-- stands before ends in an `if` without an `else`: no `else` follows such a statement.
abbrev pub elses : {T : Type 0} → Bool → List (Told T) → Option (Told T) → Told T
elses before [] None = ended true nothing
elses before [] (Some s) = kept (not before) & s
elses before (p ∷ ps) last = kept (not before) & p & elses p.unended ps last

-- Parts that are told how many entries of another list stand before them.
use Rattle.std.specs.Prelude.{ℕ, ◌+◌, List, [], ◌∷◌, ◌++◌, length}

-- what each part holds, told how many entries come before it: so many at the first, and then what each part adds
abbrev pub counted : {X A B : Type 0} → (X → List A) → (ℕ → X → List B) → ℕ → List X → List B
counted adds holds n [] = []
counted adds holds n (x ∷ xs) = holds n x ++ counted adds holds (n + length (adds x)) xs

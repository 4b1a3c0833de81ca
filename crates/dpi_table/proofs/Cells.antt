-- Cells, and values that are added one after another.
use Rattle.std.proofs.Common.{◌≡◌, ℕ, zero, suc, ◌+◌, ◌<◌, ◌++◌, List, [], ◌∷◌, length, drop, get_or, Option, Some, None, refl, sym, ap, ◌∙◌, add-one}
use Rattle.std.specs.Option.{option_or}
use Rattle.std.proofs.Math.Seq.{drop-cons}
use Rattle.dpi_table.specs.Tables.{Values, held}

-- functions that agree on each token
pub same_values : {A : Type 0} (v w : Values A) → ((token : ℕ) → v token ≡ w token) → v ≡ w
same_values v w h = λ i token. h token i

push_none_at : {A : Type 0} (cs : List (Option A)) (token : ℕ) → held (cs ++ None ∷ []) token ≡ held cs token
push_none_at [] zero = refl
push_none_at [] (suc token) = refl
push_none_at (c ∷ cs) zero = refl
push_none_at (c ∷ cs) (suc token) = push_none_at cs token

-- an empty cell more holds nothing
pub push_none : {A : Type 0} (cs : List (Option A)) → held (cs ++ None ∷ []) ≡ held cs
push_none cs = same_values (held (cs ++ None ∷ [])) (held cs) (push_none_at cs)

-- the first of three
pub option_or-assoc : {A : Type 0} (a b c : Option A) → option_or (option_or a b) c ≡ option_or a (option_or b c)
option_or-assoc None b c = refl
option_or-assoc (Some x) b c = refl

-- the first of one
pub option_or-none : {A : Type 0} (a : Option A) → option_or a None ≡ a
option_or-none None = refl
option_or-none (Some x) = refl

-- an item that is read, before those behind it
pub rest_read : {X : Type 0} (xs : List X) (i : ℕ) (d : X) → i < length xs → drop i xs ≡ get_or xs i d ∷ drop (i + 1) xs
rest_read xs i d h = rw add-one (drop-cons xs i d h)

pub rest_of : {X : Type 0} (xs : List X) (i : ℕ) (x : X) → i < length xs → x ≡ get_or xs i x → drop i xs ≡ x ∷ drop (i + 1) xs
rest_of xs i x h e = rest_read xs i x h ∙ ap (λ y. y ∷ drop (i + 1) xs) (sym e)

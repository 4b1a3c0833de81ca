-- One list begins as another up to a place, and goes on there with the same token; and what two parts tell, one after another.
use Rattle.std.proofs.Common.{◌≡◌, ℕ, ◌+◌, Bool, true, false, List, [], ◌∷◌, ◌++◌, length, Some, refl, sym, ap, ◌∙◌, subst, arith}
use Rattle.dpi_grammar.specs.Told.{Atom, says, notes, must, words_in, IsRight}
use Rattle.dpi_grammar.specs.Parser.{first, step_from}

-- us begins as seen, and goes on with the token that rest begins with, or ends where rest is empty
abbrev pub Agrees : {T : Type 0} → List T → List T → List T → Type 0
Agrees us [] rest = first us ≡ first rest
Agrees [] (s ∷ seen) rest = ⊥
Agrees (u ∷ us) (s ∷ seen) rest = (u ≡ s) × Agrees us seen rest

-- the same up to an earlier place
pub earlier : {T : Type 0} (us a b c : List T) → Agrees us (a ++ b) c → Agrees us a (b ++ c)
earlier us [] [] c h = h
earlier [] [] (t ∷ b) c h = absurd h
earlier (u ∷ us) [] (t ∷ b) c h = ap Some h.0
earlier [] (s ∷ a) b c h = absurd h
earlier (u ∷ us) (s ∷ a) b c h = (h.0, earlier us a b c h.1)

-- the same after a common front
pub later : {T : Type 0} (a us seen rest : List T) → Agrees (a ++ us) (a ++ seen) rest → Agrees us seen rest
later [] us seen rest h = h
later (x ∷ a) us seen rest h = later a us seen rest h.1

-- the same behind a common front
pub sooner : {T : Type 0} (a us seen rest : List T) → Agrees us seen rest → Agrees (a ++ us) (a ++ seen) rest
sooner [] us seen rest h = h
sooner (x ∷ a) us seen rest h = (refl, sooner a us seen rest h)

pub begins_alike : {T : Type 0} (us seen rest : List T) → Agrees us seen rest → first us ≡ first (seen ++ rest)
begins_alike us [] rest h = h
begins_alike [] (s ∷ seen) rest h = absurd h
begins_alike (u ∷ us) (s ∷ seen) rest h = ap Some h.0

pub agrees_self : {T : Type 0} (a b c : List T) → first b ≡ first c → Agrees (a ++ b) a c
agrees_self [] b c e = e
agrees_self (x ∷ a) b c e = (refl, agrees_self a b c e)

pub split_first : {T : Type 0} (n : ℕ) (ts : List T) (t : T) → first ts ≡ Some t → ts ≡ t ∷ (step_from n ts).rest
split_first n [] t e = absurd (cc)
split_first n (u ∷ ts) t e = let same : u ≡ t = cc in ap (λ t. t ∷ ts) same

pub step_place : {T : Type 0} (n : ℕ) (ts : List T) (t : T) → first ts ≡ Some t → (step_from n ts).place ≡ n + 1
step_place n [] t e = absurd (cc)
step_place n (u ∷ ts) t e = refl

pub true_not_false : {A : Type 0} (b : Bool) → b ≡ true → b ≡ false → A
true_not_false b p q = let e : true ≡ false = sym p ∙ q in absurd (cc)

-- ---- what two parts tell

pub words_append : {T : Type 0} (a b : List (Atom T)) → words_in (a ++ b) ≡ words_in a ++ words_in b
words_append [] b = refl
words_append (says t ∷ a) b = ap (λ ws. t ∷ ws) (words_append a b)
words_append (notes k ∷ a) b = words_append a b
words_append (must c ∷ a) b = words_append a b

-- m is the number of the word behind those of a
pub right_split : {T : Type 0} (n m : ℕ) (a b : List (Atom T)) → m ≡ n + length (words_in a) → IsRight n (a ++ b) → IsRight n a × IsRight m b
right_split n m [] b e h = let same : n ≡ m = omega (arith, e) in (tt, subst (λ k. IsRight k b) same h)
right_split n m (says t ∷ a) b e h = right_split (n + 1) m a b (omega (arith, e)) h
right_split n m (notes k ∷ a) b e h = let r = right_split n m a b e h.1 in ((h.0, r.0), r.1)
right_split n m (must c ∷ a) b e h = let r = right_split n m a b e h.1 in ((h.0, r.0), r.1)

pub right_join : {T : Type 0} (n m : ℕ) (a b : List (Atom T)) → m ≡ n + length (words_in a) → IsRight n a → IsRight m b → IsRight n (a ++ b)
right_join n m [] b e h g = let same : m ≡ n = omega (arith, e) in subst (λ k. IsRight k b) same g
right_join n m (says t ∷ a) b e h g = right_join (n + 1) m a b (omega (arith, e)) h g
right_join n m (notes k ∷ a) b e h g = (h.0, right_join n m a b e h.1 g)
right_join n m (must c ∷ a) b e h g = (h.0, right_join n m a b e h.1 g)

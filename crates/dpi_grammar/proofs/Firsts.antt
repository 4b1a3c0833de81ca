-- First tokens: tests that no token passes together, and tests that each tree's first token passes.
use Rattle.std.proofs.Common.{◌≡◌, ℕ, Bool, true, false, not, ◌||◌, List, [], ◌∷◌, ◌++◌, map, Option, Some, None, refl}
use Rattle.dpi_grammar.specs.Parser.{Parser, first}
use Rattle.dpi_grammar.proofs.Lists.{true_not_false}
use Rattle.dpi_grammar.proofs.Exact.{Kind, words}
use Rattle.dpi_grammar.proofs.Rules.{Rule}
use Rattle.dpi_grammar.proofs.Many.{Starts, Apart, ends, list, option_grabs, commas_grabs, list_grabs, or_both}

-- each token that passes the one passes the other
abbrev pub Within : {T : Type 0} → (Option T → Bool) → (Option T → Bool) → Type 0
Within a b = (t : Option _) → a t ≡ true → b t ≡ true

not_both : (a b : Bool) → (a ≡ true → b ≡ false) → b ≡ true → a ≡ false
not_both true b h e = true_not_false b e (h refl)
not_both false b h e = refl

-- the same the other way round
pub apart_back : {T : Type 0} (a b : Option T → Bool) → Apart a b → Apart b a
apart_back a b apart t e = not_both (a t) (b t) (apart t) e

-- apart from a test that fewer tokens pass
pub apart_within : {T : Type 0} (a b c : Option T → Bool) → Within c b → Apart a b → Apart a c
apart_within a b c within apart = apart_back c a (λ t e. apart_back a b apart t (within t e))

-- a test that fewer tokens pass, apart
pub within_apart : {T : Type 0} (a b c : Option T → Bool) → Within a b → Apart b c → Apart a c
within_apart a b c within apart t e = apart t (within t e)

pub apart_or : {T : Type 0} (a b c : Option T → Bool) → Apart a b → Apart a c → Apart a (λ t. b t || c t)
apart_or a b c p q t e = or_both (b t) (c t) (p t e) (q t e)

either : (a b : Bool) (P : Type 0) → (a ≡ true → P) → (b ≡ true → P) → (a || b) ≡ true → P
either true b P p q e = p refl
either false b P p q e = q e

pub or_apart : {T : Type 0} (a b c : Option T → Bool) → Apart a c → Apart b c → Apart (λ t. a t || b t) c
or_apart a b c p q t e = either (a t) (b t) (c t ≡ false) (p t) (q t) e

pub or_within : {T : Type 0} (a b c : Option T → Bool) → Within a c → Within b c → Within (λ t. a t || b t) c
or_within a b c p q t e = either (a t) (b t) (c t ≡ true) (p t) (q t) e

pub in_left : (a b : Bool) → a ≡ true → (a || b) ≡ true
in_left true b e = refl
in_left false b e = let bad : false ≡ true = e in absurd (cc)

pub in_right : (a b : Bool) → b ≡ true → (a || b) ≡ true
in_right true b e = refl
in_right false b e = e

-- ---- lists

pub ends_apart : {T X : Type 0} (a prior : Option T → Bool) (grabs : X → Option T → Bool) → Apart a prior → ((x : X) → Apart a (grabs x)) → (xs : List X) → Apart a (ends prior (map grabs xs))
ends_apart a prior grabs apart each [] t e = apart t e
ends_apart a prior grabs apart each (x ∷ xs) t e = ends_apart a (grabs x) grabs (each x) each xs t e

-- what a list goes on with
pub list_apart : {T X : Type 0} (a begins prior : Option T → Bool) (K : Kind T X) → Apart a begins → Apart a prior → ((x : X) → Apart a (K.grabs x)) → (xs : List X) → Apart a ((list begins K prior).grabs xs)
list_apart a begins prior K first_apart apart each xs = apart_or a begins (ends prior (map K.grabs xs)) first_apart (ends_apart a prior K.grabs apart each xs)

pub option_apart : {T X : Type 0} (a begins prior : Option T → Bool) (K : Kind T X) → Apart a begins → Apart a prior → ((x : X) → Apart a (K.grabs x)) → (o : Option X) → Apart a (option_grabs begins K prior o)
option_apart a begins prior K first_apart apart each None = apart_or a begins prior first_apart apart
option_apart a begins prior K first_apart apart each (Some x) = each x

-- what a list with separators goes on with
pub commas_apart : {T X : Type 0} (a is : Option T → Bool) (t : T) (K : Kind T X) → Apart a is → ((x : X) → Apart a (K.grabs x)) → (xs : List X) → Apart a (commas_grabs is t K xs)
commas_apart a is t K first_apart each [] = λ u e. refl
commas_apart a is t K first_apart each (x ∷ xs) = apart_or a is (ends (K.grabs x) (map K.grabs xs)) first_apart (ends_apart a (K.grabs x) K.grabs (each x) each xs)

pub a_list_apart : {T X : Type 0} (a begins is prior : Option T → Bool) (t : T) (K : Kind T X) → Apart a begins → Apart a prior → Apart a is → ((x : X) → Apart a (K.grabs x)) → (xs : List X) → Apart a (list_grabs begins is t K prior xs)
a_list_apart a begins is prior t K first_apart apart comma_apart each [] = apart_or a begins prior first_apart apart
a_list_apart a begins is prior t K first_apart apart comma_apart each (x ∷ xs) = commas_apart a is t K comma_apart each (x ∷ xs)

-- ---- trees

not_false : (b : Bool) → not b ≡ false → b ≡ true
not_false true e = refl
not_false false e = let bad : true ≡ false = e in absurd (cc)

not_true : (b : Bool) → b ≡ true → not b ≡ false
not_true true e = refl
not_true false e = let bad : false ≡ true = e in absurd (cc)

-- a rule whose trees may stand behind what goes on with all other tokens
pub but : {T : Type 0} (begins : Option T → Bool) → Apart begins (λ t. not (begins t))
but begins t e = not_true (begins t) e

same_first : {T : Type 0} (begins : Option T → Bool) (w r : List T) → begins None ≡ false → begins (first (w ++ [])) ≡ true → begins (first (w ++ r)) ≡ true
same_first begins [] r stop e = true_not_false (begins None) e stop
same_first begins (t ∷ w) r stop e = e

-- its trees begin with one of these tokens
pub starts_of : {T X Z : Type 0} {live : Type 0} {K : Kind T X} {make : X → Z} {d : ℕ} {p : Parser T Z} (begins : Option T → Bool) → begins None ≡ false → ((x : X) → K.grabs x None ≡ false)
    → Rule live (λ t. not (begins t)) K make d p → Starts begins K
starts_of {K = K} begins stop free k n x r h = same_first begins (words K x) r stop (not_false _ (k.keeps n x [] h (free x)))

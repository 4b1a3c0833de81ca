-- First tokens of trees that are made of parts.
use Rattle.std.proofs.Common.{◌≡◌, ℕ, ◌+◌, Bool, ◌++◌, length, Option, refl, sym, ap, ◌∙◌, subst, append_assoc, inl, inr}
use Rattle.dpi_grammar.specs.Told.{words_in, IsRight}
use Rattle.dpi_grammar.specs.Parser.{first}
use Rattle.dpi_grammar.proofs.Lists.{words_append, right_split}
use Rattle.dpi_grammar.proofs.Exact.{Kind, words, Is, pair}
use Rattle.dpi_grammar.proofs.Rules.{place}
use Rattle.dpi_grammar.proofs.Many.{Starts}
use Rattle.dpi_grammar.proofs.Choices.{sum, Off}
use Rattle.dpi_grammar.proofs.Firsts.{Within}

pub starts_within : {T X : Type 0} (begins more : Option T → Bool) (K : Kind T X) → Within begins more → Starts begins K → Starts more K
starts_within begins more K within starts n x r h = within _ (starts n x r h)

-- the first of two parts
pub pair_starts : {T X Y : Type 0} (begins : Option T → Bool) (F : Kind T X) (K : X → Kind T Y) → Starts begins F → Starts begins (pair F K)
pair_starts begins F K starts n (x, y) r h =
    let s = right_split n (n + length (words F x)) (F.told x).atoms ((K x).told y).atoms refl h in
    ap (λ l. begins (first (l ++ r))) (words_append (F.told x).atoms ((K x).told y).atoms) ∙ ap (λ l. begins (first l)) (append_assoc (words F x) (words (K x) y) r)
    ∙ starts n x (words (K x) y ++ r) s.0

-- behind the number of the next token
pub numbered_starts : {T Y : Type 0} (begins before : Option T → Bool) (K : ℕ → Kind T Y) → ((k : ℕ) → Starts begins (K k)) → Starts begins (pair (place before) K)
numbered_starts begins before K starts n (k, y) r h = starts k n y r h.1

pub sum_starts : {T X Y : Type 0} (begins : Option T → Bool) (F : Kind T X) (K : Kind T Y) → Starts begins F → Starts begins K → Starts begins (sum F K)
sum_starts begins F K left right n (inl x) r h = left n x r h
sum_starts begins F K left right n (inr y) r h = right n y r h

pub sum_off : {T X Y : Type 0} (begins : Option T → Bool) (F : Kind T X) (K : Kind T Y) → Off begins F → Off begins K → Off begins (sum F K)
sum_off begins F K left right n (inl x) r h g = left n x r h g
sum_off begins F K left right n (inr y) r h g = right n y r h g

-- trees that tell the same as those of another kind
pub told_starts : {T X Z : Type 0} (begins : Option T → Bool) (S : Kind T X) (K : Kind T Z) (make : X → Z) → ((x : X) → K.told (make x) ≡ S.told x) → ((z : Z) → (x : X) × (make x ≡ z)) → Starts begins S → Starts begins K
told_starts begins S K make told all starts n z r h =
    let o = all z in
    let is = subst (λ a. IsRight n a.atoms) (told o.0) (subst (λ z. Is K n z) (sym o.1) h) in
    ap (λ z. begins (first (words K z ++ r))) (sym o.1) ∙ ap (λ a. begins (first (words_in a.atoms ++ r))) (told o.0) ∙ starts n o.0 r is

use Rattle.std.proofs.Common.{◌≡◌, ℕ, ◌+◌, ◌-◌, ◌<◌, ◌≤◌, Bool, true, false, not, cond, ◌&&◌, ◌||◌}
use Rattle.std.proofs.Common.{zero, suc, List, [], ◌∷◌, ◌++◌, length, take, drop, get_or, Option}
use Rattle.std.proofs.Common.{Some, None, refl, ap, sym, ◌∙◌, arith, append_assoc}
use Rattle.std.specs.Prelude.{codes, nat_eq}
use Rattle.std.specs.List.{starts_with}
use Rattle.std.proofs.Math.Seq.{take-add}
use Rattle.std.proofs.lemmas.List.{take-take, length-take-le, take_more, take_all}
use Rattle.dpi_lex.specs.declared.fault.LexFault.TheVariants.{Unclosed}
use Rattle.dpi_lex.specs.declared.form.Form.{Form}
use Rattle.dpi_lex.specs.declared.form.Form.TheVariants.{Skipped, Faulty}
use Rattle.dpi_lex.specs.Shapes.{form_if, holds_end, block_form, EndsAt}
use Rattle.dpi_lex.specs.Stretches.{longest_front}
use Rattle.dpi_lex.proofs.Longest.{longest_is}

-- two bytes that end a comment
abbrev pub is_end : ℕ → ℕ → Bool
is_end a b = nat_eq 42 a && nat_eq 47 b

or_assoc : (p q r : Bool) → (p || (q || r)) ≡ ((p || q) || r)
or_assoc true q r = refl
or_assoc false q r = refl

two_bytes : (p q r : Bool) →
    ((p && (q && true)) || ((r && false) || false)) ≡ (((p && false) || false) || (p && q))
two_bytes true true r = refl
two_bytes true false true = refl
two_bytes true false false = refl
two_bytes false q true = refl
two_bytes false q false = refl

-- one more byte can only end a comment with the one before it
holds_end-more : (xs : List ℕ) (a b : ℕ) →
    holds_end (xs ++ a ∷ b ∷ []) ≡ (holds_end (xs ++ a ∷ []) || is_end a b)
holds_end-more [] a b = two_bytes (nat_eq 42 a) (nat_eq 47 b) (nat_eq 42 b)
holds_end-more (x ∷ []) a b =
    ap (λ t. starts_with nat_eq (x ∷ a ∷ []) (codes "*/") || t) (holds_end-more [] a b)
    ∙ or_assoc (starts_with nat_eq (x ∷ a ∷ []) (codes "*/")) (holds_end (a ∷ [])) (is_end a b)
holds_end-more (x ∷ y ∷ xs) a b =
    ap (λ t. starts_with nat_eq (x ∷ y ∷ []) (codes "*/") || t) (holds_end-more (y ∷ xs) a b)
    ∙ or_assoc (starts_with nat_eq (x ∷ y ∷ []) (codes "*/")) (holds_end (y ∷ xs ++ a ∷ []))
    (is_end a b)

-- a front with one more byte
pub holds_end-step : (xs : List ℕ) (n : ℕ) → 0 < n → n < length xs →
    holds_end (take (n + 1) xs) ≡
    (holds_end (take n xs) || is_end (get_or xs (n - 1) 0) (get_or xs n 0))
holds_end-step xs n some lt =
    let a : ℕ = get_or xs (n - 1) 0 in
    let b : ℕ = get_or xs n 0 in
    let same : n - 1 + 1 ≡ n = omega arith in
    let front : take n xs ≡ take (n - 1) xs ++ a ∷ [] = ap (λ k. take k xs) (sym same)
    ∙ take_more xs (n - 1) 0 (omega arith) in
    let whole : take (n + 1) xs ≡ take (n - 1) xs ++ a ∷ b ∷ [] = take_more xs n 0 lt
    ∙ ap (λ ys. ys ++ b ∷ []) front ∙ append_assoc (take (n - 1) xs) (a ∷ []) (b ∷ []) in
    ap holds_end whole ∙ holds_end-more (take (n - 1) xs) a b
    ∙ ap (λ ys. holds_end ys || is_end a b) (sym front)

-- an end stays where bytes come behind it
holds_end-append : (xs ys : List ℕ) → holds_end xs ≡ true → holds_end (xs ++ ys) ≡ true
holds_end-append [] ys h = cc
holds_end-append (x ∷ []) ys h = absurd (one_byte (nat_eq 42 x) h)
  where
    one_byte : (p : Bool) → ((p && false) || false) ≡ true → ⊥
    one_byte true h = cc
    one_byte false h = cc
holds_end-append (x ∷ y ∷ xs) ys h =
    elim (starts_with nat_eq (x ∷ y ∷ []) (codes "*/")) as (λ t. (t || holds_end (y ∷ xs)) ≡ true →
    (t || holds_end (y ∷ xs ++ ys)) ≡ true)
    [ true ↦ λ k. refl | false ↦ λ k. holds_end-append (y ∷ xs) ys k ] h

holds_end-take : (xs : List ℕ) (n m : ℕ) → holds_end (take n xs) ≡ true → n ≤ m →
    holds_end (take m xs) ≡ true
holds_end-take xs n m h le =
    let is : m ≡ n + (m - n) = omega arith in
    ap (λ k. holds_end (take k xs)) is ∙ ap holds_end (take-add n (m - n) xs)
    ∙ holds_end-append (take n xs) (take (m - n) (drop n xs)) h

-- the form of `/*` and so many bytes behind it
abbrev block_after : List ℕ → ℕ → Option Form
block_after inner j =
    form_if (not (holds_end (take (j - 1) inner)))
    (cond (holds_end (take j inner)) Skipped (Faulty (Unclosed 0)))

block_form-take : (a c : ℕ) (inner : List ℕ) (j : ℕ) →
    starts_with nat_eq (a ∷ c ∷ inner) (codes "/*") ≡ true → j ≤ length inner →
    block_form (take (suc (suc j)) (a ∷ c ∷ inner)) ≡ block_after inner j
block_form-take a c inner j starts le =
    let size : length (take j inner) ≡ j = length-take-le j inner le in
    let front : take (length (take j inner) - 1) (take j inner) ≡ take (j - 1) inner =
    ap (λ n. take (n - 1) (take j inner)) size ∙ take-take (j - 1) j inner (omega arith) in
    ap (λ t. form_if (t && not (holds_end (take (length (take j inner) - 1) (take j inner))))
    (cond (holds_end (take j inner)) Skipped (Faulty (Unclosed 0)))) starts
    ∙ ap (λ ys. form_if (not (holds_end ys))
    (cond (holds_end (take j inner)) Skipped (Faulty (Unclosed 0)))) front

longest_block : (a c : ℕ) (inner : List ℕ) (j : ℕ) (form : Form) →
    starts_with nat_eq (a ∷ c ∷ inner) (codes "/*") ≡ true → j ≤ length inner →
    block_after inner j ≡ Some form →
    ((k : ℕ) → j < k → k ≤ length inner → block_after inner k ≡ None) →
    longest_front block_form (a ∷ c ∷ inner) ≡ record { form = form; len = suc (suc j) }
longest_block a c inner j form starts le is longer =
    longest_is (λ m. block_form (take m (a ∷ c ∷ inner))) (length (a ∷ c ∷ inner)) (suc (suc j))
    form (omega arith) (omega arith) (block_form-take a c inner j starts le ∙ is) past
  where
    past : (m : ℕ) → suc (suc j) < m → m ≤ length (a ∷ c ∷ inner) →
        block_form (take m (a ∷ c ∷ inner)) ≡ None
    past zero lt within = absurd (omega arith)
    past (suc zero) lt within = absurd (omega arith)
    past (suc (suc k)) lt within = block_form-take a c inner k starts (omega arith)
        ∙ longer k (omega arith) (omega arith)

-- a comment with its end
pub longest_front-block : (rest inner : List ℕ) (n : ℕ) → inner ≡ drop 2 rest →
    starts_with nat_eq rest (codes "/*") ≡ true → EndsAt inner n → (len : ℕ) → len ≡ 2 + n →
    longest_front block_form rest ≡ record { form = Skipped; len = len }
longest_front-block [] inner n from starts ends len is = cc
longest_front-block (a ∷ []) inner n from starts ends len is =
    absurd (one_byte (nat_eq 47 a) starts)
  where
    one_byte : (p : Bool) → (p && false) ≡ true → ⊥
    one_byte true h = cc
    one_byte false h = cc
longest_front-block (a ∷ c ∷ more) inner n from starts ends len is =
    let same : len ≡ suc (suc n) = omega arith in
    let ended : EndsAt more n = rw from at ends in
    rw
    same
    (longest_block a c more n Skipped starts ended.within
    (ap (λ t. form_if (not t) (cond (holds_end (take n more)) Skipped (Faulty (Unclosed 0))))
    ended.first ∙ ap (λ t. Some (cond t Skipped (Faulty (Unclosed 0)))) ended.ends)
    (λ k past le. ap (λ t. form_if (not t)
    (cond (holds_end (take k more)) Skipped (Faulty (Unclosed 0))))
    (holds_end-take more n (k - 1) ended.ends (omega arith))))

no_end-take : (xs : List ℕ) (n : ℕ) → holds_end xs ≡ false → holds_end (take n xs) ≡ false
no_end-take xs n none =
    elim (holds_end (take n xs)) as (λ t. holds_end (take n xs) ≡ t → t ≡ false)
    [ true ↦ λ h. sym (whole h) ∙ none | false ↦ λ h. refl ] refl
  where
    whole : holds_end (take n xs) ≡ true → holds_end xs ≡ true
    whole h =
        ap holds_end (sym (take_all (n + length xs) xs (omega arith)))
        ∙ holds_end-take xs n (n + length xs) h (omega arith)

-- a comment without its end
pub longest_front-open_block : (rest inner : List ℕ) → inner ≡ drop 2 rest →
    starts_with nat_eq rest (codes "/*") ≡ true → holds_end inner ≡ false →
    longest_front block_form rest ≡ record { form = Faulty (Unclosed 0); len = length rest }
longest_front-open_block [] inner from starts none = cc
longest_front-open_block (a ∷ []) inner from starts none = absurd (one_byte (nat_eq 47 a) starts)
  where
    one_byte : (p : Bool) → (p && false) ≡ true → ⊥
    one_byte true h = cc
    one_byte false h = cc
longest_front-open_block (a ∷ c ∷ more) inner from starts none =
    let without : holds_end more ≡ false = rw from at none in
    let n : ℕ = length more in
    longest_block a c more n (Faulty (Unclosed 0)) starts (omega arith)
    (ap (λ t. form_if (not t) (cond (holds_end (take n more)) Skipped (Faulty (Unclosed 0))))
    (no_end-take more (n - 1) without)
    ∙ ap (λ t. Some (cond t Skipped (Faulty (Unclosed 0)))) (no_end-take more n without))
    (λ k past le. absurd (omega arith))

use Rattle.std.proofs.Common.{◌≡◌, ℕ, ◌+◌, ◌-◌, ◌<◌, ◌≤◌, Bool, true, false, not, cond, ◌&&◌, ◌||◌}
use Rattle.std.proofs.Common.{zero, suc, List, [], ◌∷◌, ◌++◌, length, take, drop, get_or, refl, ap}
use Rattle.std.proofs.Common.{sym, ◌∙◌, arith, inl, inr, length-drop, add-zero, append_assoc}
use Rattle.std.specs.Prelude.{◌⊎◌}
use Rattle.std.proofs.lemmas.List.{drop_more, take_more, get_or-drop}
use Rattle.std.proofs.Math.Seq.{take-add}
use Rattle.dpi_lex.specs.Bytes.{is_quote, is_backslash}
use Rattle.dpi_lex.specs.Place.{is_line_feed}
use Rattle.dpi_lex.specs.Shapes.{is_plain, is_body, IsLongestBody}

-- what stands behind a body with no open escape is read as from the beginning
pub is_body-append : (e : ℕ → Bool) (open_escape : Bool) (xs ys : List ℕ) →
    is_body e open_escape xs ≡ true → is_body e open_escape (xs ++ ys) ≡ is_body e false ys
is_body-append e false [] ys h = refl
is_body-append e true [] ys h = cc
is_body-append e true (b ∷ xs) ys h =
    elim (e b) as (λ t. (t && is_body e false xs) ≡ true →
    (t && is_body e false (xs ++ ys)) ≡ is_body e false ys)
    [ true ↦ λ k. is_body-append e false xs ys k | false ↦ λ k. cc ] h
is_body-append e false (b ∷ xs) ys h =
    elim (is_backslash b)
    as (λ t. cond t (is_body e true xs) (is_plain b && is_body e false xs) ≡ true →
    cond t (is_body e true (xs ++ ys)) (is_plain b && is_body e false (xs ++ ys)) ≡ is_body e
    false ys) [
      | true ↦ λ k. is_body-append e true xs ys k
      | false ↦
          λ k. elim (is_plain b) as (λ t. (t && is_body e false xs) ≡ true →
          (t && is_body e false (xs ++ ys)) ≡ is_body e false ys)
          [ true ↦ λ k. is_body-append e false xs ys k | false ↦ λ k. cc ] k
    ] h

-- a body and so many bytes more
is_body-take : (e : ℕ → Bool) (n k : ℕ) (xs : List ℕ) → is_body e false (take n xs) ≡ true →
    is_body e false (take (n + k) xs) ≡ is_body e false (take k (drop n xs))
is_body-take e n k xs h = ap (is_body e false) (take-add n k xs)
    ∙ is_body-append e false (take n xs) (take k (drop n xs)) h

-- where no front of the rest is a body, the body before it is the longest
longest_from : (e : ℕ → Bool) (n : ℕ) (xs : List ℕ) → n ≤ length xs →
    is_body e false (take n xs) ≡ true →
    ((k : ℕ) → 0 < k → is_body e false (take k (drop n xs)) ≡ false) → IsLongestBody e xs n
longest_from e n xs within body none = record {
  within = within;
  body = body;
  longest =
      λ m past le.
      let k : ℕ = m - n in
      let is : m ≡ n + k = omega arith in
      rw is (is_body-take e n k xs body ∙ none k (omega arith));
}

-- a body that reaches the end
pub IsLongestBody-all : (e : ℕ → Bool) (n : ℕ) (xs : List ℕ) → n ≤ length xs →
    is_body e false (take n xs) ≡ true → length xs ≤ n → IsLongestBody e xs n
IsLongestBody-all e n xs within body end = record {
  within = within;
  body = body;
  longest = λ m past le. absurd (omega arith);
}

-- a body before a quote or a line feed
pub IsLongestBody-ended : (e : ℕ → Bool) (n : ℕ) (xs : List ℕ) → n < length xs →
    is_body e false (take n xs) ≡ true → is_backslash (get_or xs n 0) ≡ false →
    is_plain (get_or xs n 0) ≡ false → IsLongestBody e xs n
IsLongestBody-ended e n xs lt body other special =
    longest_from e n xs (omega arith) body
    (λ k some. rw (drop_more xs n 0 lt)
    (none (get_or xs n 0) (drop (n + 1) xs) k other special some))
  where
    none : (b : ℕ) (more : List ℕ) (k : ℕ) → is_backslash b ≡ false → is_plain b ≡ false → 0 < k →
        is_body e false (take k (b ∷ more)) ≡ false
    none b more zero other special some = absurd (omega arith)
    none b more (suc k) other special some =
        ap (λ t. cond t (is_body e true (take k more))
        (is_plain b && is_body e false (take k more))) other
        ∙ ap (λ t. t && is_body e false (take k more)) special

no_escape : (e : ℕ → Bool) (j : ℕ) (ys : List ℕ) → (length ys ≡ 0) ⊎ (e (get_or ys 0 0) ≡ false) →
    is_body e true (take j ys) ≡ false
no_escape e zero ys bad = refl
no_escape e (suc j) [] bad = refl
no_escape e (suc j) (c ∷ ys) (inl empty) = absurd (omega arith)
no_escape e (suc j) (c ∷ ys) (inr other) = ap (λ t. t && is_body e false (take j ys)) other

-- a body before a backslash of no escape
pub IsLongestBody-broken : (e : ℕ → Bool) (n : ℕ) (xs : List ℕ) → n < length xs →
    is_body e false (take n xs) ≡ true → is_backslash (get_or xs n 0) ≡ true →
    (length xs ≤ n + 1) ⊎ (e (get_or xs (n + 1) 0) ≡ false) → IsLongestBody e xs n
IsLongestBody-broken e n xs lt body slash bad =
    longest_from e n xs (omega arith) body
    (λ k some. rw (drop_more xs n 0 lt)
    (none (get_or xs n 0) (drop (n + 1) xs) k slash (after bad) some))
  where
    after : (length xs ≤ n + 1) ⊎ (e (get_or xs (n + 1) 0) ≡ false) → (j : ℕ) →
        is_body e true (take j (drop (n + 1) xs)) ≡ false
    after (inl end) j = no_escape e j (drop (n + 1) xs)
        (inl (omega (arith, length-drop (n + 1) xs)))
    after (inr other) j =
        no_escape e j (drop (n + 1) xs)
        (inr (ap e (get_or-drop (n + 1) xs 0 0 ∙ ap (λ i. get_or xs i 0) (add-zero (n + 1)))
        ∙ other))

    none : (b : ℕ) (more : List ℕ) (k : ℕ) → is_backslash b ≡ true →
        ((j : ℕ) → is_body e true (take j more) ≡ false) → 0 < k →
        is_body e false (take k (b ∷ more)) ≡ false
    none b more zero slash bad some = absurd (omega arith)
    none b more (suc k) slash bad some =
        ap (λ t. cond t (is_body e true (take k more))
        (is_plain b && is_body e false (take k more))) slash ∙ bad k

-- a plain byte goes on a body
pub is_body-plain : (e : ℕ → Bool) (n : ℕ) (xs : List ℕ) → n < length xs →
    is_body e false (take n xs) ≡ true → is_backslash (get_or xs n 0) ≡ false →
    is_plain (get_or xs n 0) ≡ true → is_body e false (take (n + 1) xs) ≡ true
is_body-plain e n xs lt body other plain =
    ap (is_body e false) (take_more xs n 0 lt)
    ∙ is_body-append e false (take n xs) (get_or xs n 0 ∷ []) body
    ∙ ap (λ t. cond t false (is_plain (get_or xs n 0) && true)) other
    ∙ ap (λ t. t && true) plain

-- where the longest body ends before a byte that is neither a quote nor a line feed, that byte is a
-- backslash
pub IsLongestBody-backslash : (e : ℕ → Bool) (n : ℕ) (xs : List ℕ) → IsLongestBody e xs n →
    n < length xs → is_quote (get_or xs n 0) ≡ false → is_line_feed (get_or xs n 0) ≡ false →
    is_backslash (get_or xs n 0) ≡ true
IsLongestBody-backslash e n xs body lt quote feed =
    elim (is_backslash (get_or xs n 0)) as (λ t. is_backslash (get_or xs n 0) ≡ t → t ≡ true) [
      | true ↦ λ k. refl
      | false ↦
          λ k.
          let plain : is_plain (get_or xs n 0) ≡ true =
          ap (λ t. not (t || is_backslash (get_or xs n 0) || is_line_feed (get_or xs n 0)))
          quote ∙ ap (λ t. not (t || is_line_feed (get_or xs n 0))) k ∙ ap not feed in
          sym (body.longest (n + 1) (omega arith) (omega arith))
          ∙ is_body-plain e n xs lt body.body k plain
    ] refl

-- an escape goes on a body
pub is_body-escape : (e : ℕ → Bool) (n : ℕ) (xs : List ℕ) → n + 1 < length xs →
    is_body e false (take n xs) ≡ true → is_backslash (get_or xs n 0) ≡ true →
    e (get_or xs (n + 1) 0) ≡ true → is_body e false (take (n + 2) xs) ≡ true
is_body-escape e n xs lt body slash letter =
    let a : ℕ = get_or xs n 0 in
    let b : ℕ = get_or xs (n + 1) 0 in
    let two : n + 2 ≡ n + 1 + 1 = omega arith in
    let whole : take (n + 2) xs ≡ take n xs ++ a ∷ b ∷ [] = ap (λ k. take k xs) two
    ∙ take_more xs (n + 1) 0 lt ∙ ap (λ ys. ys ++ b ∷ []) (take_more xs n 0 (omega arith))
    ∙ append_assoc (take n xs) (a ∷ []) (b ∷ []) in
    ap (is_body e false) whole
    ∙ is_body-append e false (take n xs) (a ∷ b ∷ []) body
    ∙ ap (λ t. cond t (e b && true) (is_plain a && is_body e false (b ∷ []))) slash
    ∙ ap (λ t. t && true) letter

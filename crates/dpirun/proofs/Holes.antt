-- Reading a form word by word.
use Rattle.std.proofs.Common.{◌≡◌, ◌≢◌, ℕ, suc, ◌<◌, ◌≤◌, Bool, true, false, ◌||◌, List, [], ◌∷◌, ◌++◌, Option, Some, None, length, drop, drop-cons, map, option_map, slice_get, IsSomeAnd, Bor, get_or, ap, ap₂, ◌∙◌, sym, append_assoc, append-nil, refl}
use Rattle.std.specs.Prelude.{if◌then◌else◌}
use Rattle.std.proofs.lemmas.List.{drop_all, map-append}
use Rattle.std.proofs.lemmas.Option.{slice_get_within, get_or_from_slice_get, slice_get-map, slice_get-get_or}
use Rattle.std.specs.Option.{option_map_or}
use Rattle.dpi_lex.specs.Words.{Word}
use Rattle.dpi_lex.specs.declared.token.Kind.{Kind}
use Rattle.dpirun.specs.Form.{fits_word, is_name_letter, is_number_letter, hole_of, holes_of, bytes_at}

-- the element at a place, and what follows it
drop_at : {A : Type 0} (xs : List A) (i : ℕ) (x : A) → slice_get xs i ≡ Some x → drop i xs ≡ x ∷ drop (suc i) xs
drop_at xs i x is =
    drop-cons xs i x (slice_get_within xs i x is) ∙ ap (λ y. y ∷ drop (suc i) xs) (get_or_from_slice_get xs i x x is)

-- a choice that gives nothing either way
if-same : (b : Bool) (o : Option (List (List ℕ))) → o ≡ None → (if b then o else None) ≡ None
if-same true o is = is
if-same false o is = refl

-- other lengths never fit
pub holes_of-lengths : (forms : List (List ℕ)) (ws : List Word) → length forms ≢ length ws → holes_of forms ws ≡ None
holes_of-lengths [] [] differ = absurd (differ refl)
holes_of-lengths [] (w ∷ ws) differ = refl
holes_of-lengths (form ∷ forms) [] differ = refl
holes_of-lengths (form ∷ forms) (w ∷ ws) differ =
    if-same (fits_word form w) _ (ap (option_map (λ more. hole_of form w ++ more)) (holes_of-lengths forms ws (λ e. differ (ap suc e))))

-- one word of the form
holes_of-drop : (forms : List (List ℕ)) (ws : List Word) (i : ℕ) (form : List ℕ) (w : Word)
    → slice_get forms i ≡ Some form → slice_get ws i ≡ Some w
    → holes_of (drop i forms) (drop i ws)
    ≡ (if fits_word form w then option_map (λ more. hole_of form w ++ more) (holes_of (drop (suc i) forms) (drop (suc i) ws)) else None)
holes_of-drop forms ws i form w is_form is_word = ap₂ holes_of (drop_at forms i form is_form) (drop_at ws i w is_word)

-- what was read so far, and one word that fits
pub holes_of-next : (forms : List (List ℕ)) (ws : List Word) (i : ℕ) (form : List ℕ) (w : Word) (found : List (List ℕ))
    → slice_get forms i ≡ Some form → slice_get ws i ≡ Some w → fits_word form w ≡ true
    → holes_of forms ws ≡ option_map (λ more. found ++ more) (holes_of (drop i forms) (drop i ws))
    → holes_of forms ws ≡ option_map (λ more. (found ++ hole_of form w) ++ more) (holes_of (drop (suc i) forms) (drop (suc i) ws))
holes_of-next forms ws i form w found is_form is_word fits read =
    read
    ∙ ap (option_map (λ more. found ++ more)) (holes_of-drop forms ws i form w is_form is_word
    ∙ ap (λ b. if b then option_map (λ more. hole_of form w ++ more) (holes_of (drop (suc i) forms) (drop (suc i) ws)) else None) fits)
    ∙ joined (holes_of (drop (suc i) forms) (drop (suc i) ws))
  where
    joined : (o : Option (List (List ℕ)))
        → option_map (λ more. found ++ more) (option_map (λ more. hole_of form w ++ more) o) ≡ option_map (λ more. (found ++ hole_of form w) ++ more) o
    joined None = refl
    joined (Some more) = ap Some (sym (append_assoc found (hole_of form w) more))

-- and a word that doesn't
pub holes_of-stops : (forms : List (List ℕ)) (ws : List Word) (i : ℕ) (form : List ℕ) (w : Word) (found : List (List ℕ))
    → slice_get forms i ≡ Some form → slice_get ws i ≡ Some w → fits_word form w ≡ false
    → holes_of forms ws ≡ option_map (λ more. found ++ more) (holes_of (drop i forms) (drop i ws))
    → holes_of forms ws ≡ None
holes_of-stops forms ws i form w found is_form is_word fails read =
    read
    ∙ ap (option_map (λ more. found ++ more)) (holes_of-drop forms ws i form w is_form is_word
    ∙ ap (λ b. if b then option_map (λ more. hole_of form w ++ more) (holes_of (drop (suc i) forms) (drop (suc i) ws)) else None) fails)

-- all of it was read
pub holes_of-whole : (forms : List (List ℕ)) (ws : List Word) (i : ℕ) (found : List (List ℕ))
    → length forms ≤ i → length ws ≤ i
    → holes_of forms ws ≡ option_map (λ more. found ++ more) (holes_of (drop i forms) (drop i ws))
    → holes_of forms ws ≡ Some found
holes_of-whole forms ws i found forms_end ws_end read =
    read
    ∙ ap (option_map (λ more. found ++ more)) (ap₂ holes_of (drop_all i forms forms_end) (drop_all i ws ws_end))
    ∙ ap Some (append-nil found)

-- the word of a token, from its kind and its bytes
pub word_is : (o : Option Word) (k : Kind) (b : List ℕ)
    → IsSomeAnd o (λ w. w.kind ≡ k) → IsSomeAnd o (λ w. w.bytes ≡ b) → o ≡ Some (record { kind = k; bytes = b })
word_is (Some w) k b is_kind is_bytes = ap₂ (λ x y. Some (record { kind = x; bytes = y })) is_kind is_bytes
word_is None k b is_kind is_bytes = absurd is_kind

-- a borrowed text at a place
pub text_at : (forms : List (Bor (List ℕ))) (i : ℕ) (d : Bor (List ℕ)) → i < length forms
    → slice_get (map (λ word. word.now) forms) i ≡ Some (get_or forms i d).now
text_at forms i d inside = slice_get-map (λ word. word.now) forms i ∙ ap (option_map (λ word. word.now)) (slice_get-get_or forms i d inside)

-- what a word that leaves something open adds to what was found
pub found_more : (ws : List Word) (found more : List ℕ) (i : ℕ) (form : List ℕ) (w : Word)
    → slice_get ws i ≡ Some w → more ≡ found ++ i ∷ [] → (is_name_letter form || is_number_letter form) ≡ true
    → map (bytes_at ws) more ≡ map (bytes_at ws) found ++ hole_of form w
found_more ws found more i form w is is_more opens =
    let bytes : bytes_at ws i ≡ w.bytes = ap (λ o. option_map_or (λ v. v.bytes) o []) is in
    let hole : hole_of form w ≡ w.bytes ∷ [] = ap (λ b. if b then w.bytes ∷ [] else []) opens in
    ap (map (bytes_at ws)) is_more ∙ map-append (bytes_at ws) found (i ∷ []) ∙ ap (λ xs. map (bytes_at ws) found ++ xs) (ap (λ b. b ∷ []) bytes ∙ sym hole)

-- one that stands for itself adds nothing
pub found_same : (ws : List Word) (found : List ℕ) (form : List ℕ) (w : Word)
    → (is_name_letter form || is_number_letter form) ≡ false
    → map (bytes_at ws) found ≡ map (bytes_at ws) found ++ hole_of form w
found_same ws found form w closed =
    let hole : hole_of form w ≡ [] = ap (λ b. if b then w.bytes ∷ [] else []) closed in
    sym (append-nil (map (bytes_at ws) found)) ∙ ap (λ xs. map (bytes_at ws) found ++ xs) (sym hole)

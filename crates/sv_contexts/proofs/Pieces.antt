-- The pieces of a format are found by its bytes.
use Rattle.std.proofs.Common.{◌≡◌, ℕ, zero, suc, ◌+◌, ◌-◌, ◌<◌, List, [], ◌∷◌, ◌++◌, length, drop, refl, sym, ap, ◌∙◌, subst, arith, Option, Some, None}
use Rattle.std.specs.Prelude.{option_map, unwrap_or}
use Rattle.std.specs.List.{All, flat_map}
use Rattle.std.proofs.lemmas.List.Elements.{All-head, All-tail, All-nil, All-cons}
use Rattle.std.proofs.Math.Seq.{drop-append_seam}
use Rattle.dpi_format.specs.declared.sv_piece.SvPiece.{SvPiece}
use Rattle.dpi_format.specs.declared.sv_piece.SvPiece.TheVariants.{Byte, Percent, Text, Number}
use Rattle.dpi_format.specs.SvFormat.{spelled, zero_spelled, letter_spelled, IsPlain, IsSvFormat}
use Rattle.dpi_format.specs.SvFirst.{first_of}
use Rattle.dpi_format.proofs.Codes.{Begins, none≢some}
use Rattle.dpi_format.proofs.SvPieces.{told, begins}
use Rattle.sv_contexts.specs.Formats.{pieces_of, pieces_behind, one_more}

-- what is skipped doesn't count
behind_skip : (xs ys : List ℕ) → pieces_behind (xs ++ ys) (length xs) ≡ pieces_behind ys 0
behind_skip [] ys = refl
behind_skip (x ∷ xs) ys = behind_skip xs ys

abbrev with_piece : SvPiece → Option (List SvPiece) → Option (List SvPiece)
with_piece p o = option_map (λ ps. p ∷ ps) o

step_by : (b : ℕ) (t rest : List ℕ) (p : SvPiece) → first_of (b ∷ (t ++ rest)) ≡ Some p → length (spelled p) - 1 ≡ length t → pieces_behind (b ∷ (t ++ rest)) 0 ≡ with_piece p (pieces_behind rest 0)
step_by b t rest p h e =
    ap (λ o. one_more o (λ s. pieces_behind (t ++ rest) s)) h
    ∙ ap (λ n. with_piece p (pieces_behind (t ++ rest) n)) e
    ∙ ap (λ o. with_piece p o) (behind_skip t rest)

less_one : (t : List ℕ) → length (37 ∷ t) - 1 ≡ length t
less_one t = omega arith

step : (p : SvPiece) (rest : List ℕ) → IsPlain p → pieces_behind (spelled p ++ rest) 0 ≡ with_piece p (pieces_behind rest 0)
step (Byte b) rest h = step_by b [] rest (Byte b) (told (Byte b) rest h) refl
step Percent rest h = step_by 37 (37 ∷ []) rest Percent (told Percent rest h) refl
step Text rest h = step_by 37 (115 ∷ []) rest Text (told Text rest h) refl
step (Number n) rest h = step_by 37 (zero_spelled n.zero ++ letter_spelled n.letter) rest (Number n) (told (Number n) rest h) (less_one (zero_spelled n.zero ++ letter_spelled n.letter))

complete : (ps : List SvPiece) → All IsPlain ps → pieces_of (flat_map spelled ps) ≡ Some ps
complete [] h = refl
complete (p ∷ ps) h =
    step p (flat_map spelled ps) (All-head IsPlain p ps h) ∙ ap (λ o. with_piece p o) (complete ps (All-tail IsPlain p ps h))

-- a format has the pieces that are found
pub found_pieces : (bytes : List ℕ) (ps : List SvPiece) → IsSvFormat bytes ps → pieces_of bytes ≡ Some ps
found_pieces bytes ps h = ap pieces_of h.1 ∙ complete ps h.0

-- ---- the pieces that are found are those of the format

rest_by : (t rest more : List ℕ) (n : ℕ) → n ≡ length t → more ≡ t ++ rest → drop n more ≡ rest
rest_by t rest more n e h = ap (λ m. drop m more) e ∙ ap (λ xs. drop (length t) xs) h ∙ drop-append_seam t rest

behind_first : (b c : ℕ) (xs ys : List ℕ) → b ∷ xs ≡ c ∷ ys → xs ≡ ys
behind_first b c xs ys h = ap (λ zs. drop (suc zero) zs) h

rest_is : (p : SvPiece) (b : ℕ) (more rest : List ℕ) → b ∷ more ≡ spelled p ++ rest → drop (length (spelled p) - 1) more ≡ rest
rest_is (Byte c) b more rest h = rest_by [] rest more _ refl (behind_first b c more rest h)
rest_is Percent b more rest h = rest_by (37 ∷ []) rest more _ refl (behind_first b 37 more (37 ∷ rest) h)
rest_is Text b more rest h = rest_by (115 ∷ []) rest more _ refl (behind_first b 37 more (115 ∷ rest) h)
rest_is (Number n) b more rest h =
    let t = zero_spelled n.zero ++ letter_spelled n.letter in
    rest_by t rest more (length (37 ∷ t) - 1) (less_one t) (behind_first b 37 more (t ++ rest) h)

-- what is found behind each number of bytes is right
abbrev IsRight : List ℕ → Type 0
IsRight more = (n : ℕ) (qs : List SvPiece) → pieces_behind more n ≡ Some qs → IsSvFormat (drop n more) qs

sound_at : (b : ℕ) (more : List ℕ) (p : SvPiece) (ps : List SvPiece) (o : Option (List SvPiece)) → pieces_behind more (length (spelled p) - 1) ≡ o
    → Begins spelled IsPlain (b ∷ more) p → IsRight more → with_piece p o ≡ Some ps → IsSvFormat (b ∷ more) ps
sound_at b more p ps None h starts right e = absurd (none≢some (with_piece p None) ps refl e)
sound_at b more p ps (Some qs) h starts right e =
    let behind : IsSvFormat (drop (length (spelled p) - 1) more) qs = right (length (spelled p) - 1) qs h in
    let rest : drop (length (spelled p) - 1) more ≡ starts.1.0 = rest_is p b more starts.1.0 starts.1.1 in
    let same : p ∷ qs ≡ ps = ap (λ x. unwrap_or x ps) e in
    let all : IsSvFormat (b ∷ more) (p ∷ qs) =
    (All-cons IsPlain p qs starts.0 behind.0, starts.1.1 ∙ ap (λ r. spelled p ++ r) (sym rest ∙ behind.1)) in
    subst (λ xs. IsSvFormat (b ∷ more) xs) same all

sound_by : (b : ℕ) (more : List ℕ) (o : Option SvPiece) → first_of (b ∷ more) ≡ o → (ps : List SvPiece) → IsRight more
    → one_more o (λ s. pieces_behind more s) ≡ Some ps → IsSvFormat (b ∷ more) ps
sound_by b more None h ps right e = absurd (none≢some (one_more None (λ s. pieces_behind more s)) ps refl e)
sound_by b more (Some p) h ps right e =
    sound_at b more p ps (pieces_behind more (length (spelled p) - 1)) refl (begins (b ∷ more) p h) right e

abbrev the_nil : List ℕ
the_nil = []

drop_nothing : (n : ℕ) → drop n the_nil ≡ []
drop_nothing zero = refl
drop_nothing (suc n) = refl

sound : (bytes : List ℕ) → IsRight bytes
sound [] n ps e =
    let same : [] ≡ ps = ap (λ x. unwrap_or x ps) e in
    subst (λ xs. IsSvFormat (drop n the_nil) xs) same (All-nil IsPlain, drop_nothing n)
sound (b ∷ more) zero ps e = sound_by b more (first_of (b ∷ more)) refl ps (sound more) e
sound (b ∷ more) (suc n) ps e = sound more n ps e

none_by : (bytes : List ℕ) → ((ps : List SvPiece) → ¬ (IsSvFormat bytes ps)) → (o : Option (List SvPiece)) → pieces_of bytes ≡ o → pieces_of bytes ≡ None
none_by bytes h None e = e
none_by bytes h (Some ps) e = absurd (h ps (sound bytes 0 ps e))

-- bytes without pieces are no format
pub no_pieces : (bytes : List ℕ) → ((ps : List SvPiece) → ¬ (IsSvFormat bytes ps)) → pieces_of bytes ≡ None
no_pieces bytes h = none_by bytes h (pieces_of bytes) refl

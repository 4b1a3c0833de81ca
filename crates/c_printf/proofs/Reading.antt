-- The pieces of a format are those that spell it.
use Rattle.std.proofs.Common.{◌≡◌, ℕ, zero, suc, ◌+◌, ◌≤◌, List, [], ◌∷◌, ◌++◌, length, drop, refl, sym, ap, subst, ◌∙◌, Option, Some, None, arith, length-append}
use Rattle.std.specs.List.{All, flat_map}
use Rattle.std.proofs.lemmas.List.Elements.{All-head, All-tail, All-nil, All-cons}
use Rattle.std.proofs.Math.Seq.{drop-append_seam}
use Rattle.dpi_format.specs.declared.c_piece.CPiece.{CPiece}
use Rattle.dpi_format.specs.declared.c_piece.CPiece.TheVariants.{Byte, Percent, Text, Character, Number}
use Rattle.dpi_format.specs.CFormat.{spelled, number_spelled, IsPlain, IsCFormat, before_zero}
use Rattle.dpi_format.specs.CFirst.{first_of}
use Rattle.dpi_format.proofs.CPieces.{told, begins}
use Rattle.c_printf.specs.Pieces.{before_them, read_on, pieces_up_to, pieces_of}

-- a list that begins with a byte
record Front (xs : List ℕ) : Type 0 where
  head : ℕ
  tail : List ℕ
  is : xs ≡ head ∷ tail

-- a piece is spelled by a byte or more
front : (p : CPiece) → Front (spelled p)
front (Byte b) = record { head = b; tail = []; is = refl }
front Percent = record { head = 37; tail = 37 ∷ []; is = refl }
front Text = record { head = 37; tail = 115 ∷ []; is = refl }
front Character = record { head = 37; tail = 99 ∷ []; is = refl }
front (Number n) = record { head = 37; tail = number_spelled n; is = refl }

some_front : (p : CPiece) (rest : List ℕ) → Front (spelled p ++ rest)
some_front p rest =
    let f = front p in
    record { head = f.head; tail = f.tail ++ rest; is = ap (λ xs. xs ++ rest) f.is }

longer : (p : CPiece) (rest : List ℕ) (n : ℕ) → length (spelled p ++ rest) ≤ suc n → length rest ≤ n
longer p rest n h =
    let f = front p in
    let size : length (spelled p) ≡ length (f.head ∷ f.tail) = ap length f.is in
    omega (arith, h, size, length-append (spelled p) rest)

-- one piece, and those behind it
one : (n : ℕ) (p : CPiece) (rest : List ℕ) → IsPlain p → pieces_up_to (suc n) (spelled p ++ rest) ≡ before_them p (pieces_up_to n rest)
one n p rest h =
    let f = some_front p rest in
    let bytes : List ℕ = f.head ∷ f.tail in
    ap (pieces_up_to (suc n)) f.is
    ∙ ap (λ o. read_on o (pieces_up_to n) bytes) (sym (ap first_of f.is) ∙ told p rest h)
    ∙ ap (λ r. before_them p (pieces_up_to n r)) (sym (ap (drop (length (spelled p))) f.is) ∙ drop-append_seam (spelled p) rest)

read_up : (n : ℕ) (ps : List CPiece) → All IsPlain ps → length (flat_map spelled ps) ≤ n → pieces_up_to n (flat_map spelled ps) ≡ Some ps
read_up zero [] h k = refl
read_up (suc n) [] h k = refl
read_up zero (p ∷ ps) h k =
    let f = some_front p (flat_map spelled ps) in
    let size : length (spelled p ++ flat_map spelled ps) ≡ length (f.head ∷ f.tail) = ap length f.is in
    absurd (omega (arith, k, size))
read_up (suc n) (p ∷ ps) h k =
    one n p (flat_map spelled ps) (All-head IsPlain p ps h)
    ∙ ap (before_them p) (read_up n ps (All-tail IsPlain p ps h) (longer p (flat_map spelled ps) n k))

-- pieces that spell a format are its pieces
pub read_all : (bytes : List ℕ) (ps : List CPiece) → IsCFormat bytes ps → pieces_of bytes ≡ Some ps
read_all bytes ps h =
    let P : List ℕ → Type 0 = λ xs. pieces_up_to (length xs) xs ≡ Some ps in
    subst P (sym h.1) (read_up (length (flat_map spelled ps)) ps h.0 (omega arith))

-- these pieces spell the bytes
abbrev Spells : List ℕ → Option (List CPiece) → Type 0
Spells bytes None = Unit {0}
Spells bytes (Some ps) = All IsPlain ps × (bytes ≡ flat_map spelled ps)

spells_more : (p : CPiece) (bytes rest : List ℕ) (o : Option (List CPiece)) → IsPlain p → bytes ≡ spelled p ++ rest → Spells rest o
    → Spells bytes (before_them p o)
spells_more p bytes rest None h e k = tt
spells_more p bytes rest (Some ps) h e k = (All-cons IsPlain p ps h k.0, e ∙ ap (λ r. spelled p ++ r) k.1)

behind : (p : CPiece) (bytes rest : List ℕ) → bytes ≡ spelled p ++ rest → drop (length (spelled p)) bytes ≡ rest
behind p bytes rest e = ap (drop (length (spelled p))) e ∙ drop-append_seam (spelled p) rest

spells_on : (n : ℕ) (bytes : List ℕ) (o : Option CPiece) → first_of bytes ≡ o → ((xs : List ℕ) → Spells xs (pieces_up_to n xs))
    → Spells bytes (read_on o (pieces_up_to n) bytes)
spells_on n bytes None e all = tt
spells_on n bytes (Some p) e all =
    let b = begins bytes p e in
    let left : List ℕ = drop (length (spelled p)) bytes in
    spells_more p bytes left (pieces_up_to n left) b.0
    (b.1.1 ∙ ap (λ r. spelled p ++ r) (sym (behind p bytes b.1.0 b.1.1))) (all left)

spells : (n : ℕ) (bytes : List ℕ) → Spells bytes (pieces_up_to n bytes)
spells zero [] = (All-nil IsPlain, refl)
spells (suc n) [] = (All-nil IsPlain, refl)
spells zero (b ∷ bs) = tt
spells (suc n) (b ∷ bs) = spells_on n (b ∷ bs) (first_of (b ∷ bs)) refl (spells n)

unread_by : (bytes : List ℕ) (o : Option (List CPiece)) → Spells bytes o → ((ps : List CPiece) → All IsPlain ps × (bytes ≡ flat_map spelled ps) → ⊥)
    → o ≡ None
unread_by bytes None h k = refl
unread_by bytes (Some ps) h k = absurd (k ps h)

-- bytes that no pieces spell have none
pub read_none : (bytes : List ℕ) → ((ps : List CPiece) → IsCFormat bytes ps → ⊥) → pieces_of bytes ≡ None
read_none bytes k = unread_by (before_zero bytes) (pieces_of bytes) (spells (length (before_zero bytes)) (before_zero bytes)) k

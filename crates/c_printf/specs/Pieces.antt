-- The pieces of a format, where it is one.
use Rattle.std.specs.Prelude.{ℕ, zero, suc, Option, Some, None, List, [], ◌∷◌, length, drop}
use Rattle.dpi_format.specs.declared.c_piece.CPiece.{CPiece}
use Rattle.dpi_format.specs.CFormat.{spelled, before_zero}
use Rattle.dpi_format.specs.CFirst.{first_of}

-- a piece before others, where these are pieces
abbrev pub before_them : CPiece → Option (List CPiece) → Option (List CPiece)
before_them p None = None
before_them p (Some ps) = Some (p ∷ ps)

-- the piece that stands first in the bytes, then the pieces of what stands behind it
abbrev pub read_on : Option CPiece → (List ℕ → Option (List CPiece)) → List ℕ → Option (List CPiece)
read_on None behind bytes = None
read_on (Some p) behind bytes = before_them p (behind (drop (length (spelled p)) bytes))

-- the pieces of some bytes, of which there are at most so many
abbrev pub pieces_up_to : ℕ → List ℕ → Option (List CPiece)
pieces_up_to n [] = Some []
pieces_up_to zero (b ∷ bs) = None
pieces_up_to (suc n) (b ∷ bs) = read_on (first_of (b ∷ bs)) (pieces_up_to n) (b ∷ bs)

-- the pieces of a format, which ends before its first byte 0
abbrev pub pieces_of : List ℕ → Option (List CPiece)
pieces_of bytes = pieces_up_to (length (before_zero bytes)) (before_zero bytes)

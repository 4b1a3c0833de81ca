use Rattle.std.proofs.Common.{◌≡◌, ℕ, ◌-◌, Bool, not, List, length, arith, length-drop}
use Rattle.std.specs.List.{suffix_len, after_last}
use Rattle.std.proofs.lemmas.List.Sums.{suffix_len-le-length}
use Rattle.dpi_lex.specs.Place.{is_line_feed}

-- a byte that ends no line
abbrev pub stays_on_line : ℕ → Bool
stays_on_line byte = not (is_line_feed byte)

-- what stands after the last line feed is the longest end without one
pub length-after_last : (xs : List ℕ) →
    length (after_last is_line_feed xs) ≡ suffix_len stays_on_line xs
length-after_last xs =
    omega (
      arith,
      length-drop (length xs - suffix_len stays_on_line xs) xs,
      suffix_len-le-length
          stays_on_line xs,
    )

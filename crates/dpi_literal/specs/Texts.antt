-- Strings of both languages: the bytes that they stand for (1800 5.9, ISO C 6.4.5).
use Rattle.std.specs.Prelude.{◌≡◌, ℕ, ◌-◌, Bool, true, false, if◌then◌else◌, List, [], ◌∷◌, length, take, drop, codes}
use Rattle.std.specs.List.{flat_map}
use Rattle.dpi_lex.specs.Bytes.{is_among, is_backslash, is_quote}

-- the byte that an escape stands for, by the byte behind its backslash: a line feed for `n`, a tab
-- for `t`, the byte 0 for `0`, else that byte
abbrev pub escaped : ℕ → ℕ
escaped b =
    if is_among (codes "n") b
    then 10
    else (if is_among (codes "t") b then 9 else (if is_among (codes "0") b then 0 else b))

-- bytes with their escapes replaced. The first argument tells whether a backslash stands before
abbrev pub replaced : Bool → List ℕ → List ℕ
replaced behind [] = []
replaced false (b ∷ more) = if is_backslash b then replaced true more else b ∷ replaced false more
replaced true (b ∷ more) = escaped b ∷ replaced false more

-- the bytes between the first one and the last
abbrev pub inside : List ℕ → List ℕ
inside bytes = take (length bytes - 2) (drop 1 bytes)

-- the bytes that a string stands for
abbrev pub text_of : List ℕ → List ℕ
text_of bytes = replaced false (inside bytes)

-- how a byte may be written in a string of either language
abbrev pub spelled : ℕ → List ℕ
spelled b =
    if is_among (codes "\n") b
    then codes "\\n"
    else (if is_quote b then codes "\\\"" else (if is_backslash b then codes "\\\\" else b ∷ []))

-- a text that is written byte by byte is read as it was
abbrev pub ReadBack : Type 0
ReadBack = (text : List ℕ) → replaced false (flat_map spelled text) ≡ text

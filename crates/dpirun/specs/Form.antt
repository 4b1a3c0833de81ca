-- Fixed forms of files: a list of words, some of which stand for names and numbers.
use Rattle.std.specs.Prelude.{ℕ, Bool, true, false, ◌&&◌, ◌||◌, ◌==◌, not, nat_eq, List, [], ◌∷◌, ◌++◌, Option, Some, None, slice_get, option_map, is_some, codes, if◌then◌else◌}
use Rattle.std.specs.List.{starts_with}
use Rattle.std.specs.Option.{option_map_or}
use Rattle.std.specs.Char.{is_ascii_uppercase}
use Rattle.std.specs.Str.{bytes_eq}
use Rattle.dpi_lex.specs.Words.{Word}
use Rattle.dpi_lex.specs.declared.token.Kind.{Kind}
use Rattle.dpi_lex.specs.declared.token.Kind.TheVariants as Kinds
use Rattle.dpirun.specs.Literal.{value_of}
use Rattle.dpirun.specs.Names.{is_free_name}

-- the letter `N` stands for a number
abbrev pub is_number_letter : List ℕ → Bool
is_number_letter (letter ∷ []) = letter == 78
is_number_letter _ = false

-- every other single capital letter stands for a name
abbrev pub is_name_letter : List ℕ → Bool
is_name_letter (letter ∷ []) = is_ascii_uppercase letter && not (letter == 78)
is_name_letter _ = false

-- the token is a word
abbrev pub is_word : Kind → Bool
is_word Kinds.Word = true
is_word _ = false

-- the token is a number
abbrev pub is_number : Kind → Bool
is_number Kinds.Number = true
is_number _ = false

-- a word that is free to be a name, a decimal number, or the very word of the form
abbrev pub fits_word : List ℕ → Word → Bool
fits_word form w =
    if is_name_letter form then is_word w.kind && not (starts_with nat_eq w.bytes (codes "$")) && is_free_name w.bytes
    else if is_number_letter form then is_number w.kind && is_some (value_of w.bytes)
    else bytes_eq w.bytes form

-- what a word of the form leaves open, filled by the file's word
abbrev pub hole_of : List ℕ → Word → List (List ℕ)
hole_of form w = if is_name_letter form || is_number_letter form then w.bytes ∷ [] else []

-- the names and numbers of a file of that form, in their order; None where a word doesn't fit
abbrev pub holes_of : List (List ℕ) → List Word → Option (List (List ℕ))
holes_of [] [] = Some []
holes_of (form ∷ forms) (w ∷ ws) =
    if fits_word form w then option_map (λ more. hole_of form w ++ more) (holes_of forms ws) else None
holes_of _ _ = None

-- the bytes of the word of that number, from 0
abbrev pub bytes_at : List Word → ℕ → List ℕ
bytes_at ws i = option_map_or (λ w. w.bytes) (slice_get ws i) []

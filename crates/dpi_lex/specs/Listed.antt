use Rattle.std.specs.Prelude.{ℕ, Bool, true, List, [], ◌∷◌, ◌==◌, if◌then◌else◌, ◌&&◌, not, nat_le}
use Rattle.std.specs.Prelude.{length, slice_index, nat_eq}
use Rattle.std.specs.List.{starts_with, list_all}
use Rattle.dpi_lex.specs.declared.form.Form.TheVariants.{Whole}
use Rattle.dpi_lex.specs.declared.form.Stretch.{Stretch}
use Rattle.dpi_lex.specs.declared.token.Kind.{Kind}
use Rattle.dpi_lex.specs.Stretches.{bad_byte}

-- the length of the first of the texts with which the bytes begin; 0 where there is none
abbrev pub listed : List (List ℕ) → List ℕ → ℕ
listed [] rest = 0
listed (text ∷ more) rest = if starts_with nat_eq rest text then length text else listed more rest

-- a token of that many bytes; a bad byte for none
abbrev pub listed_stretch : Kind → ℕ → Stretch
listed_stretch kind len = if len == 0 then bad_byte else record { form = Whole kind; len = len }

-- the texts have bytes, and none is longer than one before it
abbrev pub falls : List (List ℕ) → Bool
falls [] = true
falls (text ∷ more) =
    nat_le 1 (length text) && (list_all (λ t. nat_le (length t) (length text)) more && falls more)

-- the first two bytes of a text
abbrev pub begins_with : ℕ → ℕ → List ℕ → Bool
begins_with a b text = nat_eq a (slice_index text 0) && nat_eq b (slice_index text 1)

-- none of the texts begins like a comment, with `//` or `/*`
abbrev pub no_comments : List (List ℕ) → Bool
no_comments texts =
    list_all (λ t. not (begins_with 47 47 t)) texts && list_all (λ t. not (begins_with 47 42 t))
    texts

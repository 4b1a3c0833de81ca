-- Which words are free to be names of a pair.
use Rattle.std.specs.Prelude.{ℕ, Bool, ◌||◌, not, List, map}
use Rattle.std.specs.List.{list_any}
use Rattle.std.specs.Str.{bytes_eq}
use Rattle.dpirun.specs.declared.names.TheConstants.{SV_KEYWORDS, C_KEYWORDS, LIBRARY_NAMES}

-- the word is one of these
abbrev pub is_among : List (List ℕ) → List ℕ → Bool
is_among names word = list_any (λ name. bytes_eq name word) names

-- the keywords of both languages, `printf`, and the names of `svdpi.h`
unfoldable pub sv_keywords : List (List ℕ)
sv_keywords = map (λ word. word.now) SV_KEYWORDS

unfoldable pub c_keywords : List (List ℕ)
c_keywords = map (λ word. word.now) C_KEYWORDS

unfoldable pub library_names : List (List ℕ)
library_names = map (λ word. word.now) LIBRARY_NAMES

-- the word is none of them
abbrev pub is_free_name : List ℕ → Bool
is_free_name word =
    not (is_among sv_keywords word || is_among c_keywords word || is_among library_names word)

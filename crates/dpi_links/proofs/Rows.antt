-- What a table has of one file.
use Rattle.std.proofs.Common.{◌≡◌, ℕ, List, map, sym, ap, ◌∙◌, Option, Some, None}
use Rattle.std.specs.Prelude.{option_map, slice_get}
use Rattle.std.specs.Slice.{IsItemAt}
use Rattle.std.proofs.lemmas.Option.{slice_get-map, slice_get_past, slice_get-get_or}
use denote.Ref.{Bor}
use Rattle.c_functions.specs.declared.declarations.Declaration.{Declaration}
use Rattle.c_functions.specs.Declarations.{told}
use Rattle.dpi_links.specs.Calls.{row_told}

pub row_is : (xs : List (List Declaration)) (i : ℕ) (row : Option (Bor (List Declaration))) → IsItemAt xs i row → option_map row_told row ≡ slice_get (map (map told) xs) i
row_is xs i None h = sym (slice_get-map (map told) xs i ∙ ap (option_map (map told)) (slice_get_past xs i (h.3)))
row_is xs i (Some b) h = sym (slice_get-map (map told) xs i ∙ ap (option_map (map told)) (slice_get-get_or xs i b.now (h.3.0) ∙ ap Some (sym (h.1))))

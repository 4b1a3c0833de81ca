-- Walks over declarations, in parts.
use Rattle.std.proofs.Common.{◌≡◌, ℕ, ◌+◌, ◌<◌, List, [], ◌∷◌, ◌++◌, map, take, get_or, length, refl, sym, ap, ◌∙◌, subst, append_assoc, Option, Some, None}
use Rattle.std.specs.Prelude.{Bool, filter, flat_map, if◌then◌else◌}
use Rattle.std.specs.Option.{option_or}
use Rattle.std.specs.Str.{bytes_eq}
use Rattle.std.proofs.lemmas.List.{append-nil, take_more, map-append}
use Rattle.std.proofs.lemmas.List.Elements.{filter-append}
use Rattle.std.proofs.lemmas.List.Folds.{find-append}
use Rattle.std.proofs.lemmas.Grind.{flat_map-append}
use Rattle.dpi_rules.specs.declared.violation.Violation.{Violation}
use Rattle.dpi_rules.specs.Least.{noted}
use Rattle.dpi_rules.proofs.Noting.{noted_both}
use Rattle.c_functions.specs.declared.again.Compared.{Compared}
use Rattle.c_functions.specs.declared.firsts.Firsts.{Firsts}
use Rattle.c_functions.specs.Declarations.{Known}
use Rattle.c_functions.specs.Again.{first_of, later_violations, violations_behind, added, firsts_of, Tells, Walks}

first_more : (before : List Known) (d : Known) (name : List ℕ) → first_of (before ++ d ∷ []) name ≡ option_or (first_of before name) (if bytes_eq d.name name then Some d else None)
first_more before d name = find-append (λ (e : Known). bytes_eq e.name name) before (d ∷ [])

-- one declaration
pub walks_one : (c : Compared) (d : Known) (old new : Firsts) {found found' : Option Violation} (first : Option Known) (before : List Known) → Tells old before → ((name : List ℕ) → firsts_of new name ≡ added (firsts_of old) d.name d name) → first ≡ firsts_of old d.name → found' ≡ noted found (later_violations c first d) → Walks c (d ∷ []) new found found' before
walks_one c d old new {found} first before tells more is n = record {
  tells = λ name.
      more name
      ∙ ap (λ o. option_or o (if bytes_eq d.name name then Some d else None)) (tells name)
      ∙ sym (first_more before d name);
  found_are =
      n
      ∙ ap (λ o. noted found (later_violations c o d)) (is ∙ tells d.name)
      ∙ ap (noted found) (sym (append-nil (later_violations c (first_of before d.name) d)));
}

-- none
pub walks_none : (c : Compared) (firsts : Firsts) (found : Option Violation) (before : List Known) → Tells firsts before → Walks c [] firsts found found before
walks_none c firsts found before tells = record {
  tells = subst (Tells firsts) (sym (append-nil before)) tells;
  found_are = refl;
}

behind_both : (c : Compared) (before ds es : List Known) → violations_behind c before (ds ++ es) ≡ violations_behind c before ds ++ violations_behind c (before ++ ds) es
behind_both c before [] es = ap (λ ds. violations_behind c ds es) (sym (append-nil before))
behind_both c before (d ∷ ds) es =
    let here = later_violations c (first_of before d.name) d in
    ap (λ vs. here ++ vs) (behind_both c (before ++ d ∷ []) ds es)
    ∙ ap (λ xs. here ++ (violations_behind c (before ++ d ∷ []) ds ++ violations_behind c xs es)) (append_assoc before (d ∷ []) ds)
    ∙ sym (append_assoc here (violations_behind c (before ++ d ∷ []) ds) (violations_behind c (before ++ d ∷ ds) es))

-- some declarations, and then others
pub walks_both : (c : Compared) (ds es : List Known) {middle new : Firsts} {found found' found'' : Option Violation} (before : List Known) → Walks c ds middle found found' before → Walks c es new found' found'' (before ++ ds) → Walks c (ds ++ es) new found found'' before
walks_both c ds es {middle} {new} {found} before first second = record {
  tells = subst (Tells new) (append_assoc before ds es) second.tells;
  found_are =
      noted_both found (violations_behind c before ds) (violations_behind c (before ++ ds) es) first.found_are second.found_are
      ∙ ap (noted found) (sym (behind_both c before ds es));
}

-- one more item of a list that is told and filtered
pub picked_more : {X A : Type 0} (told : X → A) (p : A → Bool) (xs : List X) (i : ℕ) (x : X) → i < length xs → x ≡ get_or xs i x → filter p (map told (take i xs)) ++ filter p (told x ∷ []) ≡ filter p (map told (take (i + 1) xs))
picked_more told p xs i x h e =
    sym (filter-append p (map told (take i xs)) (told x ∷ []))
    ∙ ap (filter p) (sym (map-append told (take i xs) (x ∷ [])))
    ∙ ap (λ y. filter p (map told (take i xs ++ y ∷ []))) e
    ∙ ap (λ ys. filter p (map told ys)) (sym (take_more xs i x h))

-- one more list of a table that is told, joined and filtered
pub joined_more : {X A : Type 0} (told : X → A) (p : A → Bool) (table : List (List X)) (i : ℕ) (xs : List X) → i < length table → xs ≡ get_or table i xs → filter p (flat_map (λ ys. ys) (map (map told) (take i table))) ++ filter p (map told xs) ≡ filter p (flat_map (λ ys. ys) (map (map told) (take (i + 1) table)))
joined_more {X} {A} told p table i xs h e =
    let before : List (List A) = map (map told) (take i table) in
    sym (filter-append p (flat_map (λ ys. ys) before) (map told xs))
    ∙ ap (λ ys. filter p (flat_map (λ ys. ys) before ++ ys)) (sym (append-nil (map told xs)))
    ∙ ap (filter p) (sym (flat_map-append (λ ys. ys) before (map told xs ∷ [])))
    ∙ ap (λ ys. filter p (flat_map (λ ys. ys) ys)) (sym (map-append (map told) (take i table) (xs ∷ [])))
    ∙ ap (λ y. filter p (flat_map (λ ys. ys) (map (map told) (take i table ++ y ∷ [])))) e
    ∙ ap (λ ys. filter p (flat_map (λ ys. ys) (map (map told) ys))) (sym (take_more table i xs h))

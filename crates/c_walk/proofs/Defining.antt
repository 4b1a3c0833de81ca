-- Values of defines one after another.
use Rattle.std.proofs.Common.{◌≡◌, ℕ, ◌+◌, ◌<◌, ◌≤◌, List, length, drop, get_or, sym, ap, ◌∙◌}
use Rattle.std.proofs.lemmas.List.{drop_all}
use Rattle.c_tree.specs.declared.file.External.{External}
use Rattle.c_walk.specs.Around.{Values, external_values, values_behind}
use Rattle.c_walk.proofs.Walking.{rest_of}

pub defining_next : (all : Values) (es : List External) (i : ℕ) (e : External) (values values' : Values) → i < length es → e ≡ get_or es i e → values' ≡ external_values values e → all ≡ values_behind values (drop i es) → all ≡ values_behind values' (drop (i + 1) es)
defining_next all es i e values values' h is next same =
    same ∙ ap (values_behind values) (rest_of es i e h is) ∙ ap (λ v. values_behind v (drop (i + 1) es)) (sym next)

pub defining_last : (all : Values) (es : List External) (i : ℕ) (values : Values) → length es ≤ i → all ≡ values_behind values (drop i es) → values ≡ all
defining_last all es i values h same = sym (same ∙ ap (values_behind values) (drop_all i es h))

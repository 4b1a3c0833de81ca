-- Numbers by name, one after another.
use Rattle.std.proofs.Common.{◌≡◌, ℕ, List, ◌∷◌, Bool, true, false, cond, Option, None, sym, ap, ◌∙◌}
use Rattle.std.specs.Option.{option_or}
use Rattle.std.specs.Str.{bytes_eq}
use Rattle.dpi_table.proofs.Cells.{option_or-assoc, option_or-none}
use Rattle.c_functions.proofs.Adding.{same_names}
use Rattle.c_lookup.specs.Names.{Names, no_names, only_named, or_names, first_named}

-- the first of three
or_names-assoc : (u v w : Names) → or_names (or_names u v) w ≡ or_names u (or_names v w)
or_names-assoc u v w = same_names (or_names (or_names u v) w) (or_names u (or_names v w)) (λ q. option_or-assoc (u q) (v q) (w q))

-- numbers, and no others
pub or_names-none : (v : Names) → or_names v no_names ≡ v
or_names-none v = same_names (or_names v no_names) v (λ q. option_or-none (v q))

nothing : (a : Option ℕ) (b : Bool) → option_or a (cond b None None) ≡ a
nothing a true = option_or-none a
nothing a false = option_or-none a

-- numbers, and none under one name
pub or_nothing-names : (v : Names) (name : List ℕ) → or_names v (only_named name None) ≡ v
or_nothing-names v name = same_names (or_names v (only_named name None)) v (λ q. nothing (v q) (bytes_eq name q))

-- one item more: with the items left over it comes to the same
pub names_next : {X : Type 0} (says : X → Names) (all v next : Names) (xs ys : List X) (x : X) → xs ≡ x ∷ ys
    → next ≡ or_names v (says x)
    → or_names v (first_named says xs) ≡ all
    → or_names next (first_named says ys) ≡ all
names_next says all v next xs ys x here made loop =
    ap (λ w. or_names w (first_named says ys)) made
    ∙ or_names-assoc v (says x) (first_named says ys)
    ∙ ap (λ zs. or_names v (first_named says zs)) (sym here)
    ∙ loop

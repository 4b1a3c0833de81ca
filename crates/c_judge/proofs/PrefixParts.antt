-- Prefixes before a part of an initialiser, the last of which applies first.
use Rattle.std.proofs.Common.{◌≡◌, ℕ, List, [], ◌∷◌, ◌++◌, refl, sym, ap, ◌∙◌, suc, ◌<◌, length, take, get_or}
use Rattle.std.proofs.Math.Seq.{take-suc}
use Rattle.c_tree.specs.declared.expr.Prefix.{Prefix}
use Rattle.c_initial.specs.declared.parts.Part.{Part}
use Rattle.c_judge.specs.Parts.{prefix_part, prefixes_part}

last_part : (ps : List Prefix) (x : Prefix) (p : Part) → prefixes_part (ps ++ x ∷ []) p ≡ prefixes_part ps (prefix_part x p)
last_part [] x p = refl
last_part (y ∷ ps) x p = ap (prefix_part y) (last_part ps x p)

-- one turn of a loop from the last prefix on
pub one_part : (ps : List Prefix) (n k : ℕ) (d : Prefix) (p next : Part) → n ≡ suc k → k < length ps → next ≡ prefix_part (get_or ps k d) p
    → prefixes_part (take n ps) p ≡ prefixes_part (take k ps) next
one_part ps n k d p next e h is =
    ap (λ m. prefixes_part (take m ps) p) e
    ∙ ap (λ xs. prefixes_part xs p) (take-suc ps k d h)
    ∙ last_part (take k ps) (get_or ps k d) p
    ∙ ap (prefixes_part (take k ps)) (sym is)

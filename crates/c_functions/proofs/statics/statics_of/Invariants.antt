use Rattle.std.proofs.Common.{◌≡◌, ℕ, List, drop}
use Rattle.std.specs.Prelude.{◌||◌}
use Rattle.std.specs.List.{list_any}
use Rattle.c_functions.specs.Declarations.{has, is_static_of, statics_in}
use Rattle.c_functions.proofs.statics.statics_of.Given as goal

-- the names so far, and those of the declarations left over, come to the same as all
abbrev pub invariant-loop-external : goal.invariant-loop-external
invariant-loop-external l =
    (q : List ℕ) → (has l.statics q || list_any (is_static_of q) (drop l.external-index l.externals)) ≡ statics_in l.externals q

-- A part that opens a level, and what stands behind it.
use Rattle.std.proofs.Common.{◌≡◌, Option, Some, None, refl}
use Rattle.dpi_grammar.specs.Parser.{State, Parser, and_then, level}

-- The rest of a part is read alike inside the level and behind it.
pub level_then : {T E A B : Type 0} (o : Option E) (body : E → Parser T A) (q : A → Parser T B) (s : State T)
    → level o (λ e s. and_then (body e s) q) s ≡ and_then (level o body s) q
level_then None body q s = refl
level_then (Some e) body q s = refl

-- A loop over the widths of items.
use Rattle.std.proofs.Common.{◌≡◌, ℕ, suc, ◌+◌, ◌<◌, ◌≤◌, max, List, [], ◌∷◌, length, drop, get_or, sym, ap, ◌∙◌, add-one, arith, Option}
use Rattle.std.proofs.Math.Seq.{drop-cons}
use Rattle.sv_typing.specs.declared.types.Operand.{Operand}
use Rattle.sv_contexts.specs.Cases.{widest, item_width}

rest_of : {X : Type 0} (xs : List X) (i : ℕ) (x : X) → i < length xs → x ≡ get_or xs i x → drop i xs ≡ x ∷ drop (i + 1) xs
rest_of xs i x h e = rw add-one (drop-cons xs i x h ∙ ap (λ y. y ∷ drop (suc i) xs) (sym e))

-- the widest so far, and that of what is left
pub widest_next : (xs : List (Option Operand)) (i : ℕ) (x : Option Operand) (w : ℕ) → i < length xs → x ≡ get_or xs i x → max w (widest (drop i xs)) ≡ widest xs → max (max (item_width x) w) (widest (drop (i + 1) xs)) ≡ widest xs
widest_next xs i x w h e k = omega (arith, k, ap widest (rest_of xs i x h e))

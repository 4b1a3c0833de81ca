use Rattle.std.proofs.Common.{◌≡◌, ℕ, ◌+◌, ◌<◌, List, [], ◌∷◌, length, refl, sym, ap, arith, Option, Some, None}
use Rattle.std.specs.Prelude.{option_and_then}
use Rattle.std.proofs.lemmas.Option.{same_Some}
use Rattle.dpi_shape.specs.declared.range.Range.{Range}
use Rattle.dpi_shape.specs.declared.leaf.Leaf.{Leaf}
use Rattle.dpi_shape.specs.declared.shape.Shape.{Shape}
use Rattle.sv_shapes.specs.Kinds.{shape_in, shape_at}
use Rattle.sv_shapes.proofs.Many.{length-joined, no_form}
use Rattle.sv_formals.specs.Formals.{taken_range, taken_ranges}
use Rattle.sv_formals.proofs.shapes.taken_shape.Goals as goal

length-taken : (actual : Shape) (n : ℕ) (ds : List (Option Range)) (rs : List Range) → taken_ranges actual n ds ≡ Some rs → length rs ≡ length ds
length-taken actual n [] rs e = ap length (sym (same_Some [] rs e))
length-taken actual n (d ∷ ds) rs e = length-joined (taken_range actual n d) (taken_ranges actual (n + 1) ds) (length ds) rs e (λ qs is. length-taken actual (n + 1) ds qs is)

too_many : (actual : Shape) (leaf : Leaf) (ds : List (Option Range)) (o : Option (List Range)) → taken_ranges actual 1 ds ≡ o → 3 < length ds → None ≡ shape_at leaf o
too_many actual leaf ds None e h = refl
too_many actual leaf ds (Some rs) e h = sym (ap (option_and_then (shape_in leaf)) (no_form rs (omega (arith, h, length-taken actual 1 ds rs e))))

pub returns-in_default : goal.returns-in_default
returns-in_default c = too_many c.args.actual.now c.args.leaf c.args.dims.now (taken_ranges c.args.actual.now 1 c.args.dims.now) refl c.in_default.len_at_least

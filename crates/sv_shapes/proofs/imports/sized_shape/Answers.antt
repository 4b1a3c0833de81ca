use Rattle.std.proofs.Common.{◌≡◌, ◌<◌, List, [], ◌∷◌, length, refl, sym, ap, arith, Option, Some, None}
use Rattle.std.specs.Prelude.{option_and_then}
use Rattle.std.proofs.lemmas.Option.{same_Some}
use Rattle.dpi_shape.specs.declared.range.Range.{Range}
use Rattle.dpi_shape.specs.declared.leaf.Leaf.{Leaf}
use Rattle.sv_tree.specs.declared.types.ImportDimension.{ImportDimension}
use Rattle.sv_shapes.specs.Kinds.{shape_in, shape_at}
use Rattle.sv_shapes.specs.Imports.{sized_range, sized_ranges}
use Rattle.sv_shapes.proofs.Many.{length-joined, no_form}
use Rattle.sv_shapes.proofs.imports.sized_shape.Goals as goal

length-sized : (ds : List ImportDimension) (rs : List Range) → sized_ranges ds ≡ Some rs → length rs ≡ length ds
length-sized [] rs e = ap length (sym (same_Some [] rs e))
length-sized (d ∷ ds) rs e = length-joined (sized_range d) (sized_ranges ds) (length ds) rs e (λ qs is. length-sized ds qs is)

too_many : (leaf : Leaf) (ds : List ImportDimension) (o : Option (List Range)) → sized_ranges ds ≡ o → 3 < length ds → None ≡ shape_at leaf o
too_many leaf ds None e h = refl
too_many leaf ds (Some rs) e h = sym (ap (option_and_then (shape_in leaf)) (no_form rs (omega (arith, h, length-sized ds rs e))))

pub returns-in_default : goal.returns-in_default
returns-in_default c = too_many c.args.leaf c.args.dimensions.now (sized_ranges c.args.dimensions.now) refl c.in_default.len_at_least

use Rattle.std.proofs.Common.{◌≡◌, ◌<◌, List, [], ◌∷◌, length, refl, arith, Option, Some, None}
use Rattle.dpi_shape.specs.declared.range.Range.{Range}
use Rattle.sv_tree.specs.declared.types.ImportDimension.{ImportDimension}
use Rattle.sv_shapes.specs.Formals.{open_dims, joined_open, formal_range, formal_ranges}
use Rattle.sv_shapes.proofs.formals.open_dims.Goals as goal

four : (a b c d : Option (Option Range)) (rs : Option (List (Option Range)))
    → None ≡ open_dims (joined_open a (joined_open b (joined_open c (joined_open d rs))))
four None b c d rs = refl
four (Some a) None c d rs = refl
four (Some a) (Some b) None d rs = refl
four (Some a) (Some b) (Some c) None rs = refl
four (Some a) (Some b) (Some c) (Some d) None = refl
four (Some a) (Some b) (Some c) (Some d) (Some rs) = refl

-- more than three dimensions have no form
many : (ds : List ImportDimension) → 3 < length ds → None ≡ open_dims (formal_ranges ds)
many [] h = absurd (omega (arith, h))
many (a ∷ []) h = absurd (omega (arith, h))
many (a ∷ b ∷ []) h = absurd (omega (arith, h))
many (a ∷ b ∷ c ∷ []) h = absurd (omega (arith, h))
many (a ∷ b ∷ c ∷ d ∷ ds) h = four (formal_range a) (formal_range b) (formal_range c) (formal_range d) (formal_ranges ds)

pub returns-in_default : goal.returns-in_default
returns-in_default c = many c.args.dimensions.now c.in_default.len_at_least

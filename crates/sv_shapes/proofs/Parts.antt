-- Where a part has a value, it violates nothing, and the other way round.
use Rattle.std.proofs.Common.{◌≡◌, ℕ, ℤ, List, [], ◌∷◌, refl, sym, ap, ◌∙◌, Bool, true, false, Option, Some, None, if◌then◌else◌}
use Rattle.std.specs.Prelude.{◌&&◌, nat_le, flat_map, option_map}
use Rattle.std.specs.Option.{is_some}
use Rattle.dpi_rules.specs.declared.violation.Violation.{Violation}
use Rattle.dpi_rules.specs.Least.{is_clean}
use Rattle.dpi_rules.proofs.Noting.{is_clean-append}
use Rattle.dpi_literal.specs.SvNumber.{decimal_of}
use Rattle.dpi_shape.specs.declared.range.Range.{Range}
use Rattle.dpi_shape.specs.declared.shape.TheConstants.{MOST_WIDTH}
use Rattle.dpi_shape.specs.Range.{size}
use Rattle.sv_tree.specs.declared.leaves.Bound.{Bound}
use Rattle.sv_tree.specs.declared.kinds.VectorKind.{VectorKind}
use Rattle.sv_tree.specs.declared.types.Range.{Range as PackedRange}
use Rattle.sv_tree.specs.declared.types.DataType.{DataType}
use Rattle.sv_tree.specs.declared.types.DataType.TheVariants as types
use Rattle.sv_tree.specs.declared.types.Dimension.{Dimension}
use Rattle.sv_tree.specs.declared.types.Dimension.TheVariants as dimensions
use Rattle.sv_shapes.specs.declared.elements.Element.TheVariants as elements
use Rattle.sv_shapes.specs.Bounds.{unless_some, ranged, bound_value, bound_violations, bounds_violations, range_between, shape_broken}
use Rattle.sv_shapes.specs.Elements.{narrow, packed_range, packed, vector, is_signed, element_of, width_violations, range_violations, packed_violations, type_violations}
use Rattle.sv_shapes.specs.Dimensions.{counted, dimension_range, dimension_violations, joined_range, ranges_of}

pub both : (a b c d : Bool) → a ≡ c → b ≡ d → (a && b) ≡ (c && d)
both a b c d p q = ap (λ x. x && b) p ∙ ap (λ y. c && y) q

pub unless_clean : {T : Type 0} (o : Option T) (v : Violation) → is_clean (unless_some o v) ≡ is_some o
unless_clean None v = refl
unless_clean (Some x) v = refl

some_map : {T U : Type 0} (f : T → U) (o : Option T) → is_some (option_map f o) ≡ is_some o
some_map f None = refl
some_map f (Some x) = refl

ranged_some : (a b : Option ℤ) → is_some (ranged a b) ≡ (is_some a && is_some b)
ranged_some None b = refl
ranged_some (Some l) None = refl
ranged_some (Some l) (Some r) = refl

bounds_clean : (file : ℕ) (a b : Bound) → is_clean (bounds_violations file a b) ≡ is_some (range_between a b)
bounds_clean file a b =
    is_clean-append (bound_violations file a) (bound_violations file b)
    ∙ both _ _ _ _ (unless_clean (bound_value a) (shape_broken file a.number.token)) (unless_clean (bound_value b) (shape_broken file b.number.token))
    ∙ sym (ranged_some (bound_value a) (bound_value b))

chosen : (b : Bool) (v : Violation) (r : Range) → is_clean (if b then [] else v ∷ []) ≡ is_some (if b then Some r else None)
chosen true v r = refl
chosen false v r = refl

narrow_clean : (file token : ℕ) (o : Option Range) → (is_some o && is_clean (width_violations file token o)) ≡ is_some (narrow o)
narrow_clean file token None = refl
narrow_clean file token (Some r) = chosen (nat_le (size r) MOST_WIDTH) (shape_broken file token) r

range_clean : (file : ℕ) (r : PackedRange) → is_clean (range_violations file r) ≡ is_some (packed_range r)
range_clean file r =
    is_clean-append (bounds_violations file r.left r.right) (width_violations file r.token (range_between r.left r.right))
    ∙ ap (λ b. b && is_clean (width_violations file r.token (range_between r.left r.right))) (bounds_clean file r.left r.right)
    ∙ narrow_clean file r.token (range_between r.left r.right)

packed_clean : (file : ℕ) (kind : VectorKind) (signed : Bool) (o : Option PackedRange) → is_clean (packed_violations file o) ≡ is_some (packed kind signed o)
packed_clean file kind signed None = refl
packed_clean file kind signed (Some r) = range_clean file r ∙ sym (some_map (vector kind signed) (packed_range r))

pub type_clean : (file : ℕ) (type : DataType) → is_clean (type_violations file type) ≡ is_some (element_of type)
type_clean file (types.Vector k kind sign range) =
    packed_clean file kind (is_signed false sign) range ∙ sym (some_map elements.Packed (packed kind (is_signed false sign) range))
type_clean file (types.Whole k kind sign) = refl
type_clean file (types.Integer k) = refl
type_clean file (types.String k) = refl
type_clean file (types.Chandle k) = refl

dimension_clean : (file : ℕ) (d : Dimension) → is_clean (dimension_violations file d) ≡ is_some (dimension_range d)
dimension_clean file (dimensions.Range k left right) = bounds_clean file left right
dimension_clean file (dimensions.Size k number) = unless_clean (counted (decimal_of number.bytes)) (shape_broken file k)

joined_some : (a : Option Range) (b : Option (List Range)) → is_some (joined_range a b) ≡ (is_some a && is_some b)
joined_some None b = refl
joined_some (Some r) None = refl
joined_some (Some r) (Some rs) = refl

pub dimensions_clean : (file : ℕ) (ds : List Dimension) → is_clean (flat_map (dimension_violations file) ds) ≡ is_some (ranges_of ds)
dimensions_clean file [] = refl
dimensions_clean file (d ∷ ds) =
    is_clean-append (dimension_violations file d) (flat_map (dimension_violations file) ds)
    ∙ both _ _ _ _ (dimension_clean file d) (dimensions_clean file ds)
    ∙ sym (joined_some (dimension_range d) (ranges_of ds))

use Rattle.std.proofs.Common.{◌≡◌, ◌↔◌, List, [], ◌∷◌, Option, Some, None, Bool, true, false, refl, sym, ap, ◌∙◌, subst}
use Rattle.std.specs.Prelude.{IsSome, IfSome, option_and_then}
use Rattle.std.proofs.lemmas.Option.{same_Some}
use Rattle.std.proofs.lemmas.Bool.{false≢true}
use Rattle.std.proofs.Math.Bridge.{le_prop}
use Rattle.dpi_shape.specs.declared.range.Range.{Range}
use Rattle.dpi_shape.specs.declared.leaf.Leaf.{Leaf}
use Rattle.dpi_shape.specs.declared.dims.Dims.{Dims}
use Rattle.dpi_shape.specs.declared.shape.Shape.{Shape}
use Rattle.dpi_shape.specs.Dims.{IsShape, ranges_of, dims_by}
use Rattle.dpi_shape.specs.Shape.{leaf_of, form_of}
use Rattle.sv_shapes.specs.Limits.{is_within, is_shape}
use Rattle.sv_shapes.specs.Kinds.{shape_if, shape_in, shape_kept}
use Rattle.sv_shapes.proofs.Within.{shape_within}
use Rattle.sv_formals.proofs.shapes.within.Goals as goal

one_proof : (leaf : Leaf) (rs : List Range) → IsProp (IsShape leaf rs)
one_proof leaf rs = hlevel le_prop

kept_if : (s : Shape) (b : Bool) (e : is_within s.leaf (ranges_of s.dims) ≡ b) → b ≡ true → Some s ≡ shape_if s.leaf s.dims b e
kept_if s true e h = ap (λ p. Some (record s { sized = p })) (one_proof s.leaf (ranges_of s.dims) _ _)
kept_if s false e h = absurd (cc)

kept_in : (s : Shape) → Some s ≡ shape_in s.leaf s.dims
kept_in s = kept_if s (is_within s.leaf (ranges_of s.dims)) refl (shape_within s.leaf (ranges_of s.dims) s.sized)

ranges_by : (rs : List Range) (d : Dims) → dims_by rs ≡ Some d → ranges_of d ≡ rs
ranges_by [] d e = sym (ap ranges_of (same_Some _ d e))
ranges_by (a ∷ []) d e = sym (ap ranges_of (same_Some _ d e))
ranges_by (a ∷ b ∷ []) d e = sym (ap ranges_of (same_Some _ d e))
ranges_by (a ∷ b ∷ c ∷ []) d e = sym (ap ranges_of (same_Some _ d e))
ranges_by (a ∷ b ∷ c ∷ x ∷ more) d e = absurd (cc)

none_if : (leaf : Leaf) (d : Dims) (b : Bool) (e : is_within leaf (ranges_of d) ≡ b) → (IsShape leaf (ranges_of d) → ⊥) → None ≡ shape_if leaf d b e
none_if leaf d true e h = absurd (h (is_shape leaf (ranges_of d) e))
none_if leaf d false e h = refl

none_by : (leaf : Leaf) (rs : List Range) (o : Option Dims) → dims_by rs ≡ o → (IsShape leaf rs → ⊥) → None ≡ option_and_then (shape_in leaf) o
none_by leaf rs None e h = refl
none_by leaf rs (Some d) e h =
    none_if leaf d (is_within leaf (ranges_of d)) refl (λ fits. h (subst (λ qs. IsShape leaf qs) (ranges_by rs d e) fits))

kept_by : (leaf : Leaf) (rs : List Range) (r : Option Shape) → (IsSome r ↔ IsShape leaf rs) → IfSome r (λ s. leaf_of s ≡ leaf)
    → IfSome r (λ s. dims_by rs ≡ Some (form_of s)) → r ≡ shape_kept leaf rs
kept_by leaf rs (Some s) limits of_leaf form =
    kept_in s ∙ ap (λ l. shape_in l s.dims) of_leaf ∙ ap (option_and_then (shape_in leaf)) (sym form)
kept_by leaf rs None limits of_leaf form = none_by leaf rs (dims_by rs) refl (λ fits. absurd (false≢true (limits.1 fits)))

pub returns : goal.returns
returns c =
    kept_by c.args.leaf c.args.ranges.now c.new.result c.new.ensures.limits c.new.ensures.leaf_kept c.new.ensures.form

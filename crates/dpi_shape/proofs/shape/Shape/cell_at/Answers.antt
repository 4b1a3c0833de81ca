use Rattle.std.proofs.Common.{◌≡◌, ap, sym, ◌∙◌, refl, arith, rules, Some, length, false, true}
use Rattle.std.proofs.Common.{get_or, pos, w32}
use mir.Val.{SFits}
use Rattle.std.proofs.lemmas.Int.{to_z-of_z}
use Rattle.dpi_shape.specs.Leaf.{element_cells}
use Rattle.dpi_shape.specs.Shape.{dims_of, first_element, first_cell}
use Rattle.dpi_shape.proofs.Cells.{scaled}
use Rattle.dpi_shape.proofs.Walks.{walks-more, walks-outside, walks-all, answer_inside}
use Rattle.dpi_shape.proofs.Walks.{answer_alone, element_cells-some}
use Rattle.dpi_shape.proofs.shape.Shape.cell_at.Goals as goal

outside : (c : goal.After-from_residual)
    → first_cell c.args.self.now c.args.indices.now ≡ c.from_residual.result
outside c =
    let fits : SFits w32 (get_or c.args.indices.now c.loop-place.place (pos 0)) = search rules in
    let long : length c.as_slice-ranges.result.now ≡ length (dims_of c.args.self.now) =
    ap length c.as_slice-ranges.ensures in
    ap (λ rs. scaled (element_cells c.args.self.now.leaf) (first_element rs c.args.indices.now))
    (sym c.as_slice-ranges.ensures)
    ∙ walks-outside _ _ _ _ _ _ _ _ (omega arith) c.loop-place-test.true (to_z-of_z w32 _ fits)
    (λ h. let told : false ≡ true = c.in_err-element.ensures.inside.1 h in cc)
    c.loop-place.invariant
    ∙ sym c.from_residual.ensures

pub returns-in_err-element-clause-inside : goal.returns-in_err-element-clause-inside
returns-in_err-element-clause-inside c = answer_inside _ _ _ _ c.requires (outside c)

pub returns-in_err-element-clause-value : goal.returns-in_err-element-clause-value
returns-in_err-element-clause-value c = sym (outside c)

pub loop-place-preserved : goal.loop-place-preserved
loop-place-preserved c =
    let fits : SFits w32 (get_or c.args.indices.now c.loop-place.place (pos 0)) = search rules in
    let long : length c.as_slice-ranges.result.now ≡ length (dims_of c.args.self.now) =
    ap length c.as_slice-ranges.ensures in
    walks-more _ _ _ _ _ _ _ _ _ _ (omega arith) c.loop-place-test.true c.size.ensures.value
    (to_z-of_z w32 _ fits) (c.in_ok-element.ensures.inside.0 refl)
    (rw c.from.ensures c.in_ok-element.ensures.value) c.loop-place.invariant

inside : (c : goal.After-loop-place)
    → first_cell c.args.self.now c.args.indices.now ≡ Some c.loop-place.cell
inside c =
    ap (λ rs. scaled (element_cells c.args.self.now.leaf) (first_element rs c.args.indices.now))
    (sym c.as_slice-ranges.ensures)
    ∙ walks-all _ _ _ _ _ _ c.loop-place-test.false c.loop-place.invariant

pub returns-clause-inside : goal.returns-clause-inside
returns-clause-inside c = answer_inside _ _ _ _ c.requires (inside c)

pub returns-clause-value : goal.returns-clause-value
returns-clause-value c = sym (inside c)

pub returns-clause-alone : goal.returns-clause-alone
returns-clause-alone c =
    λ other long same. answer_alone _ _ _ _ _ (element_cells-some _) long (inside c) same

use Rattle.std.proofs.Common.{◌≡◌, sym, subst, length-drop, drop, arith}
use Rattle.std.proofs.lemmas.Grind.{common_steps}
use Rattle.dpi_shape.specs.Dims.{IsShape, ranges_of}
use Rattle.dpi_shape.specs.Shape.{dims_of}
use Rattle.dpi_shape.proofs.Cells.{parts_join, part_small}
use Rattle.dpi_shape.proofs.shape.Shape.sub.Goals as goal

dims_left : (c : goal.After-unwrap)
    → ranges_of c.unwrap.result ≡ drop c.args.n (ranges_of c.args.self.now.dims)
dims_left c = grind (arith, common_steps)

pub invariant_of-result : goal.invariant_of-result
invariant_of-result c = record {
  sized = subst (IsShape c.args.self.now.leaf) (sym (dims_left c)) (record {
    few =
        omega (arith, length-drop c.args.n (dims_of c.args.self.now), c.args.self.now.sized.few);
    narrow = c.args.self.now.sized.narrow;
    small = part_small (ranges_of c.args.self.now.dims) c.args.n _ _ c.args.self.now.sized.small;
  });
}

pub returns-clause-places : goal.returns-clause-places
returns-clause-places c =
    let left : ranges_of c.unwrap.result ≡ drop c.args.n (ranges_of c.args.self.now.dims) =
    grind (arith, common_steps) in
    λ is js long. parts_join _ _ _ is js _ c.requires left long

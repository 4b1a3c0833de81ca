use Rattle.std.proofs.Common.{◌∙◌}
use Rattle.dpi_shape.specs.Shape.{dims_of}
use Rattle.dpi_boundary.proofs.Sizes.{same_three}
use Rattle.dpi_boundary.proofs.kinds.same_sizes.Goals as goal

pub returns : goal.returns
returns c =
    c.all_three.ensures
    ∙ rw c.same_size-first.ensures (rw c.same_size-second.ensures (rw c.same_size-third.ensures
    (rw c.range.ensures (rw c.range-2.ensures (rw c.range-3.ensures (rw c.range-4.ensures (rw c.range-5.ensures (rw c.range-6.ensures
    (same_three (dims_of c.args.a) (dims_of c.args.b) c.args.a.sized.few c.args.b.sized.few)))))))))

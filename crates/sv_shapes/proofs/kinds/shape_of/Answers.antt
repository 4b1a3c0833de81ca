use Rattle.std.proofs.Common.{refl}
use Rattle.sv_shapes.specs.Dimensions.{ranges_of}
use Rattle.sv_shapes.proofs.Many.{too_many, too_many_kept}
use Rattle.sv_shapes.proofs.kinds.shape_of.Goals as goal

pub returns-in_default-clause-told : goal.returns-in_default-clause-told
returns-in_default-clause-told c = too_many c.args.leaf c.args.dimensions.now (ranges_of c.args.dimensions.now) refl c.in_default.len_at_least

pub returns-in_default-clause-kept : goal.returns-in_default-clause-kept
returns-in_default-clause-kept c = too_many_kept c.args.leaf c.args.dimensions.now (ranges_of c.args.dimensions.now) refl c.in_default.len_at_least

use Rattle.std.proofs.Common.{ap, ◌∙◌}
use Rattle.dpi_table.specs.Files.{held_in}
use Rattle.dpi_table.proofs.InFiles.{push_empty}
use Rattle.dpi_table.proofs.tables.grow.Goals as goal

pub loop-alloc-preserved : goal.loop-alloc-preserved
loop-alloc-preserved g c = ap held_in c.in_ok-push.ensures.items ∙ push_empty c.loop-alloc.files.items c.new.result c.new.ensures ∙ c.loop-alloc.invariant

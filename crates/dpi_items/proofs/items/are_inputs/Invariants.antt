use Rattle.std.proofs.Common.{drop, ◌≡◌}
use Rattle.dpi_items.specs.Items.{are_inputs}
use Rattle.dpi_items.proofs.items.are_inputs.Given as goal

-- all so far are inputs
abbrev pub invariant-loop-formal : goal.invariant-loop-formal
invariant-loop-formal l = are_inputs l.formals ≡ are_inputs (drop l.formal-index l.formals)

use Rattle.std.proofs.Common.{◌≡◌, ◌+◌, ◌≤◌, drop}
use Rattle.sv_typing.specs.Concatenations.{total_width}
use Rattle.sv_typing.proofs.concatenations.narrow_width.Given as goal

-- the bits so far, within the limit, and those of the parts left over
abbrev pub invariant-loop-part : goal.invariant-loop-part
invariant-loop-part l =
    (l.total + total_width (drop l.part-index l.parts) ≡ total_width l.parts) × (l.total ≤ 1024)

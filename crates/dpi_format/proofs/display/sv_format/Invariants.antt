use Rattle.std.proofs.Common.{length, ◌-◌}
use Rattle.dpi_format.specs.SvFormat.{spelled, IsPlain}
use Rattle.dpi_format.proofs.Codes.{HasRead}
use Rattle.dpi_format.proofs.display.sv_format.Given as goal

abbrev pub invariant-loop-place : goal.invariant-loop-place
invariant-loop-place l = HasRead spelled IsPlain l.bytes l.place l.pieces.items

abbrev pub decreases-loop-place : goal.decreases-loop-place
decreases-loop-place l = length l.bytes - l.place

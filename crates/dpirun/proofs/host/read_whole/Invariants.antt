use Rattle.std.proofs.Common.{◌≤◌, length}
use Rattle.std.specs.Io.KnownBytes.{Consumes}
use Rattle.dpirun.proofs.host.read_whole.Given as goal

abbrev pub invariant-loop : goal.invariant-loop
invariant-loop g l = record {
  within : length l.into.items ≤ 1048576;
  turns : l.counter ≤ length l.into.items;
  consumed : Consumes (g.F.Read.remaining l.fn.file) (g.F.Read.remaining l.file) l.into.items;
}

use Rattle.std.proofs.Common.{◌≡◌, ◌≤◌, map, take}
use Rattle.std.specs.String.{string_bytes}
use Rattle.dpirun.specs.Shown.{sources_shown}
use Rattle.dpirun.specs.Sources.{AreSources}
use Rattle.dpirun.proofs.program.of_files.Given as goal

abbrev pub invariant-loop-word : goal.invariant-loop-word
invariant-loop-word g l = record {
  read : AreSources (g.F.Files.told l.fn.files) (take l.word-index (map string_bytes l.words.items)) (sources_shown l.sources);
  kept : g.F.Files.told l.files ≡ g.F.Files.told l.fn.files;
  later : g.F.Files.faults l.fn.files ≤ g.F.Files.faults l.files;
}

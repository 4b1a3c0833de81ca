use Rattle.std.proofs.Common.{◌≡◌, map, drop}
use Rattle.dpi_rules.specs.Least.{noted}
use Rattle.c_functions.specs.Declarations.{told}
use Rattle.dpi_links.specs.Functions.{bodies_of}
use Rattle.dpi_links.specs.Exporters.{exports_of}
use Rattle.dpi_links.specs.Calls.{files_from, calls_violations}
use Rattle.dpi_links.proofs.calls.note_files.Given as goal

-- what is noted so far, and what the files left over break
abbrev pub invariant-loop-file : goal.invariant-loop-file
invariant-loop-file l =
    let bodies = bodies_of l.bodies in
    let exports = exports_of l.exporters in
    let table = map (map told) l.table in
    record {
      counted : l.number ≡ l.file-index;
      same : noted l.initial.found (calls_violations bodies exports table l.files) ≡ noted l.found (files_from bodies exports table l.number (drop l.file-index l.files));
    }

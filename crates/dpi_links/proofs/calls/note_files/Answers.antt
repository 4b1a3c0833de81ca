use Rattle.std.proofs.Common.{◌≡◌, ◌+◌, map, drop, ap, sym, ◌∙◌}
use Rattle.std.specs.Prelude.{option_map, slice_get}
use Rattle.dpi_rules.specs.Least.{noted}
use Rattle.dpi_rules.proofs.Firsts.{noted-append}
use Rattle.c_functions.specs.Declarations.{told}
use Rattle.dpi_links.specs.Functions.{bodies_of}
use Rattle.dpi_links.specs.Exporters.{exports_of}
use Rattle.dpi_links.specs.Calls.{row_told, file_violations, files_from}
use Rattle.dpi_links.proofs.Gathered.{rest_of}
use Rattle.dpi_links.proofs.Rows.{row_is}
use Rattle.dpi_links.proofs.calls.note_files.Goals as goal

pub loop-file-preserved : goal.loop-file-preserved
loop-file-preserved c =
    let bodies = bodies_of c.args.bodies.now in
    let exports = exports_of c.args.exporters.now in
    let table = map (map told) c.args.table.now in
    let n = c.loop-file.number in
    let file = c.file-item.result in
    let found = c.loop-file.found in
    let rest = files_from bodies exports table (n + 1) (drop (c.loop-file.file-index + 1) c.args.files.now) in
    let row : option_map row_told c.get-row.result ≡ slice_get table n = row_is c.args.table.now n c.get-row.result c.get-row.ensures.lookup in
    let is : n ≡ c.loop-file.file-index = c.loop-file.invariant.counted in
    record {
      counted = ap (λ k. k + 1) is;
      same =
          c.loop-file.invariant.same
          ∙ ap (λ fs. noted found (files_from bodies exports table n fs)) (rest_of c.args.files.now c.loop-file.file-index file c.loop-file-test.true c.file-item.is)
          ∙ noted-append found (file_violations bodies exports (slice_get table n) n file) rest
          ∙ ap (λ o. noted o rest) (sym (c.in_ok-note_row.ensures ∙ ap (λ r. noted found (file_violations bodies exports r n file)) row));
    }

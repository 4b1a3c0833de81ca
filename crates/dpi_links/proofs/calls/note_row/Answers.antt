use Rattle.std.proofs.Common.{◌≡◌, sym, subst, OnOk, List, Option}
use Rattle.std.specs.Prelude.{option_map}
use denote.Ref.{Bor}
use Rattle.dpi_rules.specs.Least.{noted}
use Rattle.c_functions.specs.declared.declarations.Declaration.{Declaration}
use Rattle.dpi_links.specs.Functions.{bodies_of}
use Rattle.dpi_links.specs.Exporters.{exports_of}
use Rattle.dpi_links.specs.Calls.{row_told, file_violations}
use Rattle.dpi_links.proofs.calls.note_row.Goals as goal

pub returns-in-None : goal.returns-in-None
returns-in-None c =
    let broken = λ (row : Option (Bor (List Declaration))). file_violations (bodies_of c.args.bodies.now) (exports_of c.args.exporters.now) (option_map row_told row) c.args.number c.args.file.now in
    subst (λ row. OnOk c.note_file.result (c.note_file.new.found ≡ noted c.args.found.now (broken row))) (sym c.in-None.is) c.note_file.ensures

pub returns-in-Some : goal.returns-in-Some
returns-in-Some c =
    let broken = λ (row : Option (Bor (List Declaration))). file_violations (bodies_of c.args.bodies.now) (exports_of c.args.exporters.now) (option_map row_told row) c.args.number c.args.file.now in
    let here = rw c.as_slice-declarations.ensures at c.note_file-in-Some.ensures in
    subst (λ row. OnOk c.note_file-in-Some.result (c.note_file-in-Some.new.found ≡ noted c.args.found.now (broken row))) (sym c.in-Some.is) here

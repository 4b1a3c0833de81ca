use Rattle.std.proofs.Common.{get_or}
use Rattle.std.proofs.lemmas.Option.{slice_get-get_or}
use Rattle.std.proofs.lemmas.Result.{on_ok_weaker, on_err_weaker}
use Rattle.dpi_table.proofs.InFiles.{set_value, set_same}
use Rattle.dpi_table.proofs.tables.put_in.Goals as goal

pub returns-clause-ok : goal.returns-clause-ok
returns-clause-ok g c =
    let files = c.args.files.now in
    let file = c.args.file in
    let x = c.index-files-file.result in
    on_ok_weaker c.put.result (set_value files file c.args.token c.args.value (get_or files file x) c.put.new.self (slice_get-get_or files file x c.requires)) c.put.ensures.ok

pub returns-clause-err : goal.returns-clause-err
returns-clause-err g c =
    let files = c.args.files.now in
    let file = c.args.file in
    let x = c.index-files-file.result in
    on_err_weaker c.put.result (set_same files file (get_or files file x) c.put.new.self (slice_get-get_or files file x c.requires)) c.put.ensures.err

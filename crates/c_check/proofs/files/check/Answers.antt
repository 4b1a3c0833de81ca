use Rattle.std.proofs.Common.{None, ◌++◌}
use Rattle.dpi_rules.proofs.Noting.{noted_both}
use Rattle.c_functions.specs.Again.{function_violations}
use Rattle.c_functions.specs.Shared.{shared_violations}
use Rattle.c_check.specs.Check.{files_from}
use Rattle.c_check.proofs.files.check.Goals as goal

pub returns : goal.returns
returns c =
    let files = c.args.files.now in
    noted_both None (files_from 0 files ++ function_violations files) (shared_violations files) (noted_both None (files_from 0 files) (function_violations files) c.in_ok-note_each.ensures c.in_ok-note_functions.ensures) c.in_ok-note_objects.ensures

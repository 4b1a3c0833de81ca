use Rattle.dpi_rules.proofs.Noting.{noted_both}
use Rattle.dpi_items.specs.Items.{string_violations}
use Rattle.dpi_items.specs.Names.{taken_violations}
use Rattle.dpi_items.proofs.items.note_export.Goals as goal

pub returns : goal.returns
returns c =
    noted_both c.args.found.now (string_violations c.args.file c.args.export.now.text) (taken_violations c.args.file c.args.export.now)
    c.note_string.ensures c.note_taken.ensures

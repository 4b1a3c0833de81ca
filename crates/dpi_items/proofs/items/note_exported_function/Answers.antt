use Rattle.dpi_rules.proofs.Noting.{noted_both}
use Rattle.dpi_items.specs.Items.{result_violations}
use Rattle.dpi_items.specs.Integers.{formals_violations}
use Rattle.dpi_items.proofs.items.note_exported_function.Goals as goal

pub returns : goal.returns
returns c =
    noted_both c.args.found.now (formals_violations c.args.file c.args.function.now.formals)
    (result_violations c.args.file c.args.name 11 c.args.signature.now.result)
    c.note_integer_formals.ensures c.note_result.ensures

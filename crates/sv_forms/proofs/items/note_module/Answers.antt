use Rattle.dpi_rules.proofs.Noting.{noted_both}
use Rattle.std.proofs.Common.{map}
use Rattle.sv_forms.specs.Calls.{all_of}
use Rattle.sv_forms.specs.Labels.{end_violations}
use Rattle.sv_forms.specs.Items.{item_violations}
use Rattle.sv_forms.proofs.items.note_module.Goals as goal

pub returns : goal.returns
returns c =
    let m = c.args.module.now in
    let items = rw c.as_slice.ensures at c.note_items.ensures in
    noted_both c.args.found.now (all_of (map (item_violations c.args.file) m.items)) (end_violations c.args.file m.name m.end) items c.note_end.ensures

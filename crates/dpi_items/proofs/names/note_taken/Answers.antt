use Rattle.dpi_items.proofs.names.note_taken.Goals as goal

pub returns : goal.returns
returns c = rw c.export_c_name.ensures at c.note_name.ensures

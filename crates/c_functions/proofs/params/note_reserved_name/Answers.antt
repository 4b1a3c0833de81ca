use Rattle.c_functions.proofs.params.note_reserved_name.Goals as goal

pub returns-in-Some : goal.returns-in-Some
returns-in-Some c = rw c.in-Some.is (rw c.as_slice.ensures at c.note_reserved.ensures)

use Rattle.c_meanings.proofs.declarations.add_variables.Goals as goal

pub returns : goal.returns
returns c = rw c.lasts-lasts.ensures at (rw c.as_slice-declarators.ensures at c.add_declarators.ensures)

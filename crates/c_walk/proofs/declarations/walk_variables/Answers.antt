use Rattle.c_walk.proofs.declarations.walk_variables.Goals as goal

pub returns : goal.returns
returns c = rw c.lasts-lasts.ensures at (rw c.as_slice-declarators.ensures at c.walk_declarators.ensures)

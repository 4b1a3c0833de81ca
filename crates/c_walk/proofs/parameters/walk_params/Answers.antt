use Rattle.c_walk.proofs.parameters.walk_params.Goals as goal

pub returns-in-List : goal.returns-in-List
returns-in-List c = rw c.in-List.is (rw c.as_slice.ensures at c.walk_listed.ensures)

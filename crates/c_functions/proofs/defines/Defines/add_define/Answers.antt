use Rattle.c_functions.proofs.defines.Defines.add_define.Goals as goal

pub returns : goal.returns
returns c = rw (c.c_define_name.ensures, c.as_slice.ensures) at c.in_ok-add.ensures

use Rattle.std.proofs.Common.{[]}
use Rattle.c_functions.proofs.again.note_statics_in.Goals as goal

pub returns : goal.returns
returns c = (c.in_ok-note_all.ensures [] c.new-firsts.ensures).found_are

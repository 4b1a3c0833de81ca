use Rattle.sv_parse.proofs.FileAnswers.{one_file}
use Rattle.sv_parse.proofs.laws.files_are_unambiguous.Goals as goal

pub returns : goal.returns
returns c = one_file

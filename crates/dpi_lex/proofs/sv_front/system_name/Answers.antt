use Rattle.dpi_lex.specs.SystemVerilog.{system_names}
use Rattle.dpi_lex.proofs.sv_front.system_name.Goals as goal

pub returns-clause-stretch : goal.returns-clause-stretch
unfolding system_names
returns-clause-stretch c = c.listed_token.ensures.stretch

use Rattle.dpi_lex.specs.SystemVerilog.{sv_signs, sv_long_signs, sv_short_signs}
use Rattle.dpi_lex.proofs.sv_front.sv_slash.Goals as goal

pub returns-clause-stretch : goal.returns-clause-stretch
unfolding sv_signs sv_long_signs sv_short_signs
returns-clause-stretch c = c.slash.ensures.stretch

use Rattle.dpi_lex.specs.C.{c_signs, c_long_signs, c_short_signs}
use Rattle.dpi_lex.proofs.c_front.c_slash.Goals as goal

pub returns-clause-stretch : goal.returns-clause-stretch
unfolding c_signs c_long_signs c_short_signs
returns-clause-stretch c = c.slash.ensures.stretch

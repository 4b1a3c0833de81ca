use Rattle.dpi_lex.specs.Define.{c_keywords}
use Rattle.dpi_lex.proofs.define.is_keyword.Goals as goal

pub returns : goal.returns
unfolding c_keywords
returns c = c.is_listed.ensures

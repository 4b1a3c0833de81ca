use Rattle.std.proofs.Common.{◌∙◌, sym, subst}
use Rattle.dpi_rules.specs.Least.{IsLeastOf}
use Rattle.dpi_rules.proofs.Firsts.{least_is_least}
use Rattle.dpi_rules.proofs.fault.answer.Goals as goal

pub returns-in-None-clause-least : goal.returns-in-None-clause-least
returns-in-None-clause-least g c = λ vs found. subst (IsLeastOf vs) (sym found ∙ c.in-None.is) (least_is_least.least_is vs)

pub returns-in-Some-clause-least : goal.returns-in-Some-clause-least
returns-in-Some-clause-least g c = λ vs found. subst (IsLeastOf vs) (sym found ∙ c.in-Some.is) (least_is_least.least_is vs)

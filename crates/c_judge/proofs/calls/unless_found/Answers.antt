use Rattle.std.proofs.Common.{◌≡◌, [], sym, ap, ◌∙◌, subst}
use Rattle.dpi_rules.specs.Least.{IsLeastOf}
use Rattle.dpi_rules.proofs.Firsts.{least_is_least}
use Rattle.c_judge.specs.Calls.{if_clean}
use Rattle.c_judge.proofs.calls.unless_found.Goals as goal

pub returns-in-None : goal.returns-in-None
returns-in-None c = λ vs h.
    let none : vs ≡ [] = subst (IsLeastOf vs) (sym h ∙ c.in-None.is) (least_is_least.least_is vs) in
    sym (ap (λ us. if_clean us c.args.value) none)

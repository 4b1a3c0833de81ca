use Rattle.dpirun.proofs.Sinks.{fronts}
use Rattle.dpirun.proofs.delivery.deliver.Goals as goal

pub returns-in-Err-clause-err_fronts : goal.returns-in-Err-clause-err_fronts
returns-in-Err-clause-err_fronts g c = λ late. fronts _ _ _ _ _ c.in-Err.ensures.err_front c.cut_short.ensures.front

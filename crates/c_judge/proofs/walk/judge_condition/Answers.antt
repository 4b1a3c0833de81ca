use Rattle.c_judge.specs.Calls.{env_of}
use Rattle.c_judge.proofs.Steps.{condition_says}
use Rattle.c_judge.proofs.walk.judge_condition.Goals as goal

pub returns : goal.returns
returns c =
    condition_says (env_of c.args.around.now) c.args.e.now c.at.result c.args.found.now c.judge_expr.new.found c.note_condition.new.found c.in_ok-condition.condition c.in_ok-condition.ensures c.at.ensures c.note_condition.ensures

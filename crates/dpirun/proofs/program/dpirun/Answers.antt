use Rattle.std.proofs.Common.{[]}
use Rattle.dpirun.specs.Ends.{nothing}
use Rattle.dpirun.specs.Program.{printed}
use Rattle.dpirun.proofs.Files.{due, answers_of, ends_low, unread_of}
use Rattle.dpirun.proofs.Sinks.{front_nothing, fronts}
use Rattle.dpirun.proofs.program.dpirun.Goals as goal

pub returns-in-Ok-clause-answers : goal.returns-in-Ok-clause-answers
returns-in-Ok-clause-answers g c =
    answers_of _ _ _ _ _ _ (printed _ _ _ _) _ c.in-Ok.ensures.ends c.deliver-status.ensures.whole c.deliver-status.ensures.printed c.deliver-status.ensures.explained

pub deliver-status-requires : goal.deliver-status-requires
deliver-status-requires g c = ends_low _ _ _ _ _ _ c.in-Ok.ensures.ends

pub returns-in-Ok-clause-unread : goal.returns-in-Ok-clause-unread
returns-in-Ok-clause-unread g c =
    unread_of _ _ _ _ _ _ (printed _ _ _ _) _ c.in-Ok.ensures.ends c.deliver-status.ensures.whole c.deliver-status.ensures.printed c.deliver-status.ensures.explained

pub returns-in-Ok-clause-cut : goal.returns-in-Ok-clause-cut
returns-in-Ok-clause-cut g c = λ late. record {
  due = _;
  due_is = due _ _ _ _ _ _ c.in-Ok.ensures.ends;
  out = c.deliver-status.ensures.out_front late;
  err = c.deliver-status.ensures.err_fronts late;
}

pub returns-in-Err-clause-cut : goal.returns-in-Err-clause-cut
returns-in-Err-clause-cut g c = λ late. record {
  due = record { status = 9; out = []; err = [] };
  due_is = nothing;
  out = front_nothing _ _;
  err = fronts _ _ _ _ _ (front_nothing _ _) c.cut_short-status.ensures.front;
}

-- What a call of the program may end with, and what shows it.
use Rattle.std.specs.Prelude.{◌≡◌, ℕ, List, Option}
use Rattle.dpi_ports.specs.Told.{Contents, Takes, TakesFront}
use Rattle.dpirun.specs.Answer.{Outcome, IsAnswer}
use Rattle.dpirun.specs.Ends.{IsUnread, IsDue, TakesFronts, last_line}

-- what both sinks tell before a call and after it
pub record Printed : Type 0 where
  pub out_old : Option (List ℕ)
  pub out_new : Option (List ℕ)
  pub err_old : Option (List ℕ)
  pub err_new : Option (List ℕ)

-- the four of them
abbrev pub printed : Option (List ℕ) → Option (List ℕ) → Option (List ℕ) → Option (List ℕ) → Printed
printed out_old out_new err_old err_new =
    record { out_old = out_old; out_new = out_new; err_old = err_old; err_new = err_new }

-- both sinks took all of an outcome's bytes
pub record TakesAll (sinks : Printed) (outcome : Outcome) : Type 0 where
  pub out : Takes sinks.out_old sinks.out_new outcome.out
  pub err : Takes sinks.err_old sinks.err_new outcome.err

-- the status and the bytes are those of the answer
pub record Answers (told : Option Contents) (words : List (List ℕ)) (sinks : Printed) (status : ℕ) : Type 0 where
  pub outcome : Outcome
  pub is : IsAnswer told words outcome
  pub status_is : outcome.status ≡ status
  pub takes : TakesAll sinks outcome

-- a fetch failed in this call, and the line to `err` says at which file
pub record LeavesUnread (told : Option Contents) (words : List (List ℕ)) (old new : ℕ) (last : Option (List ℕ)) (sinks : Printed) : Type 0 where
  pub outcome : Outcome
  pub is : IsUnread told words old new last outcome
  pub takes : TakesAll sinks outcome

-- each sink took some first bytes of what it was due, and `err` then some of the status's line
pub record IsCut (told : Option Contents) (words : List (List ℕ)) (sinks : Printed) (status : ℕ) : Type 0 where
  pub due : Outcome
  pub due_is : IsDue told words due
  pub out : TakesFront sinks.out_old sinks.out_new due.out
  pub err : TakesFronts sinks.err_old sinks.err_new due.err (last_line status)

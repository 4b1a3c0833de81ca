-- How a call of the program ends: with the answer, at a file that isn't read, or cut short.
use Rattle.std.specs.Prelude.{◌≡◌, ◌⊎◌, ◌==◌, ℕ, List, [], ◌++◌, Option, IfSome, take, codes, if◌then◌else◌}
use Rattle.dpi_ports.specs.Told.{Contents, HasRisen, Takes}
use Rattle.dpirun.specs.Answer.{Outcome, unread, Reaches, IsAnswer}

-- the fetch of a file failed, which was counted; the files before it were accepted
pub record IsUnread (told : Option Contents) (words : List (List ℕ)) (old new : ℕ) (last : Option (List ℕ)) (outcome : Outcome) : Type 0 where
  pub file : List ℕ
  pub reached : Reaches told words file
  pub risen : HasRisen old new
  pub last_is : IfSome last (λ name. name ≡ file)
  pub is : outcome ≡ unread file

-- an outcome that is the answer, or stands for a file whose fetch failed
abbrev pub Ends : Option Contents → List (List ℕ) → ℕ → ℕ → Option (List ℕ) → Outcome → Type 0
Ends told words old new last outcome = IsAnswer told words outcome ⊎ IsUnread told words old new last outcome

-- the line that ends a call cut short, for statuses 8 and 9
abbrev pub last_line : ℕ → List ℕ
last_line status = if status == 8 then codes "dpirun: cannot write\n" else codes "dpirun: out of memory\n"

-- a sink took the first bytes of one text, and then those of another
pub record TakesFronts (old new : Option (List ℕ)) (first second : List ℕ) : Type 0 where
  pub count : ℕ
  pub count_after : ℕ
  pub takes : Takes old new (take count first ++ take count_after second)

-- what was due when a call was cut short: an answer, the line on a file that could not be read, or nothing yet
pub data IsDue (told : Option Contents) (words : List (List ℕ)) : Outcome → Type 0 where
  answered : (outcome : Outcome) → IsAnswer told words outcome → IsDue told words outcome
  failed : (file : List ℕ) → Reaches told words file → IsDue told words (unread file)
  nothing : IsDue told words (record { status = 9; out = []; err = [] })

-- How the fakes over memory count their calls, and what a sink over memory is to a contract.
use Rattle.std.specs.Prelude.{ℕ, ◌+◌, List, Option, Some, None, min}

-- the number of the next call, from 1; a count stays at its last value
abbrev pub next_number : ℕ → ℕ
next_number calls = min (calls + 1) 0xffff_ffff_ffff_ffff

-- a number, or the limit where one is given and is less
abbrev pub at_most : Option ℕ → ℕ → ℕ
at_most None n = n
at_most (Some limit) n = min n limit

-- a sink: the bytes that it took, the numbers of the writes at which it fails, the most that it
-- takes in one write, and how many writes and faults there were
pub record SinkState : Type 0 where
  pub taken : List ℕ
  pub fails : List ℕ
  pub most : Option ℕ
  pub writes : ℕ
  pub faults : ℕ

use Rattle.std.proofs.Common.{◌≡◌, ℕ, drop}
use Rattle.std.specs.Option.{option_or}
use Rattle.dpi_table.specs.Tables.{at}
use Rattle.dpi_table.specs.Firsts.{first_value}
use Rattle.dpi_table.proofs.table.Table.of.Given as goal

-- what the table has, and behind it the pairs left over
abbrev pub invariant-loop-token : goal.invariant-loop-token
invariant-loop-token g l = (token : ℕ) → option_or (at l.table token) (first_value (drop l.token-index l.pairs) token) ≡ first_value l.pairs token

use Rattle.std.proofs.Common.{drop}
use Rattle.sv_judge.specs.Calls.{env_of}
use Rattle.sv_walk.specs.Heads.{value_of, item_values}
use Rattle.sv_walk.proofs.Comparing.{IsKeeping}
use Rattle.sv_walk.proofs.heads.compare_items.Given as goal

-- what is kept so far, and what is left
abbrev pub invariant-loop-item : goal.invariant-loop-item
invariant-loop-item l =
    IsKeeping (env_of l.place) (value_of (env_of l.place)) item_values l.initial.values.items l.initial.found l.items (drop l.item-index l.items) l.values.items l.found

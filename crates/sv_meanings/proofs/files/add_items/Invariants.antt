use Rattle.std.proofs.Common.{drop}
use Rattle.sv_names.specs.Scopes.{scopes_of}
use Rattle.sv_walk.specs.Around.{inside}
use Rattle.sv_meanings.specs.Items.{item_facts}
use Rattle.sv_meanings.proofs.Walking.{IsWalking}
use Rattle.sv_meanings.proofs.files.add_items.Given as goal

-- what is listed, and the items left over
abbrev pub invariant-loop-item : goal.invariant-loop-item
invariant-loop-item l =
    IsWalking (item_facts (inside l.around (scopes_of l.initial.scopes))) (scopes_of l.initial.scopes) l.initial.list.items l.items (drop l.item-index l.items) (scopes_of l.scopes) l.list.items

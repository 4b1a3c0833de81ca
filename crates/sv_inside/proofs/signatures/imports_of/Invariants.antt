use Rattle.std.proofs.Common.{◌≡◌, ◌++◌, drop}
use Rattle.std.specs.Prelude.{flat_map}
use Rattle.sv_inside.specs.Seen.{item_imports}
use Rattle.sv_inside.proofs.signatures.imports_of.Given as goal

-- what is listed, and the items left over
abbrev pub invariant-loop-item : goal.invariant-loop-item
invariant-loop-item l = l.list ++ flat_map item_imports (drop l.item-index l.items) ≡ flat_map item_imports l.items

use Rattle.std.proofs.Common.{◌≡◌, ◌++◌, drop}
use Rattle.std.specs.Prelude.{flat_map}
use Rattle.sv_meanings.specs.Files.{module_facts}
use Rattle.sv_meanings.proofs.files.add_modules.Given as goal

-- what is listed, and the modules left over
abbrev pub invariant-loop-module : goal.invariant-loop-module
invariant-loop-module l =
    let of = module_facts l.number in
    l.list.items ++ flat_map of (drop l.module-index l.modules) ≡ l.initial.list.items ++ flat_map of l.modules

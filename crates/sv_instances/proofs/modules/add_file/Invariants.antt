use Rattle.std.proofs.Common.{◌≡◌, ◌++◌, map, drop}
use Rattle.sv_instances.specs.Modules.{told, in_file}
use Rattle.sv_instances.proofs.modules.add_file.Given as goal

-- what is listed, and the modules left over
abbrev pub invariant-loop-tree : goal.invariant-loop-tree
invariant-loop-tree l =
    map told l.list.items ++ map (in_file l.file) (drop l.tree-index l.modules) ≡ map told l.initial.list.items ++ map (in_file l.file) l.modules

use Rattle.std.proofs.Common.{◌≡◌, ◌++◌, map, drop}
use Rattle.sv_instances.specs.Modules.{told, modules_from, modules_in}
use Rattle.sv_instances.proofs.modules.modules_of.Given as goal

-- what is listed, and the files left over
abbrev pub invariant-loop-file : goal.invariant-loop-file
invariant-loop-file l = record {
  counted : l.number ≡ l.file-index;
  listed : map told l.list.items ++ modules_from l.number (drop l.file-index l.files) ≡ modules_in l.files;
}

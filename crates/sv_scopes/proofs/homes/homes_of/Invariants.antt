use Rattle.std.proofs.Common.{◌≡◌, ◌++◌, drop}
use Rattle.sv_scopes.specs.Homes.{file_homes, homes_in}
use Rattle.sv_scopes.proofs.homes.homes_of.Given as goal

-- what is listed, and the files left over
abbrev pub invariant-loop-file : goal.invariant-loop-file
invariant-loop-file l = record {
  counted : l.number ≡ l.file-index;
  listed : l.list.items ++ file_homes l.number (drop l.file-index l.files) ≡ homes_in l.files;
}

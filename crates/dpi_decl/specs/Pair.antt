-- The files of both languages that are linked.
use Rattle.std.specs.Prelude.{List, refl}
use Rattle.std.specs.Coded.{Coded, code_by, coded×, coded_list}
use Rattle.sv_tree.specs.declared.items.SvFile.{SvFile}
use Rattle.sv_tree.specs.contracts.items.SvFile as sv_file
use Rattle.c_tree.specs.declared.file.CFile.{CFile}
use Rattle.c_tree.specs.contracts.file.CFile as c_file

-- the trees of the SystemVerilog files, and those of the C files
pub record Pair : Type 0 where
  pub svs : List SvFile
  pub cs : List CFile

-- a pair is stored as its two lists
abbrev pub pair_code : Coded Pair
pair_code =
    code_by (List SvFile × List CFile) (coded× (coded_list sv_file.the_row.coded) (coded_list c_file.the_row.coded)) (λ p. (p.svs, p.cs)) (λ p. record { svs = p.0; cs = p.1 }) (λ _. refl)

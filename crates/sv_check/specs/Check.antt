-- All violations of the files of a command.
use Rattle.std.specs.Prelude.{ℕ, ◌+◌, List, [], ◌∷◌, ◌++◌, flat_map}
use Rattle.dpi_rules.specs.declared.violation.Violation.{Violation}
use Rattle.sv_tree.specs.declared.items.SvFile.{SvFile}
use Rattle.sv_forms.specs.Items.{file_violations}
use Rattle.sv_instances.specs.Modules.{modules_in}
use Rattle.sv_scopes.specs.Instances.{instance_violations}
use Rattle.sv_check.specs.Modules.{module_violations}

-- what files break by their form alone, of which the first one here has this number
abbrev pub forms_from : ℕ → List SvFile → List Violation
forms_from number [] = []
forms_from number (f ∷ fs) = file_violations number f ++ forms_from (number + 1) fs

-- all violations: by form alone, of instances (to 1,001 levels: a deeper one stands behind those it is inside
-- of), and of each module
abbrev pub violations : List SvFile → List Violation
violations files =
    forms_from 0 files ++ instance_violations 1001 (modules_in files) ++ flat_map module_violations (modules_in files)

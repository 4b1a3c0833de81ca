-- What files violate that are linked.
use Rattle.std.specs.Prelude.{ℕ, Option, List, ◌++◌}
use Rattle.dpi_rules.specs.declared.violation.Violation.{Violation}
use Rattle.sv_tree.specs.declared.items.SvFile.{SvFile}
use Rattle.sv_instances.specs.Modules.{InFile, modules_in}
use Rattle.c_tree.specs.declared.file.CFile.{CFile}
use Rattle.c_functions.specs.Declarations.{Known, known_of}
use Rattle.dpi_links.specs.Functions.{shared_body}
use Rattle.dpi_links.specs.Imports.{imports_in, imports_violations}
use Rattle.dpi_links.specs.Exports.{Exported, exports_in, exports_violations, all_named, export_of}
use Rattle.dpi_links.specs.Calls.{calls_violations}

-- the imports and exports of modules, where names in C have these bodies
abbrev pub modules_violations : (List ℕ → Option Known) → List InFile → List Violation
modules_violations bodies ms = imports_violations bodies (imports_in ms) ++ exports_violations bodies (exports_in ms)

-- in the SystemVerilog files: rules 1 to 11 and 14
abbrev pub sv_violations : List SvFile → List CFile → List Violation
sv_violations svs cs = modules_violations (shared_body (known_of cs)) (modules_in svs)

-- the calls of C files, where modules have these exports
abbrev pub calls_in : List (List Exported) → List CFile → List Violation
calls_in exports cs = calls_violations (shared_body (known_of cs)) (export_of (all_named exports)) (known_of cs) cs

-- in the C files: rules 12 and 13
abbrev pub c_violations : List SvFile → List CFile → List Violation
c_violations svs cs = calls_in (exports_in (modules_in svs)) cs

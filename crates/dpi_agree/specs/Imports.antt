-- Imports of one name in C.
use Rattle.std.specs.Prelude.{ℕ, Option, Some, None, List, [], ◌∷◌, if◌then◌else◌}
use Rattle.dpi_rules.specs.declared.violation.Violation.{Violation}
use Rattle.dpi_rules.specs.Order.{violation}
use Rattle.dpi_boundary.specs.Signatures.{same_import}
use Rattle.dpi_agree.specs.declared.imports.LinkedImport.{LinkedImport}
use Rattle.dpi_agree.specs.Firsts.{each_broken}

abbrev pub name_of : LinkedImport → List ℕ
name_of i = i.name.now

-- rule 5 at an import whose signature isn't that of the first one
abbrev pub unequal_violations : Option LinkedImport → LinkedImport → List Violation
unequal_violations None i = []
unequal_violations (Some first) i = if same_import first.signature.now i.signature.now then [] else violation i.file i.token 5 ∷ []

-- each import beside the first one of its name
abbrev pub imports_violations : List LinkedImport → List Violation
imports_violations is = each_broken name_of unequal_violations is

-- Exports of one name in C.
use Rattle.std.specs.Prelude.{ℕ, Bool, true, Option, Some, None, List, [], ◌∷◌, if◌then◌else◌}
use denote.Ref.{Bor}
use Rattle.dpi_rules.specs.declared.violation.Violation.{Violation}
use Rattle.dpi_rules.specs.Order.{violation}
use Rattle.sv_signatures.specs.declared.signatures.Signature.{Signature}
use Rattle.dpi_boundary.specs.Signatures.{same_export}
use Rattle.dpi_agree.specs.declared.exports.LinkedExport.{LinkedExport}
use Rattle.dpi_agree.specs.Firsts.{each_broken}

abbrev pub name_of : LinkedExport → List ℕ
name_of e = e.name.now

-- equal signatures; one that isn't known equals every other
abbrev pub agree : Option (Bor Signature) → Option (Bor Signature) → Bool
agree None b = true
agree (Some a) None = true
agree (Some a) (Some b) = same_export a.now b.now

-- rule 10 at an export whose signature isn't that of the first one
abbrev pub unequal_violations : Option LinkedExport → LinkedExport → List Violation
unequal_violations None e = []
unequal_violations (Some first) e = if agree first.signature e.signature then [] else violation e.file e.token 10 ∷ []

-- each export beside the first one of its name
abbrev pub exports_violations : List LinkedExport → List Violation
exports_violations es = each_broken name_of unequal_violations es

-- rule 9 at an export that isn't the first one of its name
abbrev pub second_violations : Option LinkedExport → LinkedExport → List Violation
second_violations None e = []
second_violations (Some first) e = violation e.file e.token 9 ∷ []

-- the second exports of one name, where all are of one module
abbrev pub seconds_violations : List LinkedExport → List Violation
seconds_violations es = each_broken name_of second_violations es

-- What linking answers.
use Rattle.std.specs.Prelude.{◌≡◌, Result, Ok, Err, List, []}
use Rattle.dpi_rules.specs.declared.violation.Violation.{Violation}
use Rattle.dpi_rules.specs.Least.{IsLeast}
use Rattle.dpi_decl.specs.declared.fault.LinkFault.{LinkFault}
use Rattle.dpi_decl.specs.declared.fault.LinkFault.TheVariants.{Sv, C, NoMemory}

-- Ok exactly where nothing is violated, else the least violation in the SystemVerilog files, or, where those
-- have none, in the C files, unless memory runs out
abbrev pub IsLinkVerdict : {A : Type 0} → List Violation → List Violation → Result A LinkFault → Type 0
IsLinkVerdict in_sv in_c (Ok value) = (in_sv ≡ []) × (in_c ≡ [])
IsLinkVerdict in_sv in_c (Err (Sv v)) = IsLeast in_sv v
IsLinkVerdict in_sv in_c (Err (C v)) = (in_sv ≡ []) × IsLeast in_c v
IsLinkVerdict in_sv in_c (Err NoMemory) = Unit {0}

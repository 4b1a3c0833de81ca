-- Which C functions can stand for an import or an export.
use Rattle.std.specs.Prelude.{Bool, true, false, ◌&&◌, Option, Some, None, List, [], ◌∷◌}
use Rattle.c_base.specs.declared.ctype.CType.{CType}
use Rattle.c_functions.specs.declared.types.FunctionType.{FunctionType}
use Rattle.sv_signatures.specs.declared.results.Returns.{Returns}
use Rattle.sv_signatures.specs.declared.formals.Formal.{Formal}
use Rattle.sv_signatures.specs.declared.imports.ImportFormal.{ImportFormal}
use Rattle.sv_signatures.specs.declared.signatures.Signature.{Signature}
use Rattle.sv_signatures.specs.declared.signatures.ImportSignature.{ImportSignature}
use Rattle.dpi_boundary.specs.Fits.{fits_variable, fits_formal, fits_result}

-- a part that is refused, on either side, fits
abbrev pub fits_if_known : {K : Type 0} → (K → CType → Bool) → Option K → Option CType → Bool
fits_if_known fits None of = true
fits_if_known fits (Some kind) None = true
fits_if_known fits (Some kind) (Some of) = fits kind of

abbrev pub fits_known_result : Returns → Bool → Option CType → Bool
fits_known_result returns task of = fits_if_known (λ r. fits_result r task) (Some returns) of

abbrev pub fits_import_formal : ImportFormal → Option CType → Bool
fits_import_formal f of = fits_if_known (fits_formal f.direction) f.kind of

abbrev pub fits_export_formal : Formal → Option CType → Bool
fits_export_formal f of = fits_if_known (fits_variable f.direction) f.kind of

-- as many parameters as formals, each of which fits
abbrev pub fit_import_formals : List ImportFormal → List (Option CType) → Bool
fit_import_formals [] [] = true
fit_import_formals [] (p ∷ ps) = false
fit_import_formals (f ∷ fs) [] = false
fit_import_formals (f ∷ fs) (p ∷ ps) = fits_import_formal f p && fit_import_formals fs ps

-- the same of an exported subroutine
abbrev pub fit_export_formals : List Formal → List (Option CType) → Bool
fit_export_formals [] [] = true
fit_export_formals [] (p ∷ ps) = false
fit_export_formals (f ∷ fs) [] = false
fit_export_formals (f ∷ fs) (p ∷ ps) = fits_export_formal f p && fit_export_formals fs ps

-- the result and all formals of an import fit
abbrev pub fits_import : ImportSignature → FunctionType → Bool
fits_import s of = fits_known_result s.result s.is_task of.result && fit_import_formals s.formals of.params

-- the result and all formals of an exported subroutine fit
abbrev pub fits_export : Signature → FunctionType → Bool
fits_export s of = fits_known_result s.result s.is_task of.result && fit_export_formals s.formals of.params

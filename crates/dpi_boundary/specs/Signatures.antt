-- Equal signatures of imports and exports.
use Rattle.std.specs.Prelude.{Bool, true, false, ◌&&◌, Option, Some, None, List, [], ◌∷◌}
use denote.Enum.Bare.{sameb}
use Rattle.sv_tree.specs.contracts.kinds.Direction.{the_type}
use Rattle.sv_tree.specs.declared.kinds.Direction.{Direction}
use Rattle.sv_shapes.specs.declared.kinds.VarKind.{VarKind}
use Rattle.sv_signatures.specs.declared.results.Returns.{Returns}
use Rattle.sv_signatures.specs.declared.results.Returns.TheVariants.{Void, Value}
use Rattle.sv_signatures.specs.declared.formals.Formal.{Formal}
use Rattle.sv_signatures.specs.declared.imports.ImportFormal.{ImportFormal}
use Rattle.sv_signatures.specs.declared.signatures.Signature.{Signature}
use Rattle.sv_signatures.specs.declared.signatures.ImportSignature.{ImportSignature}
use Rattle.dpi_boundary.specs.Fits.{agree}
use Rattle.dpi_boundary.specs.Kinds.{same_kind, same_formal_kind}

-- a part that is refused equals every other
abbrev pub same_if_known : {K : Type 0} → (K → K → Bool) → Option K → Option K → Bool
same_if_known same None b = true
same_if_known same (Some a) None = true
same_if_known same (Some a) (Some b) = same a b

abbrev pub same_known_kind : Option VarKind → Option VarKind → Bool
same_known_kind a b = same_if_known same_kind a b

-- nothing twice, or values of equal kinds
abbrev pub same_returns : Returns → Returns → Bool
same_returns Void Void = true
same_returns Void (Value b) = false
same_returns (Value a) Void = false
same_returns (Value a) (Value b) = same_known_kind a b

abbrev pub same_direction : Direction → Direction → Bool
same_direction a b = sameb the_type a b

abbrev pub same_import_formal : ImportFormal → ImportFormal → Bool
same_import_formal f g = same_direction f.direction g.direction && same_if_known same_formal_kind f.kind g.kind

abbrev pub same_formal : Formal → Formal → Bool
same_formal f g = same_direction f.direction g.direction && same_known_kind f.kind g.kind

-- as many formals, each equal to the other in its place
abbrev pub same_import_formals : List ImportFormal → List ImportFormal → Bool
same_import_formals [] [] = true
same_import_formals [] (g ∷ gs) = false
same_import_formals (f ∷ fs) [] = false
same_import_formals (f ∷ fs) (g ∷ gs) = same_import_formal f g && same_import_formals fs gs

-- the same of subroutines
abbrev pub same_formals : List Formal → List Formal → Bool
same_formals [] [] = true
same_formals [] (g ∷ gs) = false
same_formals (f ∷ fs) [] = false
same_formals (f ∷ fs) (g ∷ gs) = same_formal f g && same_formals fs gs

-- both tasks or both functions, equal results and equal formals
abbrev pub same_import : ImportSignature → ImportSignature → Bool
same_import a b =
    (agree a.is_task b.is_task && same_returns a.result b.result) && same_import_formals a.formals b.formals

-- the same of exported subroutines
abbrev pub same_export : Signature → Signature → Bool
same_export a b = (agree a.is_task b.is_task && same_returns a.result b.result) && same_formals a.formals b.formals

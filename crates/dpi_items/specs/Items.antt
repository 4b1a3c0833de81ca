-- What imports, exports and exported subroutines violate by themselves.
use Rattle.std.specs.Prelude.{ℕ, Bool, true, false, not, ◌&&◌, if◌then◌else◌, Option, Some, None, List, [], ◌∷◌, ◌++◌, codes, bytes_eq}
use Rattle.dpi_rules.specs.declared.violation.Violation.{Violation}
use Rattle.dpi_rules.specs.Order.{violation}
use Rattle.sv_tree.specs.declared.leaves.Text.{Text}
use Rattle.sv_tree.specs.declared.kinds.Property.{Property}
use Rattle.sv_tree.specs.declared.kinds.Property.TheVariants.{Context, Pure}
use Rattle.sv_tree.specs.declared.kinds.Direction.{Direction}
use Rattle.sv_tree.specs.declared.kinds.Direction.TheVariants.{Input, Output, Inout}
use Rattle.sv_tree.specs.declared.items.Trait.{Trait}
use Rattle.sv_tree.specs.declared.items.Import.{Import}
use Rattle.sv_tree.specs.declared.items.Export.{Export}
use Rattle.sv_tree.specs.declared.items.Function.{Function}
use Rattle.sv_signatures.specs.declared.results.Returns.{Returns}
use Rattle.sv_signatures.specs.declared.results.Returns.TheVariants.{Void, Value}
use Rattle.sv_signatures.specs.declared.imports.ImportFormal.{ImportFormal}
use Rattle.sv_signatures.specs.declared.signatures.Signature.{Signature}
use Rattle.sv_signatures.specs.declared.signatures.ImportSignature.{ImportSignature}
use Rattle.dpi_boundary.specs.Table.{is_small}
use Rattle.dpi_items.specs.Names.{taken_violations}
use Rattle.dpi_items.specs.Integers.{formals_violations, import_formals_violations}

-- the string, with its quotes
abbrev pub is_dpi_c : Text → Bool
is_dpi_c text = bytes_eq text.bytes (codes "\"DPI-C\"")

-- rule 1 at another string
abbrev pub string_violations : ℕ → Text → List Violation
string_violations file text = if is_dpi_c text then [] else violation file text.token 1 ∷ []

abbrev pub is_pure_property : Property → Bool
is_pure_property Context = false
is_pure_property Pure = true

abbrev pub is_pure : Option Trait → Bool
is_pure None = false
is_pure (Some t) = is_pure_property t.property

abbrev pub gives_value : Returns → Bool
gives_value Void = false
gives_value (Value kind) = true

abbrev pub is_input_direction : Direction → Bool
is_input_direction Input = true
is_input_direction Output = false
is_input_direction Inout = false

abbrev pub is_input : ImportFormal → Bool
is_input f = is_input_direction f.direction

abbrev pub are_inputs : List ImportFormal → Bool
are_inputs [] = true
are_inputs (f ∷ fs) = is_input f && are_inputs fs

-- a function with a result, whose formals are all inputs
abbrev pub may_be_pure : ImportSignature → Bool
may_be_pure s = (not s.is_task && gives_value s.result) && are_inputs s.formals

-- rule 2 at the name of what is `pure` and may not be
abbrev pub pure_violations : ℕ → Import → ImportSignature → List Violation
pure_violations file i s = if is_pure i.property && not (may_be_pure s) then violation file i.name.token 2 ∷ [] else []

-- the rule at a name whose result isn't small
abbrev pub result_violations : ℕ → ℕ → ℕ → Returns → List Violation
result_violations file name rule returns = if is_small returns then [] else violation file name rule ∷ []

-- an import that has this signature
abbrev pub import_violations : ℕ → Import → ImportSignature → List Violation
import_violations file i s =
    string_violations file i.text
    ++ pure_violations file i s
    ++ result_violations file i.name.token 3 s.result
    ++ import_formals_violations file i.formals

-- an export, whatever its name is
abbrev pub export_violations : ℕ → Export → List Violation
export_violations file e = string_violations file e.text ++ taken_violations file e

-- a function that has this signature and is exported at this name
abbrev pub function_violations : ℕ → ℕ → Function → Signature → List Violation
function_violations file name f s = formals_violations file f.formals ++ result_violations file name 11 s.result

-- Modules: a scope, and the items inside it.
use Rattle.std.proofs.Common.{◌≡◌, ℕ, List, [], ◌∷◌, ◌++◌, ap, ◌∙◌, false, Option, None, Result}
use Rattle.std.specs.Prelude.{OnOk, flat_map}
use Rattle.dpi_ports.specs.declared.no_memory.NoMemory.{NoMemory}
use Rattle.dpi_rules.specs.declared.violation.Violation.{Violation}
use Rattle.dpi_rules.specs.Least.{noted}
use Rattle.sv_tree.specs.declared.items.Item.{Item}
use Rattle.sv_signatures.specs.declared.signatures.Signature.{Signature}
use Rattle.sv_signatures.specs.declared.signatures.ImportSignature.{ImportSignature}
use Rattle.sv_names.specs.Names.{Names, no_names}
use Rattle.sv_names.specs.Declaring.{IsDeclared, seconds, with_all}
use Rattle.sv_names.specs.Declarations.{module_declares}
use Rattle.sv_instances.specs.Modules.{InFile}
use Rattle.sv_walk.specs.Around.{Inside}
use Rattle.sv_inside.specs.Seen.{item_subroutines, item_imports, in_module}
use Rattle.sv_check.specs.Modules.{item_violations, module_violations}
use Rattle.sv_check.proofs.Inner.{on_ok, then_noted}

-- what items see
abbrev pub seen : ℕ → List Names → List Signature → List ImportSignature → Inside
seen file scopes subroutines imports = record {
  file = file;
  scopes = scopes;
  subroutines = subroutines;
  imports = imports;
  in_function = false;
  result = None;
}

-- the items of a module see what it has
items_seen : (m : InFile) (scopes : List Names) (subroutines : List Signature) (imports : List ImportSignature) (items : List Item) → items ≡ m.tree.items → scopes ≡ with_all no_names (module_declares m.tree) ∷ [] → subroutines ≡ flat_map item_subroutines items → imports ≡ flat_map item_imports items → flat_map (item_violations (seen m.file scopes subroutines imports)) items ≡ flat_map (item_violations (in_module m)) m.tree.items
items_seen m scopes subroutines imports items h s f g =
    ap (λ x. flat_map (item_violations (seen m.file x subroutines imports)) items) s
    ∙ ap (λ x. flat_map (item_violations (seen m.file (with_all no_names (module_declares m.tree) ∷ []) x imports)) items) f
    ∙ ap (λ x. flat_map (item_violations (seen m.file (with_all no_names (module_declares m.tree) ∷ []) (flat_map item_subroutines items) x)) items) g
    ∙ ap (λ x. flat_map (item_violations (seen m.file (with_all no_names (module_declares m.tree) ∷ []) (flat_map item_subroutines x) (flat_map item_imports x))) x) h

both : (start middle end : Option Violation) (vs ws us : List Violation) → middle ≡ noted start vs → ws ≡ us → end ≡ noted middle ws → end ≡ noted start (vs ++ us)
both start middle end vs ws us h e k = then_noted start middle end vs us h (k ∙ ap (noted middle) e)

-- a scope, then the items
pub module_noted : (start middle end : Option Violation) (r : Result (Unit {0}) NoMemory) (m : InFile) (names : Names) (scopes : List Names) (subroutines : List Signature) (imports : List ImportSignature) (items : List Item) → items ≡ m.tree.items → IsDeclared m.file (module_declares m.tree) no_names start names middle → scopes ≡ names ∷ [] → subroutines ≡ flat_map item_subroutines items → imports ≡ flat_map item_imports items → OnOk r (end ≡ noted middle (flat_map (item_violations (seen m.file scopes subroutines imports)) items)) → OnOk r (end ≡ noted start (module_violations m))
module_noted start middle end r m names scopes subroutines imports items h d s f g b =
    let broken = flat_map (item_violations (seen m.file scopes subroutines imports)) items in
    let all = items_seen m scopes subroutines imports items h (s ∙ ap (λ n. n ∷ []) d.names_are) f g in
    on_ok r (both start middle end (seconds m.file no_names (module_declares m.tree)) broken (flat_map (item_violations (in_module m)) m.tree.items) d.found_are all) b

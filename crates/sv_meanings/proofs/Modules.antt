-- Modules: a name, a scope, and the items inside it.
use Rattle.std.proofs.Common.{◌≡◌, ℕ, List, [], ◌∷◌, ◌++◌, ap, ◌∙◌, false, None, Result}
use Rattle.std.specs.Prelude.{OnOk, flat_map}
use Rattle.dpi_ports.specs.declared.no_memory.NoMemory.{NoMemory}
use Rattle.sv_tree.specs.declared.items.Item.{Item}
use Rattle.sv_tree.specs.declared.items.Module.{Module}
use Rattle.sv_signatures.specs.declared.signatures.Signature.{Signature}
use Rattle.sv_signatures.specs.declared.signatures.ImportSignature.{ImportSignature}
use Rattle.sv_names.specs.Names.{Names, no_names}
use Rattle.sv_names.specs.Declaring.{with_all}
use Rattle.sv_names.specs.Declarations.{module_declares}
use Rattle.sv_instances.specs.Modules.{in_file}
use Rattle.sv_walk.specs.Around.{Inside}
use Rattle.sv_inside.specs.Seen.{item_subroutines, item_imports, in_module}
use Rattle.sv_facts.specs.declared.facts.Meant.TheVariants as meanings
use Rattle.sv_meanings.specs.Places.{Facts}
use Rattle.sv_meanings.specs.Declarations.{means}
use Rattle.sv_meanings.specs.Items.{item_facts}
use Rattle.sv_meanings.specs.Files.{module_facts}
use Rattle.sv_meanings.proofs.Adding.{on_ok, both_added}
use Rattle.sv_meanings.proofs.Walking.{Walks}

-- what items see
abbrev pub seen : ℕ → List Names → List Signature → List ImportSignature → Inside
seen file scopes subroutines imports = record {
  file = file;
  scopes = scopes;
  subroutines = subroutines;
  imports = imports;
  in_function = false;
  result = None;
}

-- the items of a module see what it has
items_seen : (number : ℕ) (m : Module) (names : Names) (scopes : List Names) (subroutines : List Signature) (imports : List ImportSignature) (items : List Item)
    → items ≡ m.items → names ≡ with_all no_names (module_declares m) → scopes ≡ names ∷ [] → subroutines ≡ flat_map item_subroutines items → imports ≡ flat_map item_imports items
    → flat_map (item_facts (seen number scopes subroutines imports)) items ≡ flat_map (item_facts (in_module (in_file number m))) m.items
items_seen number m names scopes subroutines imports items h n s f g =
    let inner = with_all no_names (module_declares m) ∷ [] in
    ap (λ x. flat_map (item_facts (seen number x subroutines imports)) items) (s ∙ ap (λ x. x ∷ []) n)
    ∙ ap (λ x. flat_map (item_facts (seen number inner x imports)) items) f
    ∙ ap (λ x. flat_map (item_facts (seen number inner (flat_map item_subroutines items) x)) items) g
    ∙ ap (λ x. flat_map (item_facts (seen number inner (flat_map item_subroutines x) (flat_map item_imports x))) x) h

-- a name, then a scope, then the items
pub module_says : (r : Result (Unit {0}) NoMemory) (number : ℕ) (m : Module) (names : Names) (scopes scopes' : List Names) (subroutines : List Signature) (imports : List ImportSignature) (items : List Item) (list list1 list2 : Facts)
    → list1 ≡ list ++ means m.name meanings.Module
    → items ≡ m.items → names ≡ with_all no_names (module_declares m) → scopes ≡ names ∷ [] → subroutines ≡ flat_map item_subroutines items → imports ≡ flat_map item_imports items
    → Walks r scopes list1 (flat_map (item_facts (seen number scopes subroutines imports)) items) scopes' list2
    → OnOk r (list2 ≡ list ++ module_facts number m)
module_says r number m names scopes scopes' subroutines imports items list list1 list2 k h n s f g w =
    let all = flat_map (item_facts (in_module (in_file number m))) m.items in
    on_ok r (λ l. both_added list list1 list2 (means m.name meanings.Module) all k (l.1 ∙ ap (λ fs. list1 ++ fs) (items_seen number m names scopes subroutines imports items h n s f g))) w

-- Each import of linked files calls a function.
use Rattle.std.proofs.Common.{◌≡◌, ℕ, zero, suc, ◌<◌, Bool, true, false, Option, Some, None, List, [], ◌∷◌, ◌++◌, length, map, get_or, refl, sym, ap, ◌∙◌, subst, arith}
use Rattle.std.specs.Prelude.{◌&&◌, is_some, flat_map, slice_get, option_and_then}
use Rattle.std.specs.List.{list_all}
use Rattle.std.proofs.lemmas.Grind.{flat_map-append}
use Rattle.std.proofs.lemmas.List.Folds.{list_all-append}
use Rattle.sv_tree.specs.declared.leaves.Name.{Name}
use Rattle.sv_tree.specs.declared.items.Import.{Import as Tree}
use Rattle.sv_tree.specs.declared.items.Item.{Item}
use Rattle.sv_tree.specs.declared.items.Item.TheVariants as items
use Rattle.sv_tree.specs.declared.items.SvFile.{SvFile}
use Rattle.c_tree.specs.declared.file.CFile.{CFile}
use Rattle.sv_instances.specs.Modules.{InFile, modules_in}
use Rattle.sv_design.specs.declared.imports.Import.{Import}
use Rattle.sv_design.specs.Imports as design
use Rattle.c_functions.specs.Declarations.{Known, known_of}
use Rattle.c_program.specs.Functions.{functions_of}
use Rattle.c_check.specs.Check.{violations}
use Rattle.dpi_items.specs.Names.{c_name, import_c_name}
use Rattle.dpi_links.specs.Functions.{shared_body}
use Rattle.dpi_links.specs.Imports as links
use Rattle.dpi_links.specs.Exports.{exports_in, exports_violations}
use Rattle.dpi_links.specs.Link.{sv_violations}
use Rattle.dpi_decl.specs.Functions.{numbers_in, body_number, called_function, function_of}
use Rattle.dpi_decl.proofs.Typed.{left_none, right_none, both, first_of_both, second_of_both}
use Rattle.dpi_decl.proofs.Standing.{body_numbered}

-- the import's name in C has a body
abbrev pub has_body : (List ℕ → Option Known) → Import → Bool
has_body bodies i = is_some (bodies i.c_name)

-- rule 6
body_there : (file token : ℕ) (s : Option Known) (i : links.Imported) → links.broken file token (links.body_rule i.signature s) ≡ [] → is_some s ≡ true
body_there file token None i h = absurd (cc)
body_there file token (Some d) i h = refl

same_name : (written : Option Name) (name : Name) → c_name written name ≡ design.c_name_of written name
same_name None name = refl
same_name (Some n) name = refl

import_there : (bodies : List ℕ → Option Known) (file : ℕ) (i : Tree) → links.body_violations bodies (links.imported file i) ≡ [] → has_body bodies (design.import_of file i) ≡ true
import_there bodies file i h =
    ap (λ n. is_some (bodies n)) (sym (same_name i.c_name i.name))
    ∙ body_there file i.name.token (bodies (import_c_name i)) (links.imported file i) h

item_there : (bodies : List ℕ → Option Known) (file : ℕ) (item : Item) → flat_map (links.body_violations bodies) (links.item_imports file item) ≡ [] → list_all (has_body bodies) (design.item_imports file item) ≡ true
item_there bodies file (items.Variables v) h = refl
item_there bodies file (items.Import i) h =
    both (has_body bodies (design.import_of file i)) true (import_there bodies file i (left_none (links.body_violations bodies (links.imported file i)) [] h)) refl
item_there bodies file (items.Export x) h = refl
item_there bodies file (items.Function f) h = refl
item_there bodies file (items.Task t) h = refl
item_there bodies file (items.Initial k s) h = refl
item_there bodies file (items.Instance m n) h = refl

items_there : (bodies : List ℕ → Option Known) (file : ℕ) (is : List Item) → flat_map (links.body_violations bodies) (flat_map (links.item_imports file) is) ≡ [] → list_all (has_body bodies) (flat_map (design.item_imports file) is) ≡ true
items_there bodies file [] h = refl
items_there bodies file (i ∷ is) h =
    let own = flat_map (links.body_violations bodies) (links.item_imports file i) in
    let more = flat_map (links.body_violations bodies) (flat_map (links.item_imports file) is) in
    let joined = sym (flat_map-append (links.body_violations bodies) (links.item_imports file i) (flat_map (links.item_imports file) is)) ∙ h in
    list_all-append (has_body bodies) (design.item_imports file i) (flat_map (design.item_imports file) is)
    ∙ both (list_all (has_body bodies) (design.item_imports file i)) (list_all (has_body bodies) (flat_map (design.item_imports file) is)) (item_there bodies file i (left_none own more joined)) (items_there bodies file is (right_none own more joined))

modules_there : (bodies : List ℕ → Option Known) (ms : List InFile) → flat_map (links.body_violations bodies) (flat_map links.module_imports ms) ≡ [] → list_all (has_body bodies) (flat_map design.module_imports ms) ≡ true
modules_there bodies [] h = refl
modules_there bodies (m ∷ ms) h =
    let own = flat_map (links.body_violations bodies) (links.module_imports m) in
    let more = flat_map (links.body_violations bodies) (flat_map links.module_imports ms) in
    let joined = sym (flat_map-append (links.body_violations bodies) (links.module_imports m) (flat_map links.module_imports ms)) ∙ h in
    list_all-append (has_body bodies) (design.module_imports m) (flat_map design.module_imports ms)
    ∙ both (list_all (has_body bodies) (design.module_imports m)) (list_all (has_body bodies) (flat_map design.module_imports ms)) (items_there bodies m.file m.tree.items (left_none own more joined)) (modules_there bodies ms (right_none own more joined))

all_there : (svs : List SvFile) (cs : List CFile) → sv_violations svs cs ≡ [] → list_all (has_body (shared_body (known_of cs))) (design.imports_in svs) ≡ true
all_there svs cs clean =
    let ms = modules_in svs in
    let bodies = shared_body (known_of cs) in
    let is = links.imports_in ms in
    let front = left_none (links.imports_violations bodies is) (exports_violations bodies (exports_in ms)) clean in
    modules_there bodies ms (right_none (flat_map links.own_violations is ++ links.unequal_imports is) (flat_map (links.body_violations bodies) is) front)

-- ---- by number

-- an entry of a list that passes, by its number
at_number : {X : Type 0} (p : X → Bool) (xs : List X) (i : ℕ) → list_all p xs ≡ true → i < length xs → (x : X) × (slice_get xs i ≡ Some x) × (p x ≡ true)
at_number p [] i h k = absurd (omega arith)
at_number p (x ∷ xs) zero h k = (x, refl, first_of_both (p x) (list_all p xs) h)
at_number p (x ∷ xs) (suc i) h k = at_number p xs i (second_of_both (p x) (list_all p xs) h) (omega arith)

with_body : (cs : List CFile) (name : List ℕ) (o : Option Known) → shared_body (known_of cs) name ≡ o → is_some o ≡ true → violations cs ≡ [] → is_some (body_number (numbers_in (functions_of cs)) o) ≡ true
with_body cs name None e h clean = absurd (cc)
with_body cs name (Some d) e h clean = body_numbered cs d name clean e

-- the function of each import of files that break no rule
pub function_there : (svs : List SvFile) (cs : List CFile) (i : ℕ) → sv_violations svs cs ≡ [] → violations cs ≡ [] → i < length (design.imports_in svs) → is_some (function_of svs cs i) ≡ true
function_there svs cs i linked clean k =
    let at = at_number (has_body (shared_body (known_of cs))) (design.imports_in svs) i (all_there svs cs linked) k in
    ap (λ o. is_some (option_and_then (called_function cs) o)) at.1
    ∙ with_body cs at.0.c_name (shared_body (known_of cs) at.0.c_name) refl at.2 clean

-- what a list of an answer each has at a number
pub answer_at : {X : Type 0} (f : X → Option ℕ) (xs : List X) (i : ℕ) (r : Option ℕ) → i < length xs → r ≡ get_or (map f xs) i r → option_and_then f (slice_get xs i) ≡ r
answer_at f [] i r k e = absurd (omega arith)
answer_at f (x ∷ xs) zero r k e = sym e
answer_at f (x ∷ xs) (suc i) r k e = answer_at f xs i r (omega arith) e

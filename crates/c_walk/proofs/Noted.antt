-- Variables, parameters and functions, by what their parts do.
use Rattle.std.proofs.Common.{◌≡◌, ℕ, Bool, List, [], ◌∷◌, ◌++◌, sym, ap, ◌∙◌, Option, Result, Ok, Err}
use Rattle.std.specs.Prelude.{IfOk, OnOk}
use Rattle.dpi_ports.specs.declared.no_memory.NoMemory.{NoMemory}
use Rattle.dpi_rules.specs.declared.violation.Violation.{Violation}
use Rattle.dpi_rules.specs.Least.{noted}
use Rattle.dpi_rules.proofs.Noting.{noted_both}
use Rattle.c_tree.specs.declared.types.CType.{CType as TypeTree}
use Rattle.c_tree.specs.declared.declarations.Declarator.{Declarator}
use Rattle.c_tree.specs.declared.file.Function.{Function}
use Rattle.c_names.specs.declared.entry.Entry.{Entry}
use Rattle.c_names.specs.Names.{Names, added}
use Rattle.c_walk.specs.declared.objects.Object.{Object}
use Rattle.c_walk.specs.Sight.{Sight, Walks, scopes, inside, after, stays, both, IsBehind, Behind, Follows, Sees, Ends, IsFilled}
use Rattle.c_walk.specs.Around.{Around}
use Rattle.c_walk.specs.Objects.{initializer_violations}
use Rattle.c_walk.specs.Declarations.{object_of, shape_violations, object_walk, declared_walk, declarator_walk, params_walk}
use Rattle.c_walk.specs.File.{function_name_walk, function_walk, body_violations, returning}
use Rattle.c_walk.proofs.Walking.{is_behind_both, stays_noted}

-- a name that is declared
pub named_says : (w : Walks) (name : List ℕ) (e : Entry) (names names' : List Names) (found found' : Option Violation) (r : Result (Unit {0}) NoMemory) → ((s : Sight) → (w s).inner ≡ added s.inner name e) → ((s : Sight) → names ≡ scopes s → found' ≡ noted found (w s).found) → OnOk r ((outer : List Names) (inner : Names) → names ≡ outer ++ inner ∷ [] → names' ≡ outer ++ added inner name e ∷ []) → Follows w names found r names' found'
named_says w name e names names' found found' (Ok u) inner noted_is declares s h = record {
  scopes_are = declares s.outer s.inner h ∙ ap (λ n. s.outer ++ n ∷ []) (sym (inner s));
  found_are = noted_is s h;
}
named_says w name e names names' found found' (Err x) inner noted_is declares s h = tt

-- a variable, by the object that it declares
declared_says : (a : Around) (tree : TypeTree) (d : Declarator) (o : Object) {names names' : List Names} (found : Option Violation) {found1 found2 : Option Violation} (found3 : Option Violation) (r : Result (Unit {0}) NoMemory) → found1 ≡ noted found (shape_violations a names tree d) → ((t : Sight) → names ≡ scopes t → IsBehind (object_walk a d.name o) t found1 names' found2) → IfOk r (λ _. found3 ≡ noted found2 (initializer_violations a names' o d.initializer)) → (s : Sight) → names ≡ scopes s → Behind (declared_walk a tree d o) s found r names' found3
declared_says a tree d o found {found1} {found2} found3 (Ok u) shape name init s h =
    is_behind_both (both (stays (λ n. shape_violations a n tree d)) (object_walk a d.name o)) (stays (λ n. initializer_violations a n o d.initializer))
    (is_behind_both (stays (λ n. shape_violations a n tree d)) (object_walk a d.name o) (stays_noted (λ n. shape_violations a n tree d) found shape s h) name)
    (stays_noted (λ n. initializer_violations a n o d.initializer) found2 init)
declared_says a tree d o found found3 (Err e) shape name init s h = tt

same_walk : (v w : Walks) (s : Sight) (found found' : Option Violation) (names' : List Names) (r : Result (Unit {0}) NoMemory) → v s ≡ w s → Behind v s found r names' found' → Behind w s found r names' found'
same_walk v w s found found' names' (Ok u) e b = record { scopes_are = b.scopes_are ∙ ap (λ x. s.outer ++ x.inner ∷ []) e; found_are = b.found_are ∙ ap (λ x. noted found x.found) e }
same_walk v w s found found' names' (Err x) e b = tt

pub declarator_says : (a : Around) (lasts : Bool) (tree : TypeTree) (d : Declarator) (o : Object) {names names' : List Names} (found : Option Violation) {found1 found2 : Option Violation} (found3 : Option Violation) (r : Result (Unit {0}) NoMemory) → o ≡ object_of a names lasts tree d → found1 ≡ noted found (shape_violations a names tree d) → ((t : Sight) → names ≡ scopes t → IsBehind (object_walk a d.name o) t found1 names' found2) → IfOk r (λ _. found3 ≡ noted found2 (initializer_violations a names' o d.initializer)) → Follows (declarator_walk a lasts tree d) names found r names' found3
declarator_says a lasts tree d o {names} {names'} found found3 r is shape name init s h =
    same_walk (declared_walk a tree d o) (declarator_walk a lasts tree d) s found found3 names' r
    (ap (λ x. declared_walk a tree d x s) (is ∙ ap (λ n. object_of a n lasts tree d) h))
    (declared_says a tree d o found found3 r shape name init s h)

-- a variable's name comes in sight, by the object that it declares
pub seen_says : (a : Around) (lasts : Bool) (tree : TypeTree) (d : Declarator) (o : Object) (names names' : List Names) (found found' : Option Violation) (r : Result (Unit {0}) NoMemory) → o ≡ object_of a names lasts tree d → Follows (object_walk a d.name o) names found r names' found' → Sees (declarator_walk a lasts tree d) names r names'
seen_says a lasts tree d o names names' found found' (Ok u) is f s h =
    (f s h).scopes_are ∙ ap (λ x. scopes (after (object_walk a d.name x) s)) (is ∙ ap (λ n. object_of a n lasts tree d) h)
seen_says a lasts tree d o names names' found found' (Err e) is f s h = tt

-- a function, by its parameters, its name and its body
pub function_says : (a : Around) (n : ℕ) (f : Function) (inner : Names) {names names1 : List Names} (names2 : List Names) {found found1 found2 : Option Violation} (found3 : Option Violation) (r : Result (Unit {0}) NoMemory) → IsFilled (params_walk a f.params) (inside names) found inner found1 → ((t : Sight) → names ≡ scopes t → IsBehind (function_name_walk a n f.name) t found1 names1 found2) → Ends (body_violations (returning a n) f.body) names1 inner found2 r names2 found3 → Follows (function_walk a n f) names found r names2 found3
function_says a n f inner {names} {names1} names2 {found} {found1} {found2} found3 (Ok u) ps name body s h =
    let b = name s h in
    let p = params_walk a f.params in
    let v = function_name_walk a n f.name in
    let vs = (p (inside (scopes s))).found in
    let is_inner = ps.inner_is ∙ ap (λ m. (p (inside m)).inner) h in
    let is_found = ps.found_are ∙ ap (λ m. noted found (p (inside m)).found) h in
    let ends = body.found_are
    ∙ ap (λ m. noted found2 (body_violations (returning a n) f.body (record { outer = m; inner = inner }))) b.scopes_are
    ∙ ap (λ m. noted found2 (body_violations (returning a n) f.body (record { outer = scopes (after v s); inner = m }))) is_inner in
    record {
      scopes_are = body.scopes_are ∙ b.scopes_are;
      found_are = noted_both found (vs ++ (v s).found) (body_violations (returning a n) f.body (record { outer = scopes (after v s); inner = (p (inside (scopes s))).inner })) (noted_both found vs (v s).found is_found b.found_are) ends;
    }
function_says a n f inner names2 found3 (Err e) ps name body s h = tt

-- Variables and functions, by what their parts do.
use Rattle.std.proofs.Common.{◌≡◌, ℕ, Bool, List, [], ◌∷◌, ◌++◌, sym, ap, ◌∙◌, Option, Result, Ok, Err}
use Rattle.std.specs.Prelude.{OnOk}
use Rattle.dpi_ports.specs.declared.no_memory.NoMemory.{NoMemory}
use Rattle.dpi_rules.specs.declared.violation.Violation.{Violation}
use Rattle.c_tree.specs.declared.types.CType.{CType as TypeTree}
use Rattle.c_tree.specs.declared.declarations.Declarator.{Declarator}
use Rattle.c_tree.specs.declared.file.Function.{Function}
use Rattle.c_names.specs.Names.{Names}
use Rattle.c_names.specs.Scopes.{innermost}
use Rattle.c_walk.specs.Sight.{Sight, Walks, scopes, inside, after, Follows}
use Rattle.c_walk.specs.Around.{Around}
use Rattle.c_walk.specs.Declarations.{declarator_walk}
use Rattle.c_walk.specs.File.{function_name_walk}
use Rattle.c_meanings.specs.Places.{Facts}
use Rattle.c_meanings.specs.Sight.{stays, brings, both, IsBehind, Adds, Ends, IsFilled}
use Rattle.c_meanings.specs.Declarations.{declarator_facts, initializer_facts, declarator_tells, params_tell}
use Rattle.c_meanings.specs.File.{function_name_facts, has_body, body_facts, function_tells}
use Rattle.c_meanings.proofs.Adding.{both_added}
use Rattle.c_meanings.proofs.Telling.{is_behind_both, is_said, is_brought}

-- a variable: its name and its size, its name in sight, and what it begins with
pub declarator_says : (a : Around) (lasts : Bool) (tree : TypeTree) (d : Declarator) (names names' : List Names) (list list1 list2 : Facts) (r : Result (Unit {0}) NoMemory)
    → list1 ≡ list ++ declarator_facts a names d
    → ((s : Sight) → names ≡ scopes s → names' ≡ scopes (after (declarator_walk a lasts tree d) s))
    → OnOk r (list2 ≡ list1 ++ initializer_facts a names' d.initializer)
    → Adds (declarator_tells a lasts tree d) names list r names' list2
declarator_says a lasts tree d names names' list list1 list2 (Ok u) named sees begun s h =
    let w = declarator_walk a lasts tree d in
    is_behind_both (both (stays (λ n. declarator_facts a n d)) (brings w)) (stays (λ n. initializer_facts a n d.initializer))
    (is_behind_both (stays (λ n. declarator_facts a n d)) (brings w) (is_said (λ n. declarator_facts a n d) list named s h) (λ t k. is_brought w t list1 names' (sees t k)))
    (is_said (λ n. initializer_facts a n d.initializer) list1 begun)
declarator_says a lasts tree d names names' list list1 list2 (Err e) named sees begun s h = tt

-- a part that tells nothing, by the walk that brings its name in sight
pub brought_says : (w : Walks) (names names' : List Names) (list : Facts) (found found' : Option Violation) (r : Result (Unit {0}) NoMemory) → Follows w names found r names' found' → Adds (brings w) names list r names' list
brought_says w names names' list found found' (Ok u) f s h = is_brought w s list names' (f s h).scopes_are
brought_says w names names' list found found' (Err e) f s h = tt

-- a function: its name, its parameters, its name in sight, and its body
pub function_says : (a : Around) (n : ℕ) (f : Function) (inner : Names) (names names1 names2 : List Names) (list list1 list2 list3 : Facts) (r : Result (Unit {0}) NoMemory)
    → list1 ≡ list ++ function_name_facts f.name (innermost names f.name.bytes)
    → IsFilled (params_tell a (has_body f.body) f.params) (inside names) list1 inner list2
    → ((s : Sight) → names ≡ scopes s → names1 ≡ scopes (after (function_name_walk a n f.name) s))
    → Ends (body_facts a f.body) names1 inner list2 r names2 list3
    → Adds (function_tells a n f) names list r names2 list3
function_says a n f inner names names1 names2 list list1 list2 list3 (Ok u) named ps sees body s h =
    let w = function_name_walk a n f.name in
    let p = params_tell a (has_body f.body) f.params in
    let first = function_name_facts f.name (innermost (scopes s) f.name.bytes) in
    let second = (p (inside (scopes s))).facts in
    let third = body_facts a f.body (record { outer = scopes (after w s); inner = (p (inside (scopes s))).inner }) in
    let is_first : list1 ≡ list ++ first = named ∙ ap (λ m. list ++ function_name_facts f.name (innermost m f.name.bytes)) h in
    let is_second : list2 ≡ list1 ++ second = ps.list_is ∙ ap (λ m. list1 ++ (p (inside m)).facts) h in
    let is_inner : inner ≡ (p (inside (scopes s))).inner = ps.inner_is ∙ ap (λ m. (p (inside m)).inner) h in
    let is_third : list3 ≡ list2 ++ third =
    body.list_is
    ∙ ap (λ m. list2 ++ body_facts a f.body (record { outer = m; inner = inner })) (sees s h)
    ∙ ap (λ m. list2 ++ body_facts a f.body (record { outer = scopes (after w s); inner = m })) is_inner in
    record {
      scopes_are = body.scopes_are ∙ sees s h;
      list_is = both_added list list2 list3 (first ++ second) third (both_added list list1 list2 first second is_first is_second) is_third;
    }
function_says a n f inner names names1 names2 list list1 list2 list3 (Err e) named ps sees body s h = tt

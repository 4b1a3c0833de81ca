-- Functions and tasks: a name, formals, and a body inside a scope.
use Rattle.std.proofs.Common.{◌≡◌, ℕ, List, [], ◌∷◌, ◌++◌, ap, ◌∙◌, Bool, Option, Result, Ok, Err, IfOk}
use Rattle.dpi_ports.specs.declared.no_memory.NoMemory.{NoMemory}
use Rattle.dpi_rules.specs.declared.violation.Violation.{Violation}
use Rattle.sv_tree.specs.declared.items.Body.{Body}
use Rattle.sv_names.specs.declared.scope.Scope.{Scope}
use Rattle.sv_names.specs.Names.{Names, no_names, names_of}
use Rattle.sv_names.specs.Declaring.{Declared, with_all}
use Rattle.sv_names.specs.Declarations.{Opens}
use Rattle.sv_walk.specs.declared.around.Around.{Around}
use Rattle.sv_walk.specs.Around.{Inside, inside}
use Rattle.sv_meanings.specs.Places.{Facts}
use Rattle.sv_meanings.specs.Items.{in_subroutine, body_facts}
use Rattle.sv_meanings.proofs.Adding.{on_ok, both_added}
use Rattle.sv_meanings.proofs.Walking.{Leaves, Walks}
use Rattle.sv_meanings.proofs.Entering.{LeavesInnermost}

-- the names of a scope that is opened
pub opened : (file : ℕ) (ds es : List Declared) (found found' : Option Violation) (r : Result Scope NoMemory) → ds ≡ es → Opens file ds found r found' → IfOk r (λ s. names_of s ≡ with_all no_names es)
opened file ds es found found' (Ok s) e o = o.names_are ∙ ap (with_all no_names) e
opened file ds es found found' (Err x) e o = tt

-- a scope that is entered and left around a body
pub inside_says : (a : Around) (body : Body) (scopes scopes1 scopes2 scopes3 : List Names) (names : Names) (list list1 : Facts)
    → scopes1 ≡ scopes ++ names ∷ []
    → Leaves scopes1 list (body_facts (inside a scopes1) body) scopes2 list1
    → LeavesInnermost scopes2 scopes3
    → Leaves scopes list (body_facts (inside a (scopes ++ names ∷ [])) body) scopes3 list1
inside_says a body scopes scopes1 scopes2 scopes3 names list list1 e b out =
    (out scopes names (b.0 ∙ e), b.1 ∙ ap (λ s. list ++ body_facts (inside a s) body) e)

-- inside one scope more, with these names
abbrev pub inside_names : Inside → Names → Bool → Inside
inside_names i names in_function = record i { scopes = i.scopes ++ names ∷ []; in_function = in_function }

-- a name, then formals, then a body
pub subroutine_says : (r : Result (Unit {0}) NoMemory) (i : Inside) (ds : List Declared) (names : Names) (in_function : Bool) (body : Body) (scopes' : List Names) (list list1 list2 list3 named formals : Facts)
    → list1 ≡ list ++ named
    → list2 ≡ list1 ++ formals
    → names ≡ with_all no_names ds
    → Walks r i.scopes list2 (body_facts (inside_names i names in_function) body) scopes' list3
    → Walks r i.scopes list (named ++ formals ++ body_facts (in_subroutine i ds in_function) body) scopes' list3
subroutine_says r i ds names in_function body scopes' list list1 list2 list3 named formals h k n b =
    on_ok r (λ l. (
      l.0,
      both_added list list2 list3 (named ++ formals) (body_facts (in_subroutine i ds in_function) body) (both_added list list1 list2 named formals h k)
          (l.1 ∙ ap (λ m. list2 ++ body_facts (inside_names i m in_function) body) n),
    )) b

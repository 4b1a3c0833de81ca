-- Functions and tasks: a signature, a scope, and a body inside it.
use Rattle.std.proofs.Common.{◌≡◌, List, [], ◌∷◌, ◌++◌, ap, ◌∙◌, Bool, Option, Result, Ok, Err}
use Rattle.std.specs.Prelude.{OnOk}
use Rattle.dpi_ports.specs.declared.no_memory.NoMemory.{NoMemory}
use Rattle.dpi_rules.specs.declared.violation.Violation.{Violation}
use Rattle.dpi_rules.specs.Least.{noted}
use Rattle.dpi_rules.proofs.Noting.{noted_both}
use Rattle.sv_tree.specs.declared.items.Body.{Body}
use Rattle.sv_names.specs.Names.{Names, no_names}
use Rattle.sv_names.specs.Declaring.{Declared, IsDeclared, seconds}
use Rattle.sv_typing.specs.declared.types.ExprType.{ExprType}
use Rattle.sv_walk.specs.Around.{Inside}
use Rattle.sv_walk.specs.Walk.{in_body}
use Rattle.sv_check.specs.Modules.{in_subroutine, scope_violations}

-- what follows where a call succeeds
pub on_ok : {P Q : Type 0} (r : Result (Unit {0}) NoMemory) → (P → Q) → OnOk r P → OnOk r Q
on_ok (Ok u) f h = f h
on_ok (Err e) f h = tt

-- one list noted, and then another
pub then_noted : (start middle end : Option Violation) (vs ws : List Violation) → middle ≡ noted start vs → end ≡ noted middle ws → end ≡ noted start (vs ++ ws)
then_noted start middle end vs ws h k = noted_both start {middle = middle} {end = end} vs ws h k

-- inside one scope more, with these names
abbrev pub inside_names : Inside → Names → Bool → Option ExprType → Inside
inside_names i names in_function result = record i { scopes = i.scopes ++ names ∷ []; in_function = in_function; result = result }

body_noted : (start first second end : Option Violation) (i : Inside) (signed : List Violation) (ds : List Declared) (names : Names) (in_function : Bool) (result given : Option ExprType) (body : Body) → first ≡ noted start signed → IsDeclared i.file ds no_names first names second → given ≡ result → end ≡ noted second (in_body body.variables body.statements (inside_names i names in_function given)) → end ≡ noted start (signed ++ scope_violations i ds in_function result body)
body_noted start first second end i signed ds names in_function result given body s d g b =
    let inner = b
    ∙ ap (λ n. noted second (in_body body.variables body.statements (inside_names i n in_function given))) d.names_are
    ∙ ap (λ t. noted second (in_body body.variables body.statements (in_subroutine i ds in_function t))) g in
    let broken = in_body body.variables body.statements (in_subroutine i ds in_function result) in
    then_noted start first end signed (scope_violations i ds in_function result body) s (then_noted first second end (seconds i.file no_names ds) broken d.found_are inner)

-- a signature, then a scope, then a body
pub scope_noted : (start first second end : Option Violation) (r : Result (Unit {0}) NoMemory) (i : Inside) (signed : List Violation) (ds : List Declared) (names : Names) (in_function : Bool) (result given : Option ExprType) (body : Body) → first ≡ noted start signed → IsDeclared i.file ds no_names first names second → given ≡ result → OnOk r (end ≡ noted second (in_body body.variables body.statements (inside_names i names in_function given))) → OnOk r (end ≡ noted start (signed ++ scope_violations i ds in_function result body))
scope_noted start first second end r i signed ds names in_function result given body s d g b =
    on_ok r (body_noted start first second end i signed ds names in_function result given body s d g) b

use Rattle.std.proofs.Common.{◌≡◌, refl, ap, ◌∙◌, subst, false, None}
use Rattle.sv_names.specs.Names.{no_names, names_of}
use Rattle.sv_names.specs.Scopes.{scopes_of}
use Rattle.sv_names.specs.Declaring.{IsDeclared}
use Rattle.sv_names.specs.Subroutines.{task_declares}
use Rattle.sv_signatures.specs.Signatures.{task_signature, task_violations}
use Rattle.sv_walk.specs.Around.{inside}
use Rattle.sv_inside.specs.Seen.{kinds_of, inner_of_task}
use Rattle.sv_check.proofs.Inner.{scope_noted}
use Rattle.sv_check.proofs.items.note_task.Goals as goal

pub returns-clause-broken : goal.returns-clause-broken
returns-clause-broken c =
    let t = c.args.task.now in
    let around = c.args.around.now in
    let signed = c.in_ok-signature.ensures in
    let kinds : c.deref.result.now ≡ kinds_of (task_signature t).formals =
    c.deref.ensures.value ∙ c.in_ok-kinds.ensures ∙ ap kinds_of (c.as_slice.ensures ∙ ap (λ s. s.formals) signed.0) in
    let scope = subst (λ k. IsDeclared around.file (task_declares k t) no_names c.task_signature.new.found (names_of c.in_ok-scope.scope) c.task_scope.new.found) kinds c.in_ok-scope.ensures in
    scope_noted c.args.found.now c.task_signature.new.found c.task_scope.new.found c.note_body.new.found c.note_body.result (inside around (scopes_of c.args.scopes.now)) (task_violations around.file t) (inner_of_task t) (names_of c.in_ok-scope.scope) false None None t.body signed.1 scope refl c.note_body.ensures.broken

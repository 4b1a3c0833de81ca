use Rattle.std.proofs.Common.{◌≡◌, ap, ◌∙◌, None}
use Rattle.sv_names.specs.Subroutines.{task_declares}
use Rattle.sv_signatures.specs.Signatures.{task_signature}
use Rattle.sv_inside.specs.Seen.{kinds_of, inner_of_task}
use Rattle.sv_meanings.proofs.Inner.{opened}
use Rattle.sv_meanings.proofs.items.inner_of_the_task.Goals as goal

pub returns : goal.returns
returns c =
    let f = c.args.task.now in
    let kinds : c.deref.result.now ≡ kinds_of (task_signature f).formals =
    c.deref.ensures.value ∙ c.in_ok-kinds.ensures ∙ ap kinds_of (c.as_slice.ensures ∙ ap (λ s. s.formals) c.in_ok-signature.ensures.0) in
    opened c.args.file (task_declares c.deref.result.now f) (inner_of_task f) None c.task_scope.new.found c.task_scope.result (ap (λ k. task_declares k f) kinds) c.task_scope.ensures

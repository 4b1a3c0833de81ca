use Rattle.std.proofs.Common.{◌≡◌, ap, ◌∙◌, None}
use Rattle.sv_names.specs.Subroutines.{function_declares}
use Rattle.sv_signatures.specs.Signatures.{function_signature}
use Rattle.sv_inside.specs.Seen.{kinds_of, inner_of_function}
use Rattle.sv_meanings.proofs.Inner.{opened}
use Rattle.sv_meanings.proofs.items.inner_of.Goals as goal

pub returns : goal.returns
returns c =
    let f = c.args.function.now in
    let kinds : c.deref.result.now ≡ kinds_of (function_signature f).formals =
    c.deref.ensures.value ∙ c.in_ok-kinds.ensures ∙ ap kinds_of (c.as_slice.ensures ∙ ap (λ s. s.formals) c.in_ok-signature.ensures.0) in
    opened c.args.file (function_declares c.deref.result.now f) (inner_of_function f) None c.function_scope.new.found c.function_scope.result (ap (λ k. function_declares k f) kinds) c.function_scope.ensures

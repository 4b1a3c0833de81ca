use Rattle.std.proofs.Common.{◌≡◌, ap, ◌∙◌, subst, true}
use Rattle.sv_names.specs.Names.{no_names, names_of}
use Rattle.sv_names.specs.Scopes.{scopes_of}
use Rattle.sv_names.specs.Declaring.{IsDeclared}
use Rattle.sv_names.specs.Subroutines.{function_declares}
use Rattle.sv_signatures.specs.Signatures.{function_signature, function_violations}
use Rattle.sv_walk.specs.Around.{inside}
use Rattle.sv_inside.specs.Seen.{kinds_of, inner_of_function}
use Rattle.sv_check.specs.Modules.{result_type}
use Rattle.sv_check.proofs.Inner.{scope_noted}
use Rattle.sv_check.proofs.items.note_function.Goals as goal

pub returns-clause-broken : goal.returns-clause-broken
returns-clause-broken c =
    let f = c.args.function.now in
    let around = c.args.around.now in
    let signed = c.in_ok-signature.ensures in
    let kinds : c.deref.result.now ≡ kinds_of (function_signature f).formals =
    c.deref.ensures.value ∙ c.in_ok-kinds.ensures ∙ ap kinds_of (c.as_slice.ensures ∙ ap (λ s. s.formals) signed.0) in
    let scope = subst (λ k. IsDeclared around.file (function_declares k f) no_names c.function_signature.new.found (names_of c.in_ok-scope.scope) c.function_scope.new.found) kinds c.in_ok-scope.ensures in
    let given = c.result_type.ensures ∙ ap (λ s. result_type s.result) signed.0 in
    scope_noted c.args.found.now c.function_signature.new.found c.function_scope.new.found c.note_body.new.found c.note_body.result (inside around (scopes_of c.args.scopes.now)) (function_violations around.file f) (inner_of_function f) (names_of c.in_ok-scope.scope) true (result_type (function_signature f).result) c.result_type.result f.body signed.1 scope given c.note_body.ensures.broken

use Rattle.std.proofs.Common.{◌≡◌, ◌++◌, ap, ◌∙◌, subst}
use Rattle.c_names.specs.Names.{names_of}
use Rattle.c_names.specs.Scopes.{scopes_of, innermost}
use Rattle.c_walk.specs.Sight.{inside}
use Rattle.c_walk.specs.Around.{around_of}
use Rattle.c_meanings.specs.Sight.{IsFilled}
use Rattle.c_meanings.specs.Declarations.{params_tell}
use Rattle.c_meanings.specs.File.{function_name_facts, has_body}
use Rattle.c_meanings.proofs.Parts.{function_says}
use Rattle.c_meanings.proofs.files.add_function.Goals as goal

pub returns : goal.returns
returns c =
    let a = around_of c.args.outside.now in
    let f = c.args.function.now in
    let names = scopes_of c.args.scopes.now in
    let old = c.args.list.now.items in
    let inner = names_of c.in_ok-scope.scope in
    let named : c.add_function_name.new.list.items ≡ old ++ function_name_facts f.name (innermost names f.name.bytes) =
    c.in_ok-add_function_name.ensures ∙ ap (λ e. old ++ function_name_facts f.name e) (c.here.ensures ∙ ap (innermost names) c.as_slice.ensures) in
    let ps = subst (λ b. IsFilled (params_tell a b f.params) (inside names) c.add_function_name.new.list.items inner c.params_scope.new.list.items) c.has_body-has_body.ensures c.in_ok-scope.ensures in
    function_says a c.args.number f inner names (scopes_of c.declare_function.new.scopes) (scopes_of c.add_body.new.scopes) old c.add_function_name.new.list.items c.params_scope.new.list.items c.add_body.new.list.items c.add_body.result
    named ps (λ s h. (c.in_ok-declare_function.ensures s h).scopes_are) c.add_body.ensures

use Rattle.std.proofs.Common.{◌∙◌, ◌++◌, ◌∷◌, [], ap}
use Rattle.std.specs.Prelude.{None, List}
use Rattle.c_functions.specs.declared.types.FunctionType.{FunctionType}
use Rattle.c_functions.specs.Types.{function_types}
use Rattle.c_names.specs.Names.{no_names}
use Rattle.c_names.specs.Scopes.{scopes_of}
use Rattle.c_walk.specs.Sight.{inside}
use Rattle.c_walk.specs.Around.{Values, values_of, no_values, values_behind}
use Rattle.c_meanings.specs.File.{externals_tell}
use Rattle.c_meanings.proofs.files.facts_of.Goals as goal

pub returns : goal.returns
returns c =
    let file = c.args.file.now in
    let es = file.externals in
    let number = c.args.number in
    let enters = c.in_ok-enter.ensures ∙ ap (λ n. scopes_of c.new-scopes.result ++ n ∷ []) c.new.ensures ∙ ap (λ n. n ++ no_names ∷ []) c.new-scopes.ensures in
    let b = (rw c.as_slice-externals.ensures at c.in_ok-add_externals.ensures) (inside []) enters in
    let values = rw c.as_slice-externals.ensures at c.in_ok-defines.ensures in
    let functions = c.deref.ensures.value ∙ c.in_ok-functions.ensures in
    b.list_is
    ∙ ap (λ l. l ++ (externals_tell (record { file = number; functions = c.deref.result.now; values = values_of c.in_ok-defines.defines; result = None }) 0 es (inside [])).facts) c.new-list.ensures.items
    ∙ ap (λ (v : Values). (externals_tell (record { file = number; functions = c.deref.result.now; values = v; result = None }) 0 es (inside [])).facts) values
    ∙ ap (λ (fs : List FunctionType). (externals_tell (record { file = number; functions = fs; values = values_behind no_values es; result = None }) 0 es (inside [])).facts) functions

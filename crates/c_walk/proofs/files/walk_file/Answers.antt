use Rattle.std.proofs.Common.{◌∙◌, ◌++◌, ◌∷◌, [], ap}
use Rattle.std.specs.Prelude.{None}
use Rattle.c_names.specs.Names.{no_names}
use Rattle.c_names.specs.Scopes.{scopes_of}
use Rattle.c_walk.specs.Sight.{inside}
use Rattle.c_walk.specs.Around.{Values}
use Rattle.c_walk.specs.File.{externals_walk, file_violations}
use Rattle.c_walk.proofs.Walking.{whole_noted}
use Rattle.c_walk.proofs.files.walk_file.Goals as goal

pub returns : goal.returns
returns c =
    let es = c.args.tree.now.externals in
    let file = c.args.file in
    let functions = c.args.functions.now in
    let enters = c.in_ok-enter.ensures ∙ ap (λ n. scopes_of c.new-scopes.result ++ n ∷ []) c.new.ensures ∙ ap (λ n. n ++ no_names ∷ []) c.new-scopes.ensures in
    let b = (rw c.as_slice-externals.ensures at c.walk_externals.ensures) (inside []) enters in
    let values = rw c.as_slice-externals.ensures at c.in_ok-defines.ensures in
    whole_noted _ (inside []) _ c.args.found.now c.walk_externals.new.found (file_violations file functions c.args.tree.now) c.walk_externals.result
    (ap (λ (v : Values). (externals_walk (record { file = file; functions = functions; values = v; result = None }) 0 es (inside [])).found) values)
    b

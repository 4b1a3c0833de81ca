use Rattle.std.proofs.Common.{◌≡◌, ◌++◌, ◌∙◌, ap, map}
use Rattle.c_functions.specs.Declarations.{told}
use Rattle.c_program.specs.Functions.{Names, has, no_names, shared_bodies, functions_from}
use Rattle.c_program.proofs.functions.functions_among.Goals as goal

pub returns : goal.returns
returns c =
    let files = map (map told) c.args.table.now in
    let bodies : has c.new-bodies.result.shared ≡ shared_bodies files = c.new-bodies.ensures ∙ (λ i q. c.in_ok-shared_bodies.ensures q i) in
    let before : has c.new-before.result.shared ≡ no_names = c.new-before.ensures ∙ (λ i q. c.new.ensures q i) in
    c.in_ok-add_files.ensures
    ∙ ap (λ fs. fs ++ functions_from (has c.new-bodies.result.shared) (has c.new-before.result.shared) files) c.new-list.ensures.items
    ∙ ap (λ (names : Names). functions_from names (has c.new-before.result.shared) files) bodies
    ∙ ap (λ (names : Names). functions_from (shared_bodies files) names files) before

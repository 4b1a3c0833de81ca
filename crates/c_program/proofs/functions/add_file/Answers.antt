use Rattle.std.proofs.Common.{◌≡◌, ◌++◌, ◌∙◌, ap, map, subst}
use Rattle.c_functions.specs.Declarations.{told}
use Rattle.c_program.specs.Functions.{Named, named, opened, has, no_names, own_bodies, functions_behind, named_behind}
use Rattle.c_program.proofs.functions.add_file.Goals as goal

pub returns-clause-list : goal.returns-clause-list
returns-clause-list c =
    let ds = map told c.args.declarations.now in
    let bodies : named c.set_own.new.self ≡ opened (has c.args.bodies.now.shared) (own_bodies ds) = c.set_own.ensures ∙ ap (opened (has c.args.bodies.now.shared)) (λ i q. c.in_ok-own_bodies.ensures q i) in
    let before : named c.set_own-2.new.self ≡ opened (has c.args.before.now.shared) no_names = c.set_own-2.ensures ∙ ap (opened (has c.args.before.now.shared)) (λ i q. c.new.ensures q i) in
    subst (λ (b : Named). c.add_declared.new.list.items ≡ c.args.list.now.items ++ functions_behind (opened (has c.args.bodies.now.shared) (own_bodies ds)) b ds) before
    (subst (λ (b : Named). c.add_declared.new.list.items ≡ c.args.list.now.items ++ functions_behind b (named c.set_own-2.new.self) ds) bodies c.in_ok-add_declared.ensures.list)

pub returns-clause-before : goal.returns-clause-before
returns-clause-before c =
    let ds = map told c.args.declarations.now in
    let before : named c.set_own-2.new.self ≡ opened (has c.args.before.now.shared) no_names = c.set_own-2.ensures ∙ ap (opened (has c.args.before.now.shared)) (λ i q. c.new.ensures q i) in
    ap (λ (b : Named). b.shared) (c.in_ok-add_declared.ensures.before ∙ ap (λ (b : Named). named_behind b ds) before)

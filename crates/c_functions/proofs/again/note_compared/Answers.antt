use Rattle.std.proofs.Common.{◌≡◌, ◌∷◌, [], sym, ◌∙◌, subst, true, false, cond}
use Rattle.c_functions.specs.Declarations.{told}
use Rattle.c_functions.specs.Again.{Walks, is_compared}
use Rattle.c_functions.proofs.Walking.{walks_none}
use Rattle.c_functions.proofs.again.note_compared.Goals as goal

pub returns-in_ok-note_next : goal.returns-in_ok-note_next
returns-in_ok-note_next c =
    let d = told c.args.declaration in
    let holds : is_compared c.args.compared c.args.of_static d ≡ true = sym c.is_compared.ensures ∙ c.if-is_compared.true in
    λ before tells. subst (λ b. Walks c.args.compared (cond b (d ∷ []) []) c.note_next.new.firsts c.args.found.now c.note_next.new.found before) (sym holds) (c.in_ok-note_next.ensures before tells)

pub returns-else-is_compared : goal.returns-else-is_compared
returns-else-is_compared c =
    let d = told c.args.declaration in
    let holds : is_compared c.args.compared c.args.of_static d ≡ false = sym c.is_compared.ensures ∙ c.if-is_compared.false in
    λ before tells. subst (λ b. Walks c.args.compared (cond b (d ∷ []) []) c.args.firsts.now c.args.found.now c.args.found.now before) (sym holds) (walks_none c.args.compared c.args.firsts.now c.args.found.now before tells)

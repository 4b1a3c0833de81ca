use Rattle.std.proofs.Common.{◌≡◌, ◌+◌, ◌++◌, ◌∷◌, [], drop, sym, ap, ◌∙◌}
use Rattle.std.proofs.lemmas.List.{drop_all, append-nil}
use Rattle.dpi_rules.specs.Least.{noted}
use Rattle.sv_signatures.specs.Before.{start}
use Rattle.sv_signatures.specs.Formals.{told, after, formal_of, formal_violations, formals_of, formals_behind, violations_behind}
use Rattle.sv_signatures.proofs.Lists.{rest_of, made_more, noted_more}
use Rattle.sv_signatures.proofs.formals.listed_formals.Goals as goal

pub loop-formal-preserved : goal.loop-formal-preserved
loop-formal-preserved c =
    let fs = c.args.formals.now in
    let i = c.loop-formal.formal-index in
    let f = c.formal-item.result in
    let before = told c.loop-formal.before in
    let left = drop (i + 1) fs in
    let here : drop i fs ≡ f ∷ left = rest_of fs i f c.loop-formal-test.true c.formal-item.is in
    let next : told c.behind-before.result ≡ after f before = c.behind-before.ensures in
    record {
      list = ap (λ b. c.push.new.self ++ formals_behind b left) next
          ∙ made_more c.loop-formal.listed c.push.new.self c.formal_behind.result (formal_of before f) (formals_behind (after f before) left) (formals_of fs)
          (c.in_ok-push.ensures.ok) c.formal_behind.ensures.formal
          (ap (λ l. c.loop-formal.listed ++ formals_behind before l) (sym here) ∙ c.loop-formal.invariant.list);
      violations = noted_more (noted c.args.found.now (violations_behind c.args.file start fs)) c.loop-formal.found c.formal_behind.new.found
          (formal_violations c.args.file before f) (violations_behind c.args.file (after f before) left)
          c.formal_behind.ensures.violations
          (c.loop-formal.invariant.violations ∙ ap (λ l. noted c.loop-formal.found (violations_behind c.args.file before l)) here)
          ∙ ap (λ b. noted c.formal_behind.new.found (violations_behind c.args.file b left)) (sym next);
    }

pub returns : goal.returns
returns c =
    let fs = c.args.formals.now in
    let before = told c.loop-formal.before in
    let none : drop c.loop-formal.formal-index fs ≡ [] = drop_all c.loop-formal.formal-index fs c.loop-formal-test.false in (
      sym (append-nil c.loop-formal.listed) ∙ ap (λ l. c.loop-formal.listed ++ formals_behind before l) (sym none) ∙ c.loop-formal.invariant.list,
      sym (c.loop-formal.invariant.violations ∙ ap (λ l. noted c.loop-formal.found (violations_behind c.args.file before l)) none),
    )

use Rattle.std.proofs.Common.{◌≡◌, ◌+◌, ◌∷◌, [], false, drop, sym, ap, ◌∙◌}
use Rattle.std.proofs.lemmas.List.{drop_all}
use Rattle.dpi_rules.specs.Least.{noted}
use Rattle.sv_signatures.proofs.Lists.{rest_of, noted_more}
use Rattle.dpi_items.specs.Integers.{integer_violations, is_integer_import_formal, import_integers_behind}
use Rattle.dpi_items.proofs.integers.note_import_integers.Goals as goal

pub loop-formal-preserved : goal.loop-formal-preserved
loop-formal-preserved c =
    let file = c.args.file in
    let fs = c.args.formals.now in
    let i = c.loop-formal.formal-index in
    let f = c.formal-item.result in
    let before = c.loop-formal.integer in
    let found = c.loop-formal.found in
    let left = drop (i + 1) fs in
    let here : drop i fs ≡ f ∷ left = rest_of fs i f c.loop-formal-test.true c.formal-item.is in
    let next = c.is_integer_import_formal-integer.ensures in
    record {
      same = noted_more (noted c.args.found.now (import_integers_behind file false fs)) found c.note_integer.new.found
          (integer_violations file f.name.token (is_integer_import_formal f before)) (import_integers_behind file (is_integer_import_formal f before) left)
          (c.note_integer.ensures ∙ ap (λ b. noted found (integer_violations file f.name.token b)) next)
          (c.loop-formal.invariant.same ∙ ap (λ l. noted found (import_integers_behind file before l)) here)
          ∙ ap (λ b. noted c.note_integer.new.found (import_integers_behind file b left)) (sym next);
    }

pub returns : goal.returns
returns c =
    let none : drop c.loop-formal.formal-index c.args.formals.now ≡ [] = drop_all c.loop-formal.formal-index c.args.formals.now c.loop-formal-test.false in
    sym (c.loop-formal.invariant.same ∙ ap (λ l. noted c.loop-formal.found (import_integers_behind c.args.file c.loop-formal.integer l)) none)

use Rattle.std.proofs.Common.{◌≡◌, ◌+◌, [], sym, ap, ◌∙◌, drop, arith}
use Rattle.std.proofs.lemmas.List.{drop_all}
use Rattle.dpi_table.specs.Firsts.{with_file_values}
use Rattle.dpi_table.proofs.Cells.{rest_read}
use Rattle.dpi_table.proofs.Filling.{with_nothing, item_next}
use Rattle.c_lookup.specs.Facts.{name_told, type_told, names_told, types_told, names_of, types_of}
use Rattle.c_lookup.proofs.facts.add_facts.Goals as goal

pub loop-fact-preserved : goal.loop-fact-preserved
loop-fact-preserved c =
    let fs = c.args.facts.now in
    let file = c.args.file in
    let i = c.loop-fact.fact-index in
    let old = c.loop-fact.told in
    let new = c.add_fact.new.told in
    let first = c.args.told.now in
    record {
      names = item_next name_told (with_file_values (names_of first) file (names_told fs)) (names_of old) (names_of new) file (drop i fs) (drop (i + 1) fs) _ (rest_read fs i _ c.loop-fact-test.true) c.in_ok-add_fact.ensures.names c.loop-fact.invariant.names;
      types = item_next type_told (with_file_values (types_of first) file (types_told fs)) (types_of old) (types_of new) file (drop i fs) (drop (i + 1) fs) _ (rest_read fs i _ c.loop-fact-test.true) c.in_ok-add_fact.ensures.types c.loop-fact.invariant.types;
    }

pub returns-clause-names : goal.returns-clause-names
returns-clause-names c =
    let told = names_of c.loop-fact.told in
    let left : drop c.loop-fact.fact-index c.args.facts.now ≡ [] = drop_all c.loop-fact.fact-index c.args.facts.now (omega arith) in
    sym (with_nothing told c.args.file) ∙ ap (λ fs. with_file_values told c.args.file (names_told fs)) (sym left) ∙ c.loop-fact.invariant.names

pub returns-clause-types : goal.returns-clause-types
returns-clause-types c =
    let told = types_of c.loop-fact.told in
    let left : drop c.loop-fact.fact-index c.args.facts.now ≡ [] = drop_all c.loop-fact.fact-index c.args.facts.now (omega arith) in
    sym (with_nothing told c.args.file) ∙ ap (λ fs. with_file_values told c.args.file (types_told fs)) (sym left) ∙ c.loop-fact.invariant.types

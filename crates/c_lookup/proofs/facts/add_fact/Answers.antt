use Rattle.std.proofs.Common.{sym, ap, ◌∙◌}
use Rattle.std.proofs.lemmas.Result.{on_ok_weaker}
use Rattle.dpi_table.specs.Firsts.{with_file_values}
use Rattle.dpi_table.proofs.Filling.{put_one, with_nothing, always}
use Rattle.c_lookup.specs.Facts.{name_told, type_told, names_of, types_of}
use Rattle.c_lookup.proofs.facts.add_fact.Goals as goal

pub returns-in-Name-clause-names : goal.returns-in-Name-clause-names
returns-in-Name-clause-names c =
    let names = names_of c.args.told.now in
    on_ok_weaker c.put.result (λ e. e ∙ put_one names c.args.file c.in-Name.token c.in-Name.meant ∙ ap (λ s. with_file_values names c.args.file (name_told s)) (sym c.in-Name.is)) c.put.ensures.ok

pub returns-in-Name-clause-types : goal.returns-in-Name-clause-types
returns-in-Name-clause-types c =
    let types = types_of c.args.told.now in
    always c.put.result (sym (with_nothing types c.args.file) ∙ ap (λ s. with_file_values types c.args.file (type_told s)) (sym c.in-Name.is))

pub returns-in-Type-clause-names : goal.returns-in-Type-clause-names
returns-in-Type-clause-names c =
    let names = names_of c.args.told.now in
    always c.put-in-Type.result (sym (with_nothing names c.args.file) ∙ ap (λ s. with_file_values names c.args.file (name_told s)) (sym c.in-Type.is))

pub returns-in-Type-clause-types : goal.returns-in-Type-clause-types
returns-in-Type-clause-types c =
    let types = types_of c.args.told.now in
    on_ok_weaker c.put-in-Type.result (λ e. e ∙ put_one types c.args.file c.in-Type.token c.in-Type.kind ∙ ap (λ s. with_file_values types c.args.file (type_told s)) (sym c.in-Type.is)) c.put-in-Type.ensures.ok

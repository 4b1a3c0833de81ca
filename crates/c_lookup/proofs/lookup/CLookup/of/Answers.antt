use Rattle.std.proofs.Common.{ap, ◌∙◌, map}
use Rattle.std.specs.Vec.{vec_items}
use Rattle.dpi_table.specs.Files.{in_file}
use Rattle.c_lookup.specs.Facts.{names_in}
use Rattle.c_lookup.specs.Meanings.{all_meanings, function_numbers}
use Rattle.c_lookup.proofs.lookup.CLookup.of.Goals as goal

pub returns-clause-meanings : goal.returns-clause-meanings
returns-clause-meanings c =
    let f = in_file c.in_ok-functions_at.field-0 in
    let o = in_file c.in_ok-objects_at.field-0 in
    let names = names_in (map vec_items c.args.facts.now) in
    ap (all_meanings (record { functions = f; objects = o })) c.in_ok-told_of.ensures.names
    ∙ ap (λ fs. all_meanings (record { functions = fs; objects = o }) names) c.in_ok-functions_at.ensures
    ∙ ap (λ os. all_meanings (record { functions = function_numbers c.args.files.now c.args.functions.now; objects = os }) names) c.in_ok-objects_at.ensures

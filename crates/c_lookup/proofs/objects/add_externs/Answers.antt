use Rattle.std.proofs.Common.{◌≡◌, ◌+◌, [], sym, ap, ◌∙◌, drop, map, arith}
use Rattle.std.proofs.lemmas.List.{drop_all}
use Rattle.dpi_table.specs.Files.{in_file}
use Rattle.dpi_table.specs.Firsts.{first_with, or_values}
use Rattle.dpi_table.proofs.Cells.{rest_of}
use Rattle.dpi_table.proofs.Filling.{or_none-values, first_next}
use Rattle.c_functions.specs.Objects.{told}
use Rattle.c_lookup.specs.Names.{named}
use Rattle.c_lookup.specs.Objects.{extern_at}
use Rattle.c_lookup.proofs.objects.add_externs.Goals as goal

pub loop-object-preserved : goal.loop-object-preserved
loop-object-preserved c =
    let says = extern_at (named c.args.names.now) in
    let os = c.args.objects.now in
    let i = c.loop-object.object-index in
    let x = c.object-item.result in
    first_next says (or_values (in_file c.args.numbers.now) (first_with says (map told os))) (in_file c.loop-object.numbers) (in_file c.add_extern.new.numbers) (map told (drop i os)) (map told (drop (i + 1) os)) (told x)
    (ap (map told) (rest_of os i x c.loop-object-test.true c.object-item.is)) c.in_ok-add_extern.ensures c.loop-object.invariant

pub returns : goal.returns
returns c =
    let of = first_with (extern_at (named c.args.names.now)) in
    let v = in_file c.loop-object.numbers in
    let left : drop c.loop-object.object-index c.args.objects.now ≡ [] = drop_all c.loop-object.object-index c.args.objects.now (omega arith) in
    sym (or_none-values v) ∙ ap (λ os. or_values v (of (map told os))) (sym left) ∙ c.loop-object.invariant

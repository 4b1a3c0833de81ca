use Rattle.std.proofs.Common.{◌≡◌, ◌+◌, [], sym, ap, ◌∙◌, drop, map, arith}
use Rattle.std.proofs.lemmas.List.{drop_all}
use Rattle.dpi_table.specs.Files.{in_file}
use Rattle.dpi_table.proofs.Cells.{rest_of}
use Rattle.c_functions.specs.Objects.{told}
use Rattle.c_lookup.specs.Names.{named, or_names}
use Rattle.c_lookup.specs.Objects.{object_named, objects_named}
use Rattle.c_lookup.proofs.ByName.{or_names-none, names_next}
use Rattle.c_lookup.proofs.objects.defined_numbers.Goals as goal

pub loop-object-init : goal.loop-object-init
loop-object-init c = ap (λ v. or_names v (objects_named (in_file c.args.positions.now) (map told c.args.objects.now))) c.new-names.ensures

pub loop-object-preserved : goal.loop-object-preserved
loop-object-preserved c =
    let of = objects_named (in_file c.args.positions.now) in
    let os = c.args.objects.now in
    let i = c.loop-object.object-index in
    let x = c.object-item.result in
    names_next (object_named (in_file c.args.positions.now)) (of (map told os)) (named c.loop-object.names) (named c.add_defined.new.names) (map told (drop i os)) (map told (drop (i + 1) os)) (told x)
    (ap (map told) (rest_of os i x c.loop-object-test.true c.object-item.is)) c.in_ok-add_defined.ensures c.loop-object.invariant

pub returns : goal.returns
returns c =
    let of = objects_named (in_file c.args.positions.now) in
    let v = named c.loop-object.names in
    let left : drop c.loop-object.object-index c.args.objects.now ≡ [] = drop_all c.loop-object.object-index c.args.objects.now (omega arith) in
    sym (or_names-none v) ∙ ap (λ os. or_names v (of (map told os))) (sym left) ∙ c.loop-object.invariant

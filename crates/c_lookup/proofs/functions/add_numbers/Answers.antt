use Rattle.std.proofs.Common.{◌≡◌, ◌+◌, [], sym, ap, ◌∙◌, drop, map, arith}
use Rattle.std.proofs.lemmas.List.{drop_all}
use Rattle.dpi_table.specs.Files.{in_file}
use Rattle.dpi_table.proofs.Cells.{rest_of}
use Rattle.c_functions.specs.Declarations.{told}
use Rattle.c_lookup.specs.Names.{named, or_names}
use Rattle.c_lookup.specs.Functions.{entry_named, entries_named}
use Rattle.c_lookup.proofs.ByName.{or_names-none, names_next}
use Rattle.c_lookup.proofs.functions.add_numbers.Goals as goal

pub loop-declaration-preserved : goal.loop-declaration-preserved
loop-declaration-preserved c =
    let says = entry_named (in_file c.args.positions.now) c.args.is_static in
    let of = entries_named (in_file c.args.positions.now) c.args.is_static in
    let ds = c.args.declarations.now in
    let i = c.loop-declaration.declaration-index in
    let x = c.declaration-item.result in
    names_next says (or_names (named c.args.names.now) (of (map told ds))) (named c.loop-declaration.names) (named c.add_number.new.names) (map told (drop i ds)) (map told (drop (i + 1) ds)) (told x)
    (ap (map told) (rest_of ds i x c.loop-declaration-test.true c.declaration-item.is)) c.in_ok-add_number.ensures c.loop-declaration.invariant

pub returns : goal.returns
returns c =
    let of = entries_named (in_file c.args.positions.now) c.args.is_static in
    let v = named c.loop-declaration.names in
    let left : drop c.loop-declaration.declaration-index c.args.declarations.now ≡ [] = drop_all c.loop-declaration.declaration-index c.args.declarations.now (omega arith) in
    sym (or_names-none v) ∙ ap (λ ds. or_names v (of (map told ds))) (sym left) ∙ c.loop-declaration.invariant

use Rattle.std.proofs.Common.{◌≡◌, ◌+◌, [], sym, ap, ◌∙◌, drop, map, arith}
use Rattle.std.proofs.lemmas.List.{drop_all}
use Rattle.dpi_table.specs.Files.{in_file}
use Rattle.dpi_table.specs.Firsts.{first_with, only_at, or_values}
use Rattle.dpi_table.proofs.Cells.{rest_of}
use Rattle.dpi_table.proofs.Filling.{or_none-values, first_next}
use Rattle.c_functions.specs.Declarations.{told}
use Rattle.c_lookup.specs.Names.{named}
use Rattle.c_lookup.specs.Functions.{declared_at}
use Rattle.c_lookup.proofs.functions.add_declared.Goals as goal

pub loop-declaration-preserved : goal.loop-declaration-preserved
loop-declaration-preserved c =
    let says = declared_at (named c.args.own.now) (named c.args.shared.now) in
    let ds = c.args.declarations.now in
    let i = c.loop-declaration.declaration-index in
    let x = c.declaration-item.result in
    let v = in_file c.loop-declaration.numbers in
    first_next says (or_values (in_file c.args.numbers.now) (first_with says (map told ds))) v (in_file c.put_number.new.numbers) (map told (drop i ds)) (map told (drop (i + 1) ds)) (told x)
    (ap (map told) (rest_of ds i x c.loop-declaration-test.true c.declaration-item.is))
    (c.in_ok-put_number.ensures ∙ ap (λ n. or_values v (only_at (told x).file (told x).token n)) c.number_of-number.ensures)
    c.loop-declaration.invariant

pub returns : goal.returns
returns c =
    let of = first_with (declared_at (named c.args.own.now) (named c.args.shared.now)) in
    let v = in_file c.loop-declaration.numbers in
    let left : drop c.loop-declaration.declaration-index c.args.declarations.now ≡ [] = drop_all c.loop-declaration.declaration-index c.args.declarations.now (omega arith) in
    sym (or_none-values v) ∙ ap (λ ds. or_values v (of (map told ds))) (sym left) ∙ c.loop-declaration.invariant

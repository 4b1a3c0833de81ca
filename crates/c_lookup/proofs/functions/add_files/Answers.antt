use Rattle.std.proofs.Common.{◌≡◌, ◌+◌, [], sym, ap, ◌∙◌, drop, map, arith}
use Rattle.std.proofs.lemmas.List.{drop_all}
use Rattle.dpi_table.specs.Files.{in_file}
use Rattle.dpi_table.specs.Firsts.{first_with, or_values}
use Rattle.dpi_table.proofs.Cells.{rest_of}
use Rattle.dpi_table.proofs.Filling.{or_none-values, first_next}
use Rattle.c_functions.specs.Declarations.{told}
use Rattle.c_lookup.specs.Names.{Names, named}
use Rattle.c_lookup.specs.Functions.{declared_at, file_at}
use Rattle.c_lookup.proofs.functions.add_files.Goals as goal

pub loop-declarations-preserved : goal.loop-declarations-preserved
loop-declarations-preserved c =
    let shared = named c.args.shared.now in
    let says = file_at (in_file c.args.positions.now) shared in
    let files = c.args.table.now in
    let i = c.loop-declarations.declarations-index in
    let x = c.declarations-item.result in
    let v = in_file c.loop-declarations.numbers in
    let ds = map told c.as_slice-declarations.result.now in
    first_next says (or_values (in_file c.args.numbers.now) (first_with says (map (map told) files))) v (in_file c.add_declared.new.numbers) (map (map told) (drop i files)) (map (map told) (drop (i + 1) files)) (map told x)
    (ap (map (map told)) (rest_of files i x c.loop-declarations-test.true c.declarations-item.is))
    (c.in_ok-add_declared.ensures
    ∙ ap (λ (own : Names). or_values v (first_with (declared_at own shared) ds)) c.in_ok-own.ensures
    ∙ ap (λ es. or_values v (says (map told es))) c.as_slice-declarations.ensures)
    c.loop-declarations.invariant

pub returns : goal.returns
returns c =
    let of = first_with (file_at (in_file c.args.positions.now) (named c.args.shared.now)) in
    let v = in_file c.loop-declarations.numbers in
    let left : drop c.loop-declarations.declarations-index c.args.table.now ≡ [] = drop_all c.loop-declarations.declarations-index c.args.table.now (omega arith) in
    sym (or_none-values v) ∙ ap (λ files. or_values v (of (map (map told) files))) (sym left) ∙ c.loop-declarations.invariant

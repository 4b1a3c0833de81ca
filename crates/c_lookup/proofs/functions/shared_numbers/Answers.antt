use Rattle.std.proofs.Common.{◌≡◌, ◌+◌, [], false, sym, ap, ◌∙◌, drop, map, arith}
use Rattle.std.proofs.lemmas.List.{drop_all}
use Rattle.dpi_table.specs.Files.{in_file}
use Rattle.dpi_table.proofs.Cells.{rest_of}
use Rattle.c_functions.specs.Declarations.{told}
use Rattle.c_lookup.specs.Names.{named, or_names}
use Rattle.c_lookup.specs.Functions.{entries_named, shared_named}
use Rattle.c_lookup.proofs.ByName.{or_names-none, names_next}
use Rattle.c_lookup.proofs.functions.shared_numbers.Goals as goal

pub loop-declarations-init : goal.loop-declarations-init
loop-declarations-init c = ap (λ v. or_names v (shared_named (in_file c.args.positions.now) (map (map told) c.args.table.now))) c.new-names.ensures

pub loop-declarations-preserved : goal.loop-declarations-preserved
loop-declarations-preserved c =
    let says = entries_named (in_file c.args.positions.now) false in
    let of = shared_named (in_file c.args.positions.now) in
    let files = c.args.table.now in
    let i = c.loop-declarations.declarations-index in
    let x = c.declarations-item.result in
    let v = named c.loop-declarations.names in
    names_next says (of (map (map told) files)) v (named c.add_numbers.new.names) (map (map told) (drop i files)) (map (map told) (drop (i + 1) files)) (map told x)
    (ap (map (map told)) (rest_of files i x c.loop-declarations-test.true c.declarations-item.is))
    (c.in_ok-add_numbers.ensures ∙ ap (λ ds. or_names v (says (map told ds))) c.as_slice.ensures)
    c.loop-declarations.invariant

pub returns : goal.returns
returns c =
    let of = shared_named (in_file c.args.positions.now) in
    let v = named c.loop-declarations.names in
    let left : drop c.loop-declarations.declarations-index c.args.table.now ≡ [] = drop_all c.loop-declarations.declarations-index c.args.table.now (omega arith) in
    sym (or_names-none v) ∙ ap (λ files. or_names v (of (map (map told) files))) (sym left) ∙ c.loop-declarations.invariant

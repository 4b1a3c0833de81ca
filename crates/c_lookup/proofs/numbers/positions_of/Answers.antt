use Rattle.std.proofs.Common.{◌≡◌, ◌+◌, [], sym, ap, ◌∙◌, drop, arith}
use Rattle.std.proofs.lemmas.List.{drop_all}
use Rattle.dpi_table.specs.Files.{in_file, with_file_value}
use Rattle.dpi_table.specs.Firsts.{number_from, or_values}
use Rattle.dpi_table.proofs.Cells.{rest_of}
use Rattle.dpi_table.proofs.Filling.{or_none-values, number_next}
use Rattle.c_lookup.proofs.numbers.positions_of.Goals as goal

pub loop-position-init : goal.loop-position-init
loop-position-init g c =
    ap (λ v. or_values v (number_from g.P.HasPlace.file_of g.P.HasPlace.token_of 0 c.args.list.now)) c.new-numbers.ensures

pub loop-position-preserved : goal.loop-position-preserved
loop-position-preserved g c =
    let file = g.P.HasPlace.file_of in
    let token = g.P.HasPlace.token_of in
    let list = c.args.list.now in
    let i = c.loop-position.position in
    let x = c.index-list-position.result in
    let v = in_file c.loop-position.numbers in
    number_next file token (number_from file token 0 list) v (in_file c.put.new.self) (drop i list) (drop (i + 1) list) i x
    (rest_of list i x c.loop-position-test.true c.index-list-position.is)
    (c.in_ok-put.ensures.ok
    ∙ ap (with_file_value v c.file.result c.token.result) c.in_ok-number.ensures
    ∙ ap (λ f. with_file_value v f c.token.result i) c.file.ensures
    ∙ ap (λ t. with_file_value v (file x) t i) c.token.ensures)
    c.loop-position.invariant

pub returns : goal.returns
returns g c =
    let from = number_from g.P.HasPlace.file_of g.P.HasPlace.token_of in
    let v = in_file c.loop-position.numbers in
    let left : drop c.loop-position.position c.args.list.now ≡ [] = drop_all c.loop-position.position c.args.list.now (omega arith) in
    sym (or_none-values v) ∙ ap (λ xs. or_values v (from c.loop-position.position xs)) (sym left) ∙ c.loop-position.invariant

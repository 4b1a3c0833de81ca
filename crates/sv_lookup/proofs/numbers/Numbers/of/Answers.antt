use Rattle.std.proofs.Common.{◌≡◌, ◌+◌, [], sym, ap, ◌∙◌, drop, map, arith}
use Rattle.std.proofs.lemmas.List.{drop_all}
use Rattle.dpi_table.specs.Files.{in_file, with_file_value}
use Rattle.dpi_table.specs.Firsts.{or_values}
use Rattle.dpi_table.proofs.Cells.{rest_of}
use Rattle.dpi_table.proofs.Filling.{or_none-values, number_next}
use Rattle.sv_design.specs.declared.places.Place.{Place}
use Rattle.sv_lookup.specs.Numbers.{places_from, number_in}
use Rattle.sv_lookup.proofs.numbers.Numbers.of.Goals as goal

pub loop-position-init : goal.loop-position-init
loop-position-init g c =
    let places = map g.P.HasPlace.place_of c.args.list.now in
    ap (λ v. or_values v (number_in places)) c.new-tables.ensures

pub loop-position-preserved : goal.loop-position-preserved
loop-position-preserved g c =
    let place = g.P.HasPlace.place_of in
    let list = c.args.list.now in
    let i = c.loop-position.position in
    let x = c.index-list-position.result in
    let at = c.place-place.result in
    let v = in_file c.loop-position.tables in
    number_next (λ (p : Place). p.file) (λ (p : Place). p.token) (number_in (map place list)) v (in_file c.put.new.self) (map place (drop i list)) (map place (drop (i + 1) list)) i (place x)
    (ap (map place) (rest_of list i x c.loop-position-test.true c.index-list-position.is))
    (c.in_ok-put.ensures.ok ∙ ap (with_file_value v at.file at.token) c.in_ok-number.ensures ∙ ap (λ (p : Place). with_file_value v p.file p.token i) c.place-place.ensures)
    c.loop-position.invariant

pub returns : goal.returns
returns g c =
    let place = g.P.HasPlace.place_of in
    let v = in_file c.loop-position.tables in
    let left : drop c.loop-position.position c.args.list.now ≡ [] = drop_all c.loop-position.position c.args.list.now (omega arith) in
    sym (or_none-values v) ∙ ap (λ xs. or_values v (places_from c.loop-position.position (map place xs))) (sym left) ∙ c.loop-position.invariant

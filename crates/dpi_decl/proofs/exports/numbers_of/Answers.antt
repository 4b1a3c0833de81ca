use Rattle.std.proofs.Common.{◌+◌, sym, ap, ◌∙◌, drop}
use Rattle.std.proofs.lemmas.List.{drop_all}
use Rattle.dpi_table.specs.Files.{in_file}
use Rattle.dpi_table.specs.Firsts.{or_values}
use Rattle.dpi_table.proofs.Cells.{rest_of}
use Rattle.dpi_table.proofs.Filling.{number_next, or_none-values}
use Rattle.sv_design.specs.declared.exports.Export.{Export}
use Rattle.dpi_decl.specs.Exports.{numbers_from, numbers_in}
use Rattle.dpi_decl.proofs.exports.numbers_of.Goals as goal

pub loop-export-init : goal.loop-export-init
loop-export-init c = ap (λ v. or_values v (numbers_in c.args.exports.now)) c.new-numbers.ensures

pub loop-export-preserved : goal.loop-export-preserved
loop-export-preserved c =
    let ds = c.args.exports.now in
    let i = c.loop-export.export-index in
    let number = c.loop-export.number in
    let d = c.export-item.result in
    let more = number_next (λ (x : Export). x.file) (λ (x : Export). x.token) (numbers_in ds) (in_file c.loop-export.numbers) (in_file c.put.new.self) (drop i ds) (drop (i + 1) ds) number d (rest_of ds i d c.loop-export-test.true c.export-item.is) c.in_ok-put.ensures.ok c.loop-export.invariant in
    ap (λ n. or_values (in_file c.put.new.self) (numbers_from n (drop (i + 1) ds))) c.in_ok-number.ensures ∙ more

pub returns : goal.returns
returns c =
    let ds = c.args.exports.now in
    let v = in_file c.loop-export.numbers in
    sym (or_none-values v)
    ∙ ap (λ ys. or_values v (numbers_from c.loop-export.number ys)) (sym (drop_all c.loop-export.export-index ds c.loop-export-test.false))
    ∙ c.loop-export.invariant

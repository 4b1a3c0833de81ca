use Rattle.std.proofs.Common.{◌+◌, sym, ap, ◌∙◌, drop}
use Rattle.std.proofs.lemmas.List.{drop_all}
use Rattle.dpi_table.specs.Files.{in_file}
use Rattle.dpi_table.specs.Firsts.{or_values}
use Rattle.dpi_table.proofs.Cells.{rest_of}
use Rattle.dpi_table.proofs.Filling.{number_next, or_none-values}
use Rattle.c_program.specs.declared.functions.CFunction.{CFunction}
use Rattle.dpi_decl.specs.Functions.{numbers_from, numbers_in}
use Rattle.dpi_decl.proofs.functions.numbers_of.Goals as goal

pub loop-function-init : goal.loop-function-init
loop-function-init c = ap (λ v. or_values v (numbers_in c.args.functions.now)) c.new-numbers.ensures

pub loop-function-preserved : goal.loop-function-preserved
loop-function-preserved c =
    let ds = c.args.functions.now in
    let i = c.loop-function.function-index in
    let number = c.loop-function.number in
    let d = c.function-item.result in
    let more = number_next (λ (x : CFunction). x.file) (λ (x : CFunction). x.token) (numbers_in ds) (in_file c.loop-function.numbers) (in_file c.put.new.self) (drop i ds) (drop (i + 1) ds) number d (rest_of ds i d c.loop-function-test.true c.function-item.is) c.in_ok-put.ensures.ok c.loop-function.invariant in
    ap (λ n. or_values (in_file c.put.new.self) (numbers_from n (drop (i + 1) ds))) c.in_ok-number.ensures ∙ more

pub returns : goal.returns
returns c =
    let ds = c.args.functions.now in
    let v = in_file c.loop-function.numbers in
    sym (or_none-values v)
    ∙ ap (λ ys. or_values v (numbers_from c.loop-function.number ys)) (sym (drop_all c.loop-function.function-index ds c.loop-function-test.false))
    ∙ c.loop-function.invariant

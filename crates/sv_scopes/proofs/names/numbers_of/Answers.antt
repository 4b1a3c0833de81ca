use Rattle.std.proofs.Common.{◌+◌, sym, ap, ◌∙◌, drop}
use Rattle.std.proofs.lemmas.List.{drop_all}
use Rattle.dpi_table.specs.Files.{in_file}
use Rattle.dpi_table.specs.Firsts.{or_values}
use Rattle.dpi_table.proofs.Cells.{rest_of}
use Rattle.dpi_table.proofs.Filling.{number_next, or_none-values}
use Rattle.sv_design.specs.declared.declarations.Declaration.{Declaration}
use Rattle.sv_scopes.specs.Names.{numbers_from, numbers_in}
use Rattle.sv_scopes.proofs.names.numbers_of.Goals as goal

pub loop-declaration-init : goal.loop-declaration-init
loop-declaration-init c = ap (λ v. or_values v (numbers_in c.args.declarations.now)) c.new-numbers.ensures

pub loop-declaration-preserved : goal.loop-declaration-preserved
loop-declaration-preserved c =
    let ds = c.args.declarations.now in
    let i = c.loop-declaration.declaration-index in
    let number = c.loop-declaration.number in
    let d = c.declaration-item.result in
    let more = number_next (λ (x : Declaration). x.file) (λ (x : Declaration). x.token) (numbers_in ds) (in_file c.loop-declaration.numbers) (in_file c.put.new.self) (drop i ds) (drop (i + 1) ds) number d (rest_of ds i d c.loop-declaration-test.true c.declaration-item.is) c.in_ok-put.ensures.ok c.loop-declaration.invariant in
    ap (λ n. or_values (in_file c.put.new.self) (numbers_from n (drop (i + 1) ds))) c.in_ok-number.ensures ∙ more

pub returns : goal.returns
returns c =
    let ds = c.args.declarations.now in
    let v = in_file c.loop-declaration.numbers in
    sym (or_none-values v)
    ∙ ap (λ ys. or_values v (numbers_from c.loop-declaration.number ys)) (sym (drop_all c.loop-declaration.declaration-index ds c.loop-declaration-test.false))
    ∙ c.loop-declaration.invariant

use Rattle.std.proofs.Common.{◌+◌, sym, ap, ◌∙◌, drop}
use Rattle.std.specs.Option.{option_or}
use Rattle.dpi_table.specs.Tables.{only, at}
use Rattle.dpi_table.specs.Firsts.{first_value}
use Rattle.dpi_table.proofs.Cells.{option_or-assoc, rest_of}
use Rattle.dpi_table.proofs.table.Table.of.Goals as goal

pub loop-token-init : goal.loop-token-init
loop-token-init g c = λ token. ap (λ v. option_or (v token) (first_value c.args.pairs.now token)) c.new-table.ensures

pub loop-token-preserved : goal.loop-token-preserved
loop-token-preserved g c =
    let ps = c.args.pairs.now in
    let i = c.loop-token.token-index in
    let p = c.loop-token-item.result in
    let had = at c.loop-token.table in
    λ token.
    ap (λ v. option_or (v token) (first_value (drop (i + 1) ps) token)) c.in_ok-put.ensures.ok
    ∙ option_or-assoc (had token) (only p.0 p.1 token) (first_value (drop (i + 1) ps) token)
    ∙ ap (λ qs. option_or (had token) (first_value qs token)) (sym (rest_of ps i p c.loop-token-test.true c.loop-token-item.is))
    ∙ c.loop-token.invariant token

use Rattle.std.proofs.Common.{ap, sym, ◌∙◌, Some}
use Rattle.std.specs.Option.{option_or}
use Rattle.dpi_links.specs.Firsts.{first_given, by_name}
use Rattle.dpi_links.specs.Exports.{name_of, named_told}
use Rattle.dpi_links.specs.Exporters.{exports_of}
use Rattle.dpi_links.proofs.Gathered.{gathered_next, gathered_last, first_map}
use Rattle.dpi_links.proofs.exporters.exporters_of.Goals as goal

pub loop-export-init : goal.loop-export-init
loop-export-init c = record {
  same = λ q. ap (λ o. option_or o (first_given (λ x. by_name name_of Some (named_told x)) c.args.exports.now q)) (sym (c.new-exporters.ensures q));
}

pub loop-export-preserved : goal.loop-export-preserved
loop-export-preserved c =
    gathered_next (λ x. by_name name_of Some (named_told x)) c.args.exports.now c.loop-export.export-index c.export-item.result
    c.loop-export-test.true c.export-item.is (exports_of c.add.new.self) c.in_ok-add.ensures c.loop-export.invariant

pub returns : goal.returns
returns c = λ q.
    gathered_last (λ x. by_name name_of Some (named_told x)) c.args.exports.now c.loop-export.export-index c.loop-export-test.false c.loop-export.invariant q
    ∙ first_map named_told (by_name name_of Some) c.args.exports.now q

use Rattle.std.proofs.Common.{◌≡◌, rules}
use Rattle.dpi_agree.specs.Firsts.{told}
use Rattle.dpi_agree.specs.Exports.{name_of, second_violations}
use Rattle.dpi_agree.proofs.Walks.{walk_first, walk_next, walk_last}
use Rattle.dpi_agree.proofs.exports.note_second_exports.Goals as goal

pub loop-export-init : goal.loop-export-init
loop-export-init c = walk_first name_of second_violations c.args.found.now c.args.exports.now (told c.new-firsts.result) (λ q. search rules)

pub loop-export-preserved : goal.loop-export-preserved
loop-export-preserved c =
    let earlier : c.copied.result ≡ told c.loop-export.firsts (name_of c.export-item.result) = search rules in
    walk_next name_of second_violations c.args.found.now c.args.exports.now c.loop-export.export-index c.export-item.result c.copied.result
    (told c.loop-export.firsts) (told c.add.new.firsts) c.loop-export.found c.note_second.new.found
    c.loop-export-test.true c.export-item.is earlier c.in_ok-add.ensures c.note_second.ensures c.loop-export.invariant

pub returns : goal.returns
returns c =
    walk_last name_of second_violations c.args.found.now c.args.exports.now c.loop-export.export-index (told c.loop-export.firsts) c.loop-export.found
    c.loop-export-test.false c.loop-export.invariant

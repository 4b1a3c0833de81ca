use Rattle.std.proofs.Common.{◌≡◌, rules}
use Rattle.dpi_agree.specs.Firsts.{told}
use Rattle.dpi_agree.specs.Imports.{name_of, unequal_violations}
use Rattle.dpi_agree.proofs.Walks.{walk_first, walk_next, walk_last}
use Rattle.dpi_agree.proofs.imports.note_unequal_imports.Goals as goal

pub loop-import-init : goal.loop-import-init
loop-import-init c = walk_first name_of unequal_violations c.args.found.now c.args.imports.now (told c.new-firsts.result) (λ q. search rules)

pub loop-import-preserved : goal.loop-import-preserved
loop-import-preserved c =
    let earlier : c.copied.result ≡ told c.loop-import.firsts (name_of c.import-item.result) = search rules in
    walk_next name_of unequal_violations c.args.found.now c.args.imports.now c.loop-import.import-index c.import-item.result c.copied.result
    (told c.loop-import.firsts) (told c.add.new.firsts) c.loop-import.found c.note_unequal.new.found
    c.loop-import-test.true c.import-item.is earlier c.in_ok-add.ensures c.note_unequal.ensures c.loop-import.invariant

pub returns : goal.returns
returns c =
    walk_last name_of unequal_violations c.args.found.now c.args.imports.now c.loop-import.import-index (told c.loop-import.firsts) c.loop-import.found
    c.loop-import-test.false c.loop-import.invariant

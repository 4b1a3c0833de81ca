use Rattle.std.proofs.Common.{◌≡◌, map, ap, ◌∙◌, subst, OnOk}
use Rattle.dpi_rules.specs.Least.{noted}
use Rattle.dpi_agree.specs.Firsts.{each_broken}
use Rattle.dpi_agree.specs.Exports as agree
use Rattle.dpi_links.specs.Exports.{told, name_of, unequal_violations, unequal_exports}
use Rattle.dpi_links.proofs.Seen.{seen_unequal}
use Rattle.dpi_links.proofs.exported.note_unequal.Goals as goal

pub returns : goal.returns
returns c =
    let same : agree.exports_violations c.as_slice.result.now ≡ unequal_exports (map (map told) c.args.table.now) =
    ap agree.exports_violations c.as_slice.ensures
    ∙ seen_unequal c.in_ok-list.list
    ∙ ap (each_broken name_of unequal_violations) c.in_ok-list.ensures in
    subst (λ vs. OnOk c.note_unequal_exports.result (c.note_unequal_exports.new.found ≡ noted c.args.found.now vs)) same c.note_unequal_exports.ensures

use Rattle.std.proofs.Common.{◌≡◌, map, ap, ◌∙◌, subst, OnOk}
use Rattle.dpi_rules.specs.Least.{noted}
use Rattle.dpi_agree.specs.Firsts.{each_broken}
use Rattle.dpi_agree.specs.Exports as agree
use Rattle.dpi_links.specs.Exports.{told, name_of, second_violations, second_exports}
use Rattle.dpi_links.proofs.Seen.{seen_seconds}
use Rattle.dpi_links.proofs.exported.note_seconds.Goals as goal

pub returns : goal.returns
returns c =
    let same : agree.seconds_violations c.as_slice.result.now ≡ second_exports (map told c.args.exports.now) =
    ap agree.seconds_violations c.as_slice.ensures
    ∙ seen_seconds c.in_ok-list.list
    ∙ ap (each_broken name_of second_violations) c.in_ok-list.ensures in
    subst (λ vs. OnOk c.note_second_exports.result (c.note_second_exports.new.found ≡ noted c.args.found.now vs)) same c.note_second_exports.ensures

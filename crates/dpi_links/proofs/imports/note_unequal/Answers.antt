use Rattle.std.proofs.Common.{◌≡◌, map, ap, ◌∙◌, subst, OnOk}
use Rattle.dpi_rules.specs.Least.{noted}
use Rattle.dpi_agree.specs.Firsts.{each_broken}
use Rattle.dpi_agree.specs.Imports as agree
use Rattle.dpi_links.specs.Imports.{told, name_of, unequal_violations, unequal_imports}
use Rattle.dpi_links.proofs.Seen.{seen_imports}
use Rattle.dpi_links.proofs.imports.note_unequal.Goals as goal

pub returns : goal.returns
returns c =
    let same : agree.imports_violations c.as_slice.result.now ≡ unequal_imports (map told c.args.imports.now) =
    ap agree.imports_violations c.as_slice.ensures
    ∙ seen_imports c.in_ok-list.list
    ∙ ap (each_broken name_of unequal_violations) c.in_ok-list.ensures in
    subst (λ vs. OnOk c.note_unequal_imports.result (c.note_unequal_imports.new.found ≡ noted c.args.found.now vs)) same c.note_unequal_imports.ensures

use Rattle.std.proofs.Common.{None, ap, ◌∙◌}
use Rattle.dpi_rules.specs.Least.{noted}
use Rattle.dpi_links.specs.Link.{c_violations}
use Rattle.dpi_decl.proofs.linking.found_in_c.Goals as goal

pub returns : goal.returns
returns c =
    c.in_ok-found.ensures
    ∙ ap (λ fs. noted None (c_violations fs c.files-2.result.now)) c.files.ensures.files
    ∙ ap (λ fs. noted None (c_violations c.args.design.now fs)) c.files-2.ensures.files

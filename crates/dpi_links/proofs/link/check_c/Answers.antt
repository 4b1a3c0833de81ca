use Rattle.std.proofs.Common.{◌≡◌, None, map, ap, ◌∙◌}
use Rattle.dpi_rules.specs.Least.{noted}
use Rattle.sv_instances.specs.Modules as sv
use Rattle.dpi_links.specs.Exports.{told, exports_in}
use Rattle.dpi_links.specs.Link.{calls_in}
use Rattle.dpi_links.proofs.link.check_c.Goals as goal

pub returns : goal.returns
returns c =
    let modules : map sv.told c.deref.result.now ≡ sv.modules_in c.args.svs.now = ap (map sv.told) c.deref.ensures.value ∙ c.in_ok-modules.ensures in
    let exports : map (map told) c.as_slice.result.now ≡ exports_in (sv.modules_in c.args.svs.now) =
    ap (map (map told)) c.as_slice.ensures ∙ c.in_ok-exports.ensures ∙ ap exports_in modules in
    c.in_ok-note_c.ensures ∙ ap (λ t. noted None (calls_in t c.args.cs.now)) exports

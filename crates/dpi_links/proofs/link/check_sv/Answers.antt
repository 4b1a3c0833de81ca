use Rattle.std.proofs.Common.{◌≡◌, ℕ, List, None, map, ap, ◌∙◌}
use Rattle.dpi_rules.specs.Least.{noted}
use Rattle.sv_instances.specs.Modules as sv
use Rattle.c_functions.specs.Declarations.{told, known_of}
use Rattle.dpi_links.specs.Functions.{bodies_of, shared_body}
use Rattle.dpi_links.specs.Link.{modules_violations}
use Rattle.dpi_links.proofs.link.check_sv.Goals as goal

pub returns : goal.returns
returns c =
    let cs = c.args.cs.now in
    let table : map (map told) c.as_slice.result.now ≡ known_of cs = ap (map (map told)) c.as_slice.ensures ∙ c.in_ok-table.ensures in
    let each : (q : List ℕ) → bodies_of c.in_ok-bodies.bodies q ≡ shared_body (known_of cs) q =
    λ q. c.in_ok-bodies.ensures q ∙ ap (λ t. shared_body t q) table in
    let bodies : bodies_of c.in_ok-bodies.bodies ≡ shared_body (known_of cs) = λ i q. each q i in
    let modules : map sv.told c.deref.result.now ≡ sv.modules_in c.args.svs.now = ap (map sv.told) c.deref.ensures.value ∙ c.in_ok-modules.ensures in
    c.in_ok-note_modules.ensures
    ∙ ap (λ b. noted None (modules_violations b (map sv.told c.deref.result.now))) bodies
    ∙ ap (λ ms. noted None (modules_violations (shared_body (known_of cs)) ms)) modules

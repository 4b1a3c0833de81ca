use Rattle.std.proofs.Common.{◌≡◌, ℕ, List, map, ap, ◌∙◌, subst, OnOk}
use Rattle.dpi_rules.specs.Least.{noted}
use Rattle.c_functions.specs.Declarations as functions
use Rattle.dpi_links.specs.Functions.{bodies_of, shared_body}
use Rattle.dpi_links.specs.Exports.{told, named_told, all_named, export_of}
use Rattle.dpi_links.specs.Exporters.{exports_of}
use Rattle.dpi_links.specs.Calls.{calls_violations}
use Rattle.dpi_links.specs.Link.{calls_in}
use Rattle.dpi_links.proofs.link.note_c.Goals as goal

pub returns : goal.returns
returns c =
    let cs = c.args.cs.now in
    let known = functions.known_of cs in
    let all = all_named (map (map told) c.args.exports.now) in
    let read = map (map functions.told) in
    let names : map named_told c.as_slice.result.now ≡ all = ap (map named_told) c.as_slice.ensures ∙ c.in_ok-names.ensures in
    let each_export : (q : List ℕ) → exports_of c.in_ok-exporters.exporters q ≡ export_of all q =
    λ q. c.in_ok-exporters.ensures q ∙ ap (λ xs. export_of xs q) names in
    let exports : exports_of c.in_ok-exporters.exporters ≡ export_of all = λ i q. each_export q i in
    let first : read c.as_slice-2.result.now ≡ known = ap read c.as_slice-2.ensures ∙ c.in_ok-table.ensures in
    let again : read c.as_slice-3.result.now ≡ known = ap read c.as_slice-3.ensures ∙ c.in_ok-table.ensures in
    let each_body : (q : List ℕ) → bodies_of c.in_ok-bodies.bodies q ≡ shared_body known q =
    λ q. c.in_ok-bodies.ensures q ∙ ap (λ t. shared_body t q) first in
    let bodies : bodies_of c.in_ok-bodies.bodies ≡ shared_body known = λ i q. each_body q i in
    let same : calls_violations (bodies_of c.in_ok-bodies.bodies) (exports_of c.in_ok-exporters.exporters) (read c.as_slice-3.result.now) cs ≡ calls_in (map (map told) c.args.exports.now) cs =
    ap (λ b. calls_violations b (exports_of c.in_ok-exporters.exporters) (read c.as_slice-3.result.now) cs) bodies
    ∙ ap (λ e. calls_violations (shared_body known) e (read c.as_slice-3.result.now) cs) exports
    ∙ ap (λ t. calls_violations (shared_body known) (export_of all) t cs) again in
    subst (λ vs. OnOk c.note_files.result (c.note_files.new.found ≡ noted c.args.found.now vs)) same c.note_files.ensures

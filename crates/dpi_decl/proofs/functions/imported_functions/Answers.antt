use Rattle.std.proofs.Common.{◌≡◌, map, ap, ◌∙◌, List, ℕ, Option}
use Rattle.c_functions.specs.Declarations.{Known, told, known_of}
use Rattle.dpi_links.specs.Functions.{bodies_of, shared_body}
use Rattle.dpi_decl.specs.Functions.{numbers_in, import_function}
use Rattle.dpi_decl.proofs.functions.imported_functions.Goals as goal

pub returns : goal.returns
returns c =
    let fs = c.args.functions.now in
    let is = c.args.imports.now in
    let named : bodies_of c.in_ok-bodies.bodies ≡ shared_body (map (map told) c.as_slice.result.now) = λ i q. c.in_ok-bodies.ensures q i in
    let known : map (map told) c.as_slice.result.now ≡ known_of c.args.files.now = ap (map (map told)) c.as_slice.ensures ∙ c.in_ok-table.ensures in
    c.in_ok-list.ensures
    ∙ ap (λ n. map (import_function n (bodies_of c.in_ok-bodies.bodies)) is) c.in_ok-numbers.ensures
    ∙ ap (λ b. map (import_function (numbers_in fs) b) is) (named ∙ ap shared_body known)

use Rattle.std.proofs.Common.{◌≡◌, Option, Some, None, List, ◌∙◌, sym, subst}
use Rattle.dpi_rules.specs.declared.violation.Violation.{Violation}
use Rattle.dpi_rules.specs.Least.{IsLeastOf, noted}
use Rattle.dpi_rules.proofs.Firsts.{least_is_least}
use Rattle.dpi_links.specs.Link.{sv_violations, c_violations}
use Rattle.dpi_decl.proofs.linking.judge.Goals as goal

-- what is kept of a list is its least
least_kept : (vs : List Violation) (found kept : Option Violation) → found ≡ noted None vs → found ≡ kept → IsLeastOf vs kept
least_kept vs found kept h e = subst (IsLeastOf vs) (sym h ∙ e) (least_is_least.least_is vs)

pub returns-in-Some-default : goal.returns-in-Some-default
returns-in-Some-default c =
    let svs = sv_violations c.args.design.now c.args.program.now in
    least_kept svs c.in_ok-in_sv.in_sv (Some c.in-Some-default.violation) c.in_ok-in_sv.ensures c.in-Some-default.is-0

pub returns-in-None-Some : goal.returns-in-None-Some
returns-in-None-Some c =
    let svs = sv_violations c.args.design.now c.args.program.now in
    let cs = c_violations c.args.design.now c.args.program.now in
    (least_kept svs c.in_ok-in_sv.in_sv None c.in_ok-in_sv.ensures c.in-None-Some.is-0, least_kept cs c.in_ok-in_c.in_c (Some c.in-None-Some.violation) c.in_ok-in_c.ensures c.in-None-Some.is-1)

pub returns-in-None-None : goal.returns-in-None-None
returns-in-None-None c =
    let svs = sv_violations c.args.design.now c.args.program.now in
    let cs = c_violations c.args.design.now c.args.program.now in
    (least_kept svs c.in_ok-in_sv.in_sv None c.in_ok-in_sv.ensures c.in-None-None.is-0, least_kept cs c.in_ok-in_c.in_c None c.in_ok-in_c.ensures c.in-None-None.is-1)

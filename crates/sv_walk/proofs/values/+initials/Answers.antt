use Rattle.std.proofs.Common.{ap, ◌∙◌, length, flat_map}
use Rattle.std.proofs.lemmas.Result.{IfOk-weaker}
use Rattle.dpi_rules.proofs.Noting.{noted_first, noted_next, noted_last, noted_both}
use Rattle.sv_contexts.specs.Patterns.{pattern_violations, part_target}
use Rattle.sv_judge.specs.Calls.{env_of}
use Rattle.sv_walk.specs.Values.{init_violations}
use Rattle.sv_walk.proofs.Patterns.{pattern_is}
use Rattle.sv_walk.proofs.values.+initials.Goals as goal

pub note_parts-loop-part-init : goal.note_parts-loop-part-init
note_parts-loop-part-init t c = noted_first (λ x. init_violations (env_of c.args.place.now) x c.args.target) c.args.found.now c.args.parts.now

pub note_parts-loop-part-preserved : goal.note_parts-loop-part-preserved
note_parts-loop-part-preserved t c =
    noted_next c.args.parts.now c.loop-part.part-index c.part-item.result c.loop-part-test.true c.part-item.is c.in_ok-note_init.ensures c.loop-part.invariant

pub note_parts-returns : goal.note_parts-returns
note_parts-returns t c = noted_last c.args.parts.now c.loop-part.part-index c.loop-part-test.false c.loop-part.invariant

pub note_init-returns-in-Pattern : goal.note_init-returns-in-Pattern
note_init-returns-in-Pattern t c =
    let env = env_of c.args.place.now in
    let inner = part_target c.args.target in
    let ps = c.in-Pattern.parts in
    let is = ap (λ i. init_violations env i c.args.target) c.in-Pattern.is ∙ pattern_is env c.in-Pattern.token ps c.args.target in
    rw is (IfOk-weaker c.note_parts.result _ _
    (λ u h. noted_both c.args.found.now (pattern_violations env.file c.in-Pattern.token c.args.target (length ps)) (flat_map (λ x. init_violations env x inner) ps)
    (rw c.len.ensures at c.note_pattern.ensures) (rw (c.part_target.ensures, c.as_slice.ensures) at h))
    c.note_parts.ensures)

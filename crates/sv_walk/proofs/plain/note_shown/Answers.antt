use Rattle.std.proofs.Common.{ap, ◌∙◌, map}
use Rattle.std.proofs.lemmas.Result.{IfOk-weaker}
use Rattle.dpi_rules.specs.Least.{noted}
use Rattle.dpi_rules.proofs.Noting.{noted_both}
use Rattle.sv_contexts.specs.Formats.{format_violations}
use Rattle.sv_judge.specs.Calls.{env_of}
use Rattle.sv_walk.specs.Heads.{all_found}
use Rattle.sv_walk.specs.Plain as spec
use Rattle.sv_walk.proofs.plain.note_shown.Goals as goal

pub returns : goal.returns
returns c =
    let env = env_of c.args.place.now in
    let f = c.args.format.now in
    let shown = map (spec.shown env) f.actuals in
    let args = rw c.as_slice.ensures at c.in_ok-args.ensures in
    IfOk-weaker c.note_format.result _ _
    (λ u h. noted_both c.args.found.now (all_found env f.actuals) (format_violations env.file f.text.token f.text.bytes shown) args.1
    ((rw c.as_slice-2.ensures at h) ∙ ap (λ xs. noted c.all_shown.new.found (format_violations env.file f.text.token f.text.bytes xs)) (c.deref.ensures.value ∙ args.0)))
    c.note_format.ensures

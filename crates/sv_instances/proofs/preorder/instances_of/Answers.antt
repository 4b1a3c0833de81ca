use Rattle.std.proofs.Common.{ap, ◌∙◌, take, ◌++◌}
use Rattle.std.specs.Prelude.{slice_get}
use Rattle.dpi_rules.specs.Least.{noted}
use Rattle.sv_instances.specs.Preorder.{count_violations, from_tops}
use Rattle.sv_instances.proofs.Takes.{get_front}
use Rattle.sv_instances.proofs.preorder.instances_of.Goals as goal

pub returns : goal.returns
returns c =
    let made = from_tops c.args.children.now c.args.levels c.args.tops.now in
    let list = c.in_ok-add_tops.ensures ∙ ap (λ ys. take 1001 (ys ++ made)) c.new-list.ensures in
    record {
      list_is = list;
      found_are =
          c.note_count.ensures
          ∙ ap (λ ys. noted c.args.found.now (count_violations (slice_get ys 1000))) (c.as_slice.ensures ∙ list)
          ∙ ap (λ o. noted c.args.found.now (count_violations o)) (get_front 1000 made);
    }

use Rattle.std.proofs.Common.{◌≡◌, ◌++◌, map, take, ap, ◌∙◌}
use Rattle.std.specs.Prelude.{slice_get}
use Rattle.dpi_rules.specs.Least.{noted}
use Rattle.dpi_rules.proofs.Noting.{noted_both}
use Rattle.sv_instances.specs.Modules.{told, number_of, numbers_of, second_modules}
use Rattle.sv_instances.specs.Instances.{all_unknown, all_children}
use Rattle.sv_instances.specs.Cycles.{acyclic, cycle_violations}
use Rattle.sv_instances.specs.Tops.{tops}
use Rattle.sv_instances.specs.Preorder.{from_tops, count_violations}
use Rattle.sv_scopes.specs.Instances.{children, kept_children, instances}
use Rattle.sv_scopes.proofs.instances.listed_instances.Goals as goal

pub returns : goal.returns
returns c =
    let ms = map told c.args.modules.now in
    let found = c.args.found.now in
    let levels = c.args.levels in
    let numbered = c.in_ok-numbers.ensures in
    let same : numbers_of c.in_ok-numbers.numbers.numbers ≡ number_of ms = λ i name. numbered.numbers_are name i in
    let all : c.as_slice.result.now ≡ children ms = c.as_slice.ensures ∙ c.in_ok-all.ensures ∙ ap (λ n. all_children n ms) same in
    let kept = c.in_ok-kept.ensures.kept ∙ ap acyclic all in
    let for_tops = c.as_slice-2.ensures ∙ kept in
    let for_instances = c.as_slice-3.ensures ∙ kept in
    let above : c.as_slice-4.result.now ≡ tops (kept_children ms) ms = c.as_slice-4.ensures ∙ c.in_ok-tops.ensures ∙ ap (λ k. tops k ms) for_tops in
    let unknown = c.note_unknown.ensures ∙ ap (λ n. noted c.numbers_of.new.found (all_unknown n ms)) same in
    let cycles = c.in_ok-kept.ensures.refused ∙ ap (λ k. noted c.note_unknown.new.found (cycle_violations k)) all in
    let counted =
    c.in_ok-list.ensures.found_are
    ∙ ap (λ k. noted c.without_cycles.new.found (count_violations (slice_get (from_tops k levels c.as_slice-4.result.now) 1000))) for_instances
    ∙ ap (λ t. noted c.without_cycles.new.found (count_violations (slice_get (from_tops (kept_children ms) levels t) 1000))) above in
    let listed =
    c.in_ok-list.ensures.list_is
    ∙ ap (λ k. take 1001 (from_tops k levels c.as_slice-4.result.now)) for_instances
    ∙ ap (λ t. take 1001 (from_tops (kept_children ms) levels t)) above in
    let first = noted_both found (second_modules ms) (all_unknown (number_of ms) ms) numbered.found_are unknown in
    let second = noted_both found (second_modules ms ++ all_unknown (number_of ms) ms) (cycle_violations (children ms)) first cycles in
    let broken = noted_both found (second_modules ms ++ all_unknown (number_of ms) ms ++ cycle_violations (children ms)) (count_violations (slice_get (instances levels ms) 1000)) second counted in
    record { listed = listed; broken = broken }

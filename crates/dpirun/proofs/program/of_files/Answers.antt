use Rattle.std.proofs.Common.{◌≡◌, ◌∙◌, ◌≤◌, Some, Err, length, map, slice_get, ap, refl, add-one, arith}
use Rattle.std.proofs.lemmas.List.{length-map}
use Rattle.std.specs.String.{string_bytes}
use Rattle.dpirun.specs.Shown.{sources_shown}
use Rattle.dpirun.proofs.Adding.{few_sv, few_c}
use Rattle.dpirun.proofs.Files.{if_ok, fault_ends, sources_end, named_at, no_sources, sources_more, all_sources, reached_at, few_words}
use Rattle.dpirun.proofs.program.of_files.Goals as goal

pub loop-word-init : goal.loop-word-init
loop-word-init g c = record { read = no_sources _ _ c.new-sources.ensures; kept = refl; later = omega arith }

pub returns-in-Err-clause-kept : goal.returns-in-Err-clause-kept
returns-in-Err-clause-kept g c = c.in-Err.ensures.kept ∙ c.loop-word.invariant.kept

pub returns-in-Err-clause-ends : goal.returns-in-Err-clause-ends
returns-in-Err-clause-ends g c =
    let named : slice_get (map string_bytes c.args.words.now.items) c.loop-word.word-index ≡ Some c.as_str-name.result.now =
    named_at string_bytes _ _ _ c.word-item.result _ c.deref-word-items.ensures.value c.loop-word-test.true c.word-item.is c.as_str-name.ensures.value in
    if_ok c.of_fault.result _ _
    (λ o comes. fault_ends _ _ _ _ c.in-Err.fault _ _ _ _ _ c.loop-word.invariant.kept
    (reached_at _ _ _ _ _ c.requires named c.loop-word.invariant.read) c.in-Err.ensures.refused c.loop-word.invariant.later
    (λ e. c.in-Err.ensures.unread (ap Err e)) (λ e. c.in-Err.ensures.named (ap Err e)) comes) c.of_fault.ensures

pub loop-word-preserved : goal.loop-word-preserved
loop-word-preserved g c =
    let named : slice_get (map string_bytes c.args.words.now.items) c.loop-word.word-index ≡ Some c.as_str-name.result.now =
    named_at string_bytes _ _ _ c.word-item.result _ c.deref-word-items.ensures.value c.loop-word-test.true c.word-item.is c.as_str-name.ensures.value in
    record {
      read = rw add-one (sources_more _ _ _ _ _ _ _ c.loop-word.invariant.kept named c.loop-word.invariant.read c.in-Ok.ensures.ok);
      kept = c.in-Ok.ensures.kept ∙ c.loop-word.invariant.kept;
      later = omega (arith, c.loop-word.invariant.later, c.in-Ok.ensures.later);
    }

pub of_sources-requires-clause-sv : goal.of_sources-requires-clause-sv
of_sources-requires-clause-sv g c =
    let items : length c.deref-word-items.result.now ≡ length c.args.words.now.items = ap length c.deref-word-items.ensures.value in
    let past : length (map string_bytes c.args.words.now.items) ≤ c.loop-word.word-index = simp length-map (omega (arith, items, c.loop-word-test.false)) in
    few_sv _ _ (sources_shown c.loop-word.sources) (all_sources _ _ _ _ past c.loop-word.invariant.read) (few_words _ c.requires)

pub of_sources-requires-clause-c : goal.of_sources-requires-clause-c
of_sources-requires-clause-c g c =
    let items : length c.deref-word-items.result.now ≡ length c.args.words.now.items = ap length c.deref-word-items.ensures.value in
    let past : length (map string_bytes c.args.words.now.items) ≤ c.loop-word.word-index = simp length-map (omega (arith, items, c.loop-word-test.false)) in
    few_c _ _ (sources_shown c.loop-word.sources) (all_sources _ _ _ _ past c.loop-word.invariant.read) (few_words _ c.requires)

pub returns-clause-ends : goal.returns-clause-ends
returns-clause-ends g c =
    let items : length c.deref-word-items.result.now ≡ length c.args.words.now.items = ap length c.deref-word-items.ensures.value in
    let past : length (map string_bytes c.args.words.now.items) ≤ c.loop-word.word-index = simp length-map (omega (arith, items, c.loop-word-test.false)) in
    if_ok c.of_sources.result _ _
    (λ o is. sources_end _ _ _ _ _ _ _ c.requires (all_sources _ _ _ _ past c.loop-word.invariant.read) is) c.of_sources.ensures

pub returns-clause-kept : goal.returns-clause-kept
returns-clause-kept g c = c.loop-word.invariant.kept

use Rattle.std.proofs.Common.{ap, ◌∙◌}
use Rattle.std.specs.Vec.{vec_items}
use Rattle.dpi_table.specs.Firsts.{with_file_values}
use Rattle.dpi_table.proofs.Filling.{file_said}
use Rattle.c_lookup.specs.Facts.{name_told, type_told, names_told, types_told, names_of, types_of}
use Rattle.c_lookup.proofs.facts.told_of.Goals as goal

pub loop-file-preserved : goal.loop-file-preserved
loop-file-preserved c =
    let files = c.args.files.now in
    let i = c.loop-file.file in
    let x = c.index-files-file.result in
    let old = c.loop-file.told in
    let new = c.add_facts.new.told in
    record {
      names = file_said name_told vec_items (names_of old) (names_of new) files i x c.loop-file-test.true c.index-files-file.is
          (c.in_ok-add_facts.ensures.names ∙ ap (λ fs. with_file_values (names_of old) i (names_told fs)) c.deref.ensures.value) c.loop-file.invariant.names;
      types = file_said type_told vec_items (types_of old) (types_of new) files i x c.loop-file-test.true c.index-files-file.is
          (c.in_ok-add_facts.ensures.types ∙ ap (λ fs. with_file_values (types_of old) i (types_told fs)) c.deref.ensures.value) c.loop-file.invariant.types;
    }

use Rattle.std.proofs.Common.{ap, ◌+◌}
use Rattle.sv_check.proofs.Numbered.{forms_next, forms_last}
use Rattle.sv_check.proofs.files.note_forms.Goals as goal

pub loop-file-preserved : goal.loop-file-preserved
loop-file-preserved c = record {
  counted = ap (λ n. n + 1) c.loop-file.invariant.counted;
  same = forms_next _ _ c.args.files.now c.loop-file.file-index c.loop-file.number c.file-item.result c.loop-file-test.true c.file-item.is _ c.note_file.ensures c.loop-file.invariant.same;
}

pub returns : goal.returns
returns c = forms_last _ _ c.args.files.now c.loop-file.file-index c.loop-file.number c.loop-file-test.false c.loop-file.invariant.same

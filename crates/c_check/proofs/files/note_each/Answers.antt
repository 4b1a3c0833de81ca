use Rattle.std.proofs.Common.{ap, ◌+◌}
use Rattle.c_check.proofs.Numbered.{files_next, files_last}
use Rattle.c_check.proofs.files.note_each.Goals as goal

pub loop-file-preserved : goal.loop-file-preserved
loop-file-preserved c = record {
  counted = ap (λ n. n + 1) c.loop-file.invariant.counted;
  same = files_next _ _ c.args.files.now c.loop-file.file-index c.loop-file.number c.file-item.result c.loop-file-test.true c.file-item.is _ c.in_ok-note_one.ensures c.loop-file.invariant.same;
}

pub returns : goal.returns
returns c = files_last _ _ c.args.files.now c.loop-file.file-index c.loop-file.number c.loop-file-test.false c.loop-file.invariant.same

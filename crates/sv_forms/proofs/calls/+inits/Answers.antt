use Rattle.dpi_rules.proofs.Noting.{noted_first, noted_next, noted_both}
use Rattle.sv_forms.proofs.Notes.{all_noted}
use Rattle.sv_forms.specs.Calls.{in_init}
use Rattle.sv_forms.proofs.calls.+inits.Goals as goal

pub note_inits-loop-init-init : goal.note_inits-loop-init-init
note_inits-loop-init-init t c =
    noted_first (in_init c.args.file) c.args.found.now c.args.inits.now

pub note_inits-loop-init-preserved : goal.note_inits-loop-init-preserved
note_inits-loop-init-preserved t c =
    noted_next c.args.inits.now c.loop-init.init-index c.init-item.result c.loop-init-test.true c.init-item.is c.note_init.ensures c.loop-init.invariant

pub note_inits-returns : goal.note_inits-returns
note_inits-returns t c =
    all_noted c.args.inits.now c.loop-init.init-index c.loop-init-test.false c.loop-init.invariant

use Rattle.std.proofs.Common.{drop}
use Rattle.dpi_rules.proofs.Noting.{IsNoted}
use Rattle.sv_forms.specs.Calls.{in_init}
use Rattle.sv_forms.proofs.calls.+inits.Given as goal

-- what is noted so far, and what the ones left over break
abbrev pub invariant-note_inits-loop-init : goal.invariant-note_inits-loop-init
invariant-note_inits-loop-init l = IsNoted (in_init l.file) l.initial.found l.inits (drop l.init-index l.inits) l.found

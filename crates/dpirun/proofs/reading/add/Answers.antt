use Rattle.std.proofs.Common.{◌∙◌, sym}
use Rattle.dpirun.proofs.Adding.{adds_sv, adds_c}
use Rattle.dpirun.proofs.Files.{on_ok}
use Rattle.dpirun.proofs.reading.add.Goals as goal

pub returns-in-SystemVerilog-clause-ok : goal.returns-in-SystemVerilog-clause-ok
returns-in-SystemVerilog-clause-ok g c =
    on_ok c.add_sv.result _ _
    (adds_sv _ _ _ _ _ c.in_ok-source.ensures.ok c.in_ok-source.ensures.name (sym c.language_of.ensures ∙ c.in-SystemVerilog.is)) c.add_sv.ensures.ok

pub returns-in-C-clause-ok : goal.returns-in-C-clause-ok
returns-in-C-clause-ok g c =
    on_ok c.add_c.result _ _
    (adds_c _ _ _ _ _ c.in_ok-source.ensures.ok c.in_ok-source.ensures.name (sym c.language_of.ensures ∙ c.in-C.is)) c.add_c.ensures.ok

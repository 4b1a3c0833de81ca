use Rattle.std.proofs.Common.{ap, ◌∙◌}
use Rattle.dpi_rules.specs.Least.{noted}
use Rattle.c_calls.specs.Files.{in_file}
use Rattle.dpi_links.proofs.calls.note_file.Goals as goal

pub returns : goal.returns
returns c =
    c.note_calls.ensures ∙ ap (λ r. noted c.args.found.now (in_file c.args.number r c.args.file.now)) c.in_ok-refusals.ensures

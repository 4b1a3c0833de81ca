use Rattle.std.proofs.Common.{ap, sym, ◌∙◌, Some, None, if◌then◌else◌}
use Rattle.std.specs.Option.{option_or}
use Rattle.std.specs.Str.{bytes_eq}
use Rattle.c_calls.specs.Refusals.{Rules, rules_of}
use Rattle.dpi_links.proofs.Gathered.{or_is}
use Rattle.dpi_links.proofs.calls.refuse.Goals as goal

pub returns-in_ok-refuse : goal.returns-in_ok-refuse
returns-in_ok-refuse c = λ q.
    let before = rules_of c.args.refusals.now q in
    let here = bytes_eq c.args.name.now q in
    ap (λ (r : Rules). r q) c.in_ok-refuse.ensures
    ∙ or_is before (if here then Some c.in-Some.rule else None)
    ∙ ap (λ r. option_or before (if here then r else None)) (sym c.in-Some.is)

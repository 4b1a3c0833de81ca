use Rattle.std.proofs.Common.{sym, ap, ◌∙◌}
use Rattle.dpi_links.specs.Link.{c_violations}
use Rattle.dpi_decl.specs.Pair.{Pair}
use Rattle.dpi_decl.proofs.linked.Linked.program.Goals as goal

pub returns-clause-clean : goal.returns-clause-clean
returns-clause-clean c = ap (λ (p : Pair). c_violations p.svs p.cs) (sym c.self.view_is) ∙ c.self.invariant.clean_in_c

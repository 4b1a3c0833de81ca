use Rattle.std.proofs.Common.{sym, ap, ◌∙◌}
use Rattle.dpi_links.specs.Link.{sv_violations}
use Rattle.dpi_decl.specs.Pair.{Pair}
use Rattle.dpi_decl.proofs.linked.Linked.design.Goals as goal

pub returns-clause-clean : goal.returns-clause-clean
returns-clause-clean c = ap (λ (p : Pair). sv_violations p.svs p.cs) (sym c.self.view_is) ∙ c.self.invariant.clean_in_sv

use Rattle.std.proofs.Common.{ap, ◌∙◌}
use Rattle.c_check.specs.Facts.{meanings_in}
use Rattle.c_check.proofs.programs.CProgram.meaning.Goals as goal

pub returns : goal.returns
returns c =
    c.meaning.ensures ∙ ap (λ m. m c.args.file c.args.token) (c.self.invariant.meanings_are ∙ ap meanings_in c.self.view_is)

use Rattle.std.proofs.Common.{List, ℕ, map, sym, ap, ◌∙◌}
use Rattle.dpi_lex.specs.Listed.{listed_stretch}
use Rattle.dpi_lex.proofs.Fronts.{longest_front-listed}
use Rattle.dpi_lex.proofs.listed.listed_token.Goals as goal

pub returns-clause-stretch : goal.returns-clause-stretch
returns-clause-stretch c =
    let list : List (List ℕ) = map (λ t. t.now) c.args.list.now in
    c.token_of.ensures.stretch ∙ ap (listed_stretch c.args.kind) c.listed.ensures
    ∙ sym (longest_front-listed list c.args.kind c.args.rest.now c.requires)

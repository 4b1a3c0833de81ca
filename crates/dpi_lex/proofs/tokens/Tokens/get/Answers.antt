use Rattle.std.proofs.Common.{length, ap, sym, subst, arith}
use Rattle.dpi_lex.specs.declared.token.Token.{Token}
use Rattle.dpi_lex.specs.Lexed.{Lexed, IsInside}
use Rattle.dpi_lex.proofs.Spans.{AreSpans-get_or}
use Rattle.dpi_lex.proofs.tokens.Tokens.get.Goals as goal

pub returns-clause-inside : goal.returns-clause-inside
returns-clause-inside c =
    let text = c.args.self.now.text in
    let P : Token → Type 0 = λ t. IsInside text t in
    subst
    P
    (sym c.index.ensures)
    (AreSpans-get_or 0 _ c.self.inside.tokens.items c.args.i c.index.result.now c.self.invariant.1
    (omega (arith, ap (λ (l : Lexed). length l.tokens) c.self.view_is)) text
    (ap (λ (l : Lexed). length l.text) (sym c.self.view_is)))

use Rattle.std.proofs.Common.{◌≡◌, true, false, get_or, sym, ap, ◌∙◌, arith}
use Rattle.std.proofs.lemmas.Bool.Decides.{nat_tests}
use Rattle.dpi_lex.specs.declared.language.Language.TheVariants.{C}
use Rattle.dpi_lex.specs.Bytes.{is_apostrophe, is_escape}
use Rattle.dpi_lex.proofs.CharacterLemmas.{front_of-bad_escape, front_of-escape}
use Rattle.dpi_lex.proofs.CharacterLemmas.{front_of-open_escape}
use Rattle.dpi_lex.proofs.characters.escape.Goals as goal

pub returns-then-not-is_escape-clause-stretch : goal.returns-then-not-is_escape-clause-stretch
returns-then-not-is_escape-clause-stretch c =
    let rest = c.args.rest.now in
    let letter : is_escape C (get_or rest 2 0) ≡ false = ap (is_escape C) (sym c.byte_at.ensures)
    ∙ sym c.is_escape.ensures ∙ c.if-not-is_escape.true in
    sym (front_of-bad_escape rest c.requires.quote c.requires.slash letter)

pub returns-then-byte_at-ne39-clause-stretch : goal.returns-then-byte_at-ne39-clause-stretch
returns-then-byte_at-ne39-clause-stretch c =
    let rest = c.args.rest.now in
    let letter : is_escape C (get_or rest 2 0) ≡ true = ap (is_escape C) (sym c.byte_at.ensures)
    ∙ sym c.is_escape.ensures ∙ c.if-not-is_escape.false in
    let open_end : is_apostrophe (get_or rest 3 0) ≡ false = grind (arith, nat_tests) in
    c.bad_byte.ensures ∙ sym (front_of-open_escape rest c.requires.slash letter open_end)

pub returns-clause-stretch : goal.returns-clause-stretch
returns-clause-stretch c =
    let rest = c.args.rest.now in
    let letter : is_escape C (get_or rest 2 0) ≡ true = ap (is_escape C) (sym c.byte_at.ensures)
    ∙ sym c.is_escape.ensures ∙ c.if-not-is_escape.false in
    let closed : is_apostrophe (get_or rest 3 0) ≡ true = grind (arith, nat_tests) in
    sym (front_of-escape rest c.requires.quote c.requires.slash letter closed)

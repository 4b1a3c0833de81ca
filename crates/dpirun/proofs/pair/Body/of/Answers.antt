use Rattle.std.proofs.Common.{◌≡◌, ◌∙◌, ap, sym, List, Some, None, map, option_map}
use Rattle.std.specs.Prelude.{option_and_then}
use Rattle.dpi_lex.specs.Words.{Word, words_of}
use Rattle.dpirun.specs.Form.{bytes_at, holes_of}
use Rattle.dpirun.specs.Pair.{c_form, body_from}
use Rattle.dpirun.proofs.pair.Body.of.Goals as goal

pub returns-in-Some-clause-found : goal.returns-in-Some-clause-found
unfolding c_form
returns-in-Some-clause-found c =
    let ws : List Word = words_of c.args.tokens.now in
    let filled : holes_of c_form ws ≡ Some (map (bytes_at ws) c.deref.result.now) =
    sym c.in_ok-blanks.ensures.found ∙ ap (option_map (λ v. map (bytes_at ws) v.items)) c.in-Some.is
    ∙ ap (λ items. Some (map (bytes_at ws) items)) (sym c.deref.ensures.value) in
    c.from.ensures ∙ sym (ap (option_and_then (body_from c.args.function.now)) filled)

pub returns-in-None-clause-found : goal.returns-in-None-clause-found
unfolding c_form
returns-in-None-clause-found c =
    let ws : List Word = words_of c.args.tokens.now in
    let unfilled : holes_of c_form ws ≡ None =
    sym c.in_ok-blanks.ensures.found ∙ ap (option_map (λ v. map (bytes_at ws) v.items)) c.in-None.is in
    sym (ap (option_and_then (body_from c.args.function.now)) unfilled)

use Rattle.std.proofs.Common.{◌≡◌, ◌∙◌, ap, sym, List, Option, Some, None, map, option_map, subst, IfOk}
use Rattle.std.specs.Prelude.{option_and_then}
use Rattle.dpi_lex.specs.Words.{Word, words_of}
use Rattle.dpirun.specs.Form.{bytes_at, holes_of}
use Rattle.dpirun.specs.Pair.{CallOf, sv_form, call_shown, call_from}
use Rattle.dpirun.proofs.pair.Call.of.Goals as goal

pub returns-in-Some : goal.returns-in-Some
unfolding sv_form
returns-in-Some c =
    let ws : List Word = words_of c.args.tokens.now in
    let filled : holes_of sv_form ws ≡ Some (map (bytes_at ws) c.deref.result.now) =
    sym c.in_ok-blanks.ensures.found ∙ ap (option_map (λ v. map (bytes_at ws) v.items)) c.in-Some.is
    ∙ ap (λ items. Some (map (bytes_at ws) items)) (sym c.deref.ensures.value) in
    let P : Option CallOf → Type 0 = λ o. IfOk c.from.result (λ found. option_map call_shown found ≡ o) in
    subst P (sym (ap (option_and_then call_from) filled)) c.from.ensures

pub returns-in-None : goal.returns-in-None
unfolding sv_form
returns-in-None c =
    let ws : List Word = words_of c.args.tokens.now in
    let unfilled : holes_of sv_form ws ≡ None =
    sym c.in_ok-blanks.ensures.found ∙ ap (option_map (λ v. map (bytes_at ws) v.items)) c.in-None.is in
    sym (ap (option_and_then call_from) unfilled)

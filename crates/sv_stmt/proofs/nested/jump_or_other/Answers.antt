use Rattle.std.proofs.Common.{◌≡◌, true, false, rules, sym, subst, ◌∙◌}
use Rattle.dpi_grammar.specs.Parser.{Reads, first}
use Rattle.sv_tree.specs.declared.class.Class.TheVariants as classes
use Rattle.sv_tree.specs.Classes.{is}
use Rattle.sv_stmt.specs.ReadingStatements.{jump_or_other}
use Rattle.sv_stmt.proofs.Chosen.{chosen, passed}
use Rattle.sv_stmt.proofs.nested.jump_or_other.Goals as goal

pub returns-then-sees-4 : goal.returns-then-sees-4
unfolding jump_or_other
returns-then-sees-4 c =
    let s = c.args.tokens.now in
    let no_return : is classes.Return (first s.rest) ≡ false = search rules in
    let no_break : is classes.Break (first s.rest) ≡ false = search rules in
    let no_continue : is classes.Continue (first s.rest) ≡ false = search rules in
    let disable : is classes.Disable (first s.rest) ≡ true = search rules in
    subst (λ o. Reads o c.disable_statement.result c.disable_statement.new.tokens)
    (sym (passed (is classes.Return) _ _ s no_return ∙ passed (is classes.Break) _ _ s no_break ∙ passed (is classes.Continue) _ _ s no_continue ∙ chosen (is classes.Disable) _ _ s disable)) c.disable_statement.ensures

pub returns : goal.returns
unfolding jump_or_other
returns c =
    let s = c.args.tokens.now in
    let no_return : is classes.Return (first s.rest) ≡ false = search rules in
    let no_break : is classes.Break (first s.rest) ≡ false = search rules in
    let no_continue : is classes.Continue (first s.rest) ≡ false = search rules in
    let no_disable : is classes.Disable (first s.rest) ≡ false = search rules in
    subst (λ o. Reads o c.task_or_named.result c.task_or_named.new.tokens)
    (sym (passed (is classes.Return) _ _ s no_return ∙ passed (is classes.Break) _ _ s no_break ∙ passed (is classes.Continue) _ _ s no_continue ∙ passed (is classes.Disable) _ _ s no_disable)) c.task_or_named.ensures

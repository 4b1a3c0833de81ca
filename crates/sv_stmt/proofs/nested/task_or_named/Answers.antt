use Rattle.std.proofs.Common.{◌≡◌, true, false, rules, sym, subst, ◌∙◌}
use Rattle.dpi_grammar.specs.Parser.{Reads, first}
use Rattle.sv_tree.specs.declared.class.Class.TheVariants as classes
use Rattle.sv_tree.specs.Classes.{is}
use Rattle.sv_stmt.specs.Front.{begins_show}
use Rattle.sv_stmt.specs.ReadingStatements.{task_or_named}
use Rattle.sv_stmt.proofs.Chosen.{chosen, passed}
use Rattle.sv_stmt.proofs.nested.task_or_named.Goals as goal

pub returns-then-sees-2 : goal.returns-then-sees-2
unfolding task_or_named
returns-then-sees-2 c =
    let s = c.args.tokens.now in
    let no_finish : is classes.Finish (first s.rest) ≡ false = search rules in
    let no_show : begins_show (first s.rest) ≡ false = search rules in
    let void : is classes.Void (first s.rest) ≡ true = search rules in
    subst (λ o. Reads o c.void_call.result c.void_call.new.tokens) (sym (passed (is classes.Finish) _ _ s no_finish ∙ passed begins_show _ _ s no_show ∙ chosen (is classes.Void) _ _ s void)) c.void_call.ensures

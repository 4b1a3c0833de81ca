use Rattle.std.proofs.Common.{◌≡◌, true, false, rules, arith, sym, ap, subst, ◌∙◌}
use Rattle.std.proofs.lemmas.Grind.{common_steps}
use Rattle.dpi_grammar.specs.Parser.{Reads, first}
use Rattle.dpi_grammar.proofs.Turns.{none, next, failed, over, branch_none, branch_next, branch_last, branch_failed, branch_over}
use Rattle.sv_tree.specs.declared.class.Class.TheVariants as classes
use Rattle.sv_tree.specs.Classes.{is}
use Rattle.sv_stmt.specs.Front.{begins_statement, begins_item}
use Rattle.sv_stmt.specs.ReadingStatements.{sort, item, else_part, loop_or_other, statement_in, statement}
use Rattle.sv_stmt.proofs.Chosen.{chosen, passed}
use Rattle.sv_stmt.proofs.nested.+statement.Goals as goal

pub statements-returns-then-not-begins_statement : goal.statements-returns-then-not-begins_statement
statements-returns-then-not-begins_statement t c = none begins_statement (statement c.args.depth) _ _ _ _ _ c.loop-turn-test.true c.loop-turn.invariant (search rules)

pub statements-returns-in_err-statement : goal.statements-returns-in_err-statement
statements-returns-in_err-statement t c =
    let e = failed begins_statement (statement c.args.depth) _ _ _ _ _ c.in_err-statement.field-0.0 c.loop-turn-test.true c.loop-turn.invariant (search rules) in
    first_of (search rules, grind (arith, common_steps))

pub statements-loop-turn-preserved : goal.statements-loop-turn-preserved
statements-loop-turn-preserved t c =
    next begins_statement (statement c.args.depth) _ _ _ _ _ c.in_ok-statement.field-0 c.statement.new.tokens _ c.loop-turn-test.true c.loop-turn.invariant (search rules) (search rules) (search rules)

pub statements-returns : goal.statements-returns
statements-returns t c = over begins_statement (statement c.args.depth) _ _ _ _ _ (search rules) c.loop-turn.invariant

pub more_items-returns-then-not-begins_item : goal.more_items-returns-then-not-begins_item
more_items-returns-then-not-begins_item t c = none begins_item (item c.args.depth (statement c.args.depth)) _ _ _ _ _ c.loop-turn-test.true c.loop-turn.invariant (search rules)

pub more_items-returns-in_err-item : goal.more_items-returns-in_err-item
more_items-returns-in_err-item t c =
    let e = failed begins_item (item c.args.depth (statement c.args.depth)) _ _ _ _ _ c.in_err-item.field-0.0 c.loop-turn-test.true c.loop-turn.invariant (search rules) in
    first_of (search rules, grind (arith, common_steps))

pub more_items-loop-turn-preserved : goal.more_items-loop-turn-preserved
more_items-loop-turn-preserved t c =
    next begins_item (item c.args.depth (statement c.args.depth)) _ _ _ _ _ c.in_ok-item.field-0 c.item.new.tokens _ c.loop-turn-test.true c.loop-turn.invariant (search rules) (search rules) (search rules)

pub more_items-returns : goal.more_items-returns
more_items-returns t c = over begins_item (item c.args.depth (statement c.args.depth)) _ _ _ _ _ (search rules) c.loop-turn.invariant

pub statement-returns-then-sees-2 : goal.statement-returns-then-sees-2
unfolding statement_in
statement-returns-then-sees-2 t c =
    let s = c.args.tokens.now in
    let no_semicolon : is classes.Semicolon (first s.rest) ≡ false = search rules in
    let it : is classes.Begin (first s.rest) ≡ true = search rules in
    subst (λ o. Reads o c.block.result c.block.new.tokens) (sym (passed (is classes.Semicolon) _ _ s no_semicolon ∙ chosen (is classes.Begin) _ _ s it)) c.block.ensures

pub statement-returns-then-sees-3 : goal.statement-returns-then-sees-3
unfolding statement_in
statement-returns-then-sees-3 t c =
    let s = c.args.tokens.now in
    let no_semicolon : is classes.Semicolon (first s.rest) ≡ false = search rules in
    let no_begin : is classes.Begin (first s.rest) ≡ false = search rules in
    let it : is classes.If (first s.rest) ≡ true = search rules in
    subst (λ o. Reads o c.if_statement.result c.if_statement.new.tokens) (sym (passed (is classes.Semicolon) _ _ s no_semicolon ∙ passed (is classes.Begin) _ _ s no_begin ∙ chosen (is classes.If) _ _ s it)) c.if_statement.ensures

pub statement-returns-then-sees-4 : goal.statement-returns-then-sees-4
unfolding statement_in
statement-returns-then-sees-4 t c =
    let s = c.args.tokens.now in
    let no_semicolon : is classes.Semicolon (first s.rest) ≡ false = search rules in
    let no_begin : is classes.Begin (first s.rest) ≡ false = search rules in
    let no_if : is classes.If (first s.rest) ≡ false = search rules in
    let it : is classes.Case (first s.rest) ≡ true = search rules in
    subst (λ o. Reads o c.case.result c.case.new.tokens) (sym (passed (is classes.Semicolon) _ _ s no_semicolon ∙ passed (is classes.Begin) _ _ s no_begin ∙ passed (is classes.If) _ _ s no_if ∙ chosen (is classes.Case) _ _ s it)) c.case.ensures

pub statement-returns : goal.statement-returns
unfolding statement_in
statement-returns t c =
    let s = c.args.tokens.now in
    let no_semicolon : is classes.Semicolon (first s.rest) ≡ false = search rules in
    let no_begin : is classes.Begin (first s.rest) ≡ false = search rules in
    let no_if : is classes.If (first s.rest) ≡ false = search rules in
    let no_case : is classes.Case (first s.rest) ≡ false = search rules in
    subst (λ o. Reads o c.loop_or_other.result c.loop_or_other.new.tokens) (sym (passed (is classes.Semicolon) _ _ s no_semicolon ∙ passed (is classes.Begin) _ _ s no_begin ∙ passed (is classes.If) _ _ s no_if ∙ passed (is classes.Case) _ _ s no_case)) c.loop_or_other.ensures

pub loop_or_other-returns-then-sees : goal.loop_or_other-returns-then-sees
unfolding loop_or_other
loop_or_other-returns-then-sees t c =
    let s = c.args.tokens.now in
    let it : is classes.While (first s.rest) ≡ true = search rules in
    subst (λ o. Reads o c.while_loop.result c.while_loop.new.tokens) (sym (chosen (is classes.While) _ _ s it)) c.while_loop.ensures

pub loop_or_other-returns-then-sees-2 : goal.loop_or_other-returns-then-sees-2
unfolding loop_or_other
loop_or_other-returns-then-sees-2 t c =
    let s = c.args.tokens.now in
    let no_while : is classes.While (first s.rest) ≡ false = search rules in
    let it : is classes.Repeat (first s.rest) ≡ true = search rules in
    subst (λ o. Reads o c.repeat_loop.result c.repeat_loop.new.tokens) (sym (passed (is classes.While) _ _ s no_while ∙ chosen (is classes.Repeat) _ _ s it)) c.repeat_loop.ensures

pub loop_or_other-returns-then-sees-3 : goal.loop_or_other-returns-then-sees-3
unfolding loop_or_other
loop_or_other-returns-then-sees-3 t c =
    let s = c.args.tokens.now in
    let no_while : is classes.While (first s.rest) ≡ false = search rules in
    let no_repeat : is classes.Repeat (first s.rest) ≡ false = search rules in
    let it : is classes.Forever (first s.rest) ≡ true = search rules in
    subst (λ o. Reads o c.forever_loop.result c.forever_loop.new.tokens) (sym (passed (is classes.While) _ _ s no_while ∙ passed (is classes.Repeat) _ _ s no_repeat ∙ chosen (is classes.Forever) _ _ s it)) c.forever_loop.ensures

pub loop_or_other-returns-then-sees-4 : goal.loop_or_other-returns-then-sees-4
unfolding loop_or_other
loop_or_other-returns-then-sees-4 t c =
    let s = c.args.tokens.now in
    let no_while : is classes.While (first s.rest) ≡ false = search rules in
    let no_repeat : is classes.Repeat (first s.rest) ≡ false = search rules in
    let no_forever : is classes.Forever (first s.rest) ≡ false = search rules in
    let it : is classes.For (first s.rest) ≡ true = search rules in
    subst (λ o. Reads o c.for_loop.result c.for_loop.new.tokens) (sym (passed (is classes.While) _ _ s no_while ∙ passed (is classes.Repeat) _ _ s no_repeat ∙ passed (is classes.Forever) _ _ s no_forever ∙ chosen (is classes.For) _ _ s it)) c.for_loop.ensures

pub loop_or_other-returns : goal.loop_or_other-returns
unfolding loop_or_other
loop_or_other-returns t c =
    let s = c.args.tokens.now in
    let no_while : is classes.While (first s.rest) ≡ false = search rules in
    let no_repeat : is classes.Repeat (first s.rest) ≡ false = search rules in
    let no_forever : is classes.Forever (first s.rest) ≡ false = search rules in
    let no_for : is classes.For (first s.rest) ≡ false = search rules in
    subst (λ o. Reads o c.jump_or_other.result c.jump_or_other.new.tokens) (sym (passed (is classes.While) _ _ s no_while ∙ passed (is classes.Repeat) _ _ s no_repeat ∙ passed (is classes.Forever) _ _ s no_forever ∙ passed (is classes.For) _ _ s no_for)) c.jump_or_other.ensures

pub else_parts-returns-then-not-sees : goal.else_parts-returns-then-not-sees
else_parts-returns-then-not-sees t c = branch_none (is classes.Else) (else_part c.args.depth (statement c.args.depth)) sort _ _ _ _ _ c.loop-turn-test.true c.loop-turn.invariant (search rules)

pub else_parts-returns-in_err-part : goal.else_parts-returns-in_err-part
else_parts-returns-in_err-part t c =
    let e = branch_failed (is classes.Else) (else_part c.args.depth (statement c.args.depth)) sort _ _ _ _ _ c.in_err-part.field-0.0 c.loop-turn-test.true c.loop-turn.invariant (search rules) in
    first_of (search rules, grind (arith, common_steps))

pub else_parts-returns-in-Else : goal.else_parts-returns-in-Else
else_parts-returns-in-Else t c =
    let e = branch_last (is classes.Else) (else_part c.args.depth (statement c.args.depth)) sort _ _ _ _ _ c.in_ok-part.field-0 c.in-Else.part c.else_part.new.tokens c.loop-turn-test.true c.loop-turn.invariant (search rules) (search rules) (ap sort c.in-Else.is) in
    first_of (search rules, grind (arith, common_steps))

pub else_parts-loop-turn-preserved : goal.else_parts-loop-turn-preserved
else_parts-loop-turn-preserved t c =
    branch_next (is classes.Else) (else_part c.args.depth (statement c.args.depth)) sort _ _ _ _ _ c.in_ok-part.field-0 c.in-ElseIf.part c.else_part.new.tokens _ c.loop-turn-test.true c.loop-turn.invariant (search rules) (search rules) (ap sort c.in-ElseIf.is) (search rules)

pub else_parts-returns : goal.else_parts-returns
else_parts-returns t c = branch_over (is classes.Else) (else_part c.args.depth (statement c.args.depth)) sort _ _ _ _ _ (search rules) c.loop-turn.invariant

-- The parser of statements is exact at each number of levels.
use Rattle.std.proofs.Common.{ℕ, zero, suc, Bool, Option, None, refl, arith}
use Rattle.dpi_grammar.specs.Parser.{is_there, refuse, level}
use Rattle.dpi_grammar.specs.Choices.{choose}
use Rattle.dpi_grammar.proofs.Rules.{Rule, never, Inside, told_as, dead}
use Rattle.dpi_grammar.proofs.Many.{Apart, put_apart}
use Rattle.dpi_grammar.proofs.Choices.{Enters, Off, starts_off, choice, choice_deeper}
use Rattle.dpi_grammar.proofs.Firsts.{or_apart}
use Rattle.dpi_lex.specs.Words.{Word}
use Rattle.sv_tree.specs.declared.class.Class.TheVariants as classes
use Rattle.sv_tree.specs.declared.statements.Stmt.{Stmt}
use Rattle.sv_tree.specs.declared.statements.Stmt.TheVariants as stmts
use Rattle.sv_tree.specs.Classes.{word_of, is_class, is}
use Rattle.sv_tree.specs.Kinds.{show_of}
use Rattle.sv_tree.proofs.ClassLemmas.{knows}
use Rattle.sv_cursor.specs.Reading.{Parses}
use Rattle.sv_cursor.proofs.Tokens.{apart_by}
use Rattle.sv_expr.proofs.Alternatives.{lively}
use Rattle.sv_stmt.specs.Front.{begins_show, begins_statement}
use Rattle.sv_stmt.specs.ReadingStatements as spec
use Rattle.sv_stmt.proofs.Goes.{a_stmt}
use Rattle.sv_stmt.proofs.Fronts.{by_class, off_by, keyword_front, at_depth}
use Rattle.sv_stmt.proofs.PlainRules.{a_semicolon, in_return, in_disable, in_finish, empty_rule, break_rule, continue_rule, return_rule, disable_rule, finish_rule, show_rule, show_front, a_void, void_rule}
use Rattle.sv_stmt.proofs.NamedRules.{a_named, named_of, named_rule, named_front}
use Rattle.sv_stmt.proofs.ItemRules.{NestedGood}
use Rattle.sv_stmt.proofs.BranchForms.{an_if_stmt, if_of}
use Rattle.sv_stmt.proofs.BranchRules.{if_rule}
use Rattle.sv_stmt.proofs.LoopRules.{while_rule, repeat_rule, forever_rule, for_rule, case_rule}
use Rattle.sv_stmt.proofs.BlockRules.{block_rule, statements_by_rule}
use Rattle.sv_stmt.proofs.StmtFronts.{a_block_stmt, block_of, a_case, case_of, a_guarded, a_forever, a_for, for_of, some_statements, from_begin, is_from_begin, from_begin_front, from_if, is_from_if, from_if_front, from_case, is_from_case, from_case_front, from_while, is_from_while, from_while_front, from_repeat, is_from_repeat, from_repeat_front, from_forever, is_from_forever, from_forever_front, from_for, is_from_for, from_for_front, from_return, is_from_return, from_return_front, from_break, is_from_break, from_break_front, from_continue, is_from_continue, from_continue_front, from_disable, is_from_disable, from_disable_front, from_finish, is_from_finish, from_finish_front, from_show, is_from_show, from_show_front, from_void, is_from_void, from_void_front, of_begin, of_if, of_case, of_while, of_repeat, of_forever, of_for, of_return, of_break, of_continue, of_disable, of_finish, of_show, of_void}
use Rattle.sv_stmt.proofs.StmtForms.{stmt_of, stmt_of_told, stmt_of_grabs, stmt_all, stmt_starts, stmt_viable}

-- no statement is read
no_statement : ℕ × Parses Stmt
no_statement = (0, refuse)

-- A parser that isn't live reads nothing.
no_good : (m : ℕ) → NestedGood ⊥ m no_statement
no_good m = (λ l. absurd l, dead (stmt_viable m))

-- ---- the alternatives, from the last one on

-- "void" ..
abbrev read_void : ℕ → spec.Nested → Parses Stmt
read_void d inner = choose (is classes.Void) (level inner (λ e. spec.void_by e.0)) (spec.named d)

void_enters : Enters NestedGood (is classes.Void) (word_of classes.Void) a_void (λ p. stmts.Void p.0 p.1.0) (λ e. spec.void_by e.0)
void_enters = record {
  rule = λ live m e good. at_depth spec.void_by e.0 good.0 void_rule;
  some = no_statement;
  dead = no_good;
  knows = knows classes.Void refl;
  starts = λ n x r h. refl;
}

from_void_rule : (d : ℕ) (inner : spec.Nested) → Inside NestedGood d inner → Rule (Unit {0}) never from_void of_void d (read_void d inner)
unfolding is_class
from_void_rule d inner h =
    choice_deeper NestedGood (is classes.Void) (word_of classes.Void) a_void (λ p. stmts.Void p.0 p.1.0) (λ e. spec.void_by e.0) void_enters a_named (λ p. named_of p.0 p.1) (off_by classes.Void (is_class classes.Name) a_named named_front refl) refl inner h
    (named_rule 0).closes (named_rule d)

-- "$display" .. | "$write" ..
abbrev read_show : ℕ → spec.Nested → Parses Stmt
read_show d inner = choose begins_show (spec.show d) (read_void d inner)

show_off : Off begins_show from_void
unfolding is_class
show_off = starts_off (by_class is_from_void) begins_show from_void from_void_front
    (or_apart (is classes.Void) (is classes.Name) begins_show (apart_by classes.Void (λ c. is_there (show_of c)) refl) (apart_by classes.Name (λ c. is_there (show_of c)) refl))

from_show_rule : (d : ℕ) (inner : spec.Nested) → Inside NestedGood d inner → Rule (Unit {0}) never from_show of_show d (read_show d inner)
unfolding is_class
from_show_rule d inner h = choice begins_show show_front show_off (show_rule d) (from_void_rule d inner h)

-- "$finish" ..
from_finish_rule : (d : ℕ) (inner : spec.Nested) → Inside NestedGood d inner → Rule (Unit {0}) never from_finish of_finish d (spec.task_or_named d inner)
unfolding spec.task_or_named is_class
from_finish_rule d inner h = choice (is classes.Finish) (keyword_front classes.Finish in_finish refl) (off_by classes.Finish is_from_show from_show from_show_front refl) finish_rule (from_show_rule d inner h)

-- "disable" ..
abbrev read_disable : ℕ → spec.Nested → Parses Stmt
read_disable d inner = choose (is classes.Disable) spec.disable_statement (spec.task_or_named d inner)

from_disable_rule : (d : ℕ) (inner : spec.Nested) → Inside NestedGood d inner → Rule (Unit {0}) never from_disable of_disable d (read_disable d inner)
unfolding is_class
from_disable_rule d inner h = choice (is classes.Disable) (keyword_front classes.Disable in_disable refl) (off_by classes.Disable is_from_finish from_finish from_finish_front refl) disable_rule (from_finish_rule d inner h)

-- "continue" ";"
abbrev read_continue : ℕ → spec.Nested → Parses Stmt
read_continue d inner = choose (is classes.Continue) spec.continue_statement (read_disable d inner)

from_continue_rule : (d : ℕ) (inner : spec.Nested) → Inside NestedGood d inner → Rule (Unit {0}) never from_continue of_continue d (read_continue d inner)
unfolding is_class
from_continue_rule d inner h = choice (is classes.Continue) (keyword_front classes.Continue a_semicolon refl) (off_by classes.Continue is_from_disable from_disable from_disable_front refl) continue_rule (from_disable_rule d inner h)

-- "break" ";"
abbrev read_break : ℕ → spec.Nested → Parses Stmt
read_break d inner = choose (is classes.Break) spec.break_statement (read_continue d inner)

from_break_rule : (d : ℕ) (inner : spec.Nested) → Inside NestedGood d inner → Rule (Unit {0}) never from_break of_break d (read_break d inner)
unfolding is_class
from_break_rule d inner h = choice (is classes.Break) (keyword_front classes.Break a_semicolon refl) (off_by classes.Break is_from_continue from_continue from_continue_front refl) break_rule (from_continue_rule d inner h)

-- "return" ..
from_return_rule : (d : ℕ) (inner : spec.Nested) → Inside NestedGood d inner → Rule (Unit {0}) never from_return of_return d (spec.jump_or_other d inner)
unfolding spec.jump_or_other is_class
from_return_rule d inner h = choice (is classes.Return) (keyword_front classes.Return in_return refl) (off_by classes.Return is_from_break from_break from_break_front refl) (return_rule d) (from_break_rule d inner h)

-- "for" ..
abbrev read_for : ℕ → spec.Nested → Parses Stmt
read_for d inner = choose (is classes.For) (level inner (λ e. spec.for_by e.0 e.1)) (spec.jump_or_other d inner)

for_enters : Enters NestedGood (is classes.For) (word_of classes.For) a_for for_of (λ e. spec.for_by e.0 e.1)
for_enters = record {
  rule = λ live m e good. for_rule m e good;
  some = no_statement;
  dead = no_good;
  knows = knows classes.For refl;
  starts = λ n x r h. refl;
}

from_for_rule : (d : ℕ) (inner : spec.Nested) → Inside NestedGood d inner → Rule (Unit {0}) never from_for of_for d (read_for d inner)
unfolding is_class
from_for_rule d inner h =
    choice_deeper NestedGood (is classes.For) (word_of classes.For) a_for for_of (λ e. spec.for_by e.0 e.1) for_enters from_return of_return (off_by classes.For is_from_return from_return from_return_front refl) refl inner h
    (from_return_rule 0 None refl).closes (from_return_rule d inner h)

-- "forever" ..
abbrev read_forever : ℕ → spec.Nested → Parses Stmt
read_forever d inner = choose (is classes.Forever) (level inner (λ e. spec.forever_by e.0 e.1)) (read_for d inner)

forever_enters : Enters NestedGood (is classes.Forever) (word_of classes.Forever) a_forever (λ p. stmts.Forever p.0 p.1) (λ e. spec.forever_by e.0 e.1)
forever_enters = record {
  rule = λ live m e good. forever_rule m e good;
  some = no_statement;
  dead = no_good;
  knows = knows classes.Forever refl;
  starts = λ n x r h. refl;
}

from_forever_rule : (d : ℕ) (inner : spec.Nested) → Inside NestedGood d inner → Rule (Unit {0}) never from_forever of_forever d (read_forever d inner)
unfolding is_class
from_forever_rule d inner h =
    choice_deeper NestedGood (is classes.Forever) (word_of classes.Forever) a_forever (λ p. stmts.Forever p.0 p.1) (λ e. spec.forever_by e.0 e.1) forever_enters from_for of_for (off_by classes.Forever is_from_for from_for from_for_front refl) refl inner h
    (from_for_rule 0 None refl).closes (from_for_rule d inner h)

-- "repeat" ..
abbrev read_repeat : ℕ → spec.Nested → Parses Stmt
read_repeat d inner = choose (is classes.Repeat) (level inner (λ e. spec.repeat_by e.0 e.1)) (read_forever d inner)

repeat_enters : Enters NestedGood (is classes.Repeat) (word_of classes.Repeat) (a_guarded classes.Repeat) (λ p. stmts.Repeat p.0 p.1.0 p.1.1) (λ e. spec.repeat_by e.0 e.1)
repeat_enters = record {
  rule = λ live m e good. repeat_rule m e good;
  some = no_statement;
  dead = no_good;
  knows = knows classes.Repeat refl;
  starts = λ n x r h. refl;
}

from_repeat_rule : (d : ℕ) (inner : spec.Nested) → Inside NestedGood d inner → Rule (Unit {0}) never from_repeat of_repeat d (read_repeat d inner)
unfolding is_class
from_repeat_rule d inner h =
    choice_deeper NestedGood (is classes.Repeat) (word_of classes.Repeat) (a_guarded classes.Repeat) (λ p. stmts.Repeat p.0 p.1.0 p.1.1) (λ e. spec.repeat_by e.0 e.1) repeat_enters from_forever of_forever (off_by classes.Repeat is_from_forever from_forever from_forever_front refl) refl inner h
    (from_forever_rule 0 None refl).closes (from_forever_rule d inner h)

-- "while" ..
while_enters : Enters NestedGood (is classes.While) (word_of classes.While) (a_guarded classes.While) (λ p. stmts.While p.0 p.1.0 p.1.1) (λ e. spec.while_by e.0 e.1)
while_enters = record {
  rule = λ live m e good. while_rule m e good;
  some = no_statement;
  dead = no_good;
  knows = knows classes.While refl;
  starts = λ n x r h. refl;
}

from_while_rule : (d : ℕ) (inner : spec.Nested) → Inside NestedGood d inner → Rule (Unit {0}) never from_while of_while d (spec.loop_or_other d inner)
unfolding spec.loop_or_other is_class
from_while_rule d inner h =
    choice_deeper NestedGood (is classes.While) (word_of classes.While) (a_guarded classes.While) (λ p. stmts.While p.0 p.1.0 p.1.1) (λ e. spec.while_by e.0 e.1) while_enters from_repeat of_repeat (off_by classes.While is_from_repeat from_repeat from_repeat_front refl) refl inner h
    (from_repeat_rule 0 None refl).closes (from_repeat_rule d inner h)

-- "case" .. "endcase"
abbrev read_case : ℕ → spec.Nested → Parses Stmt
read_case d inner = choose (is classes.Case) (level inner (λ e. spec.case_by e.0 e.1)) (spec.loop_or_other d inner)

case_enters : Enters NestedGood (is classes.Case) (word_of classes.Case) a_case case_of (λ e. spec.case_by e.0 e.1)
case_enters = record {
  rule = λ live m e good. case_rule m e good;
  some = no_statement;
  dead = no_good;
  knows = knows classes.Case refl;
  starts = λ n x r h. refl;
}

from_case_rule : (d : ℕ) (inner : spec.Nested) → Inside NestedGood d inner → Rule (Unit {0}) never from_case of_case d (read_case d inner)
unfolding is_class
from_case_rule d inner h =
    choice_deeper NestedGood (is classes.Case) (word_of classes.Case) a_case case_of (λ e. spec.case_by e.0 e.1) case_enters from_while of_while (off_by classes.Case is_from_while from_while from_while_front refl) refl inner h
    (from_while_rule 0 None refl).closes (from_while_rule d inner h)

-- "if" ..
abbrev read_if : ℕ → spec.Nested → Parses Stmt
read_if d inner = choose (is classes.If) (level inner (λ e. spec.if_by e.0 e.1)) (read_case d inner)

if_enters : Enters NestedGood (is classes.If) (word_of classes.If) an_if_stmt if_of (λ e. spec.if_by e.0 e.1)
if_enters = record {
  rule = λ live m e good. if_rule m e good;
  some = no_statement;
  dead = no_good;
  knows = knows classes.If refl;
  starts = λ n x r h. refl;
}

from_if_rule : (d : ℕ) (inner : spec.Nested) → Inside NestedGood d inner → Rule (Unit {0}) never from_if of_if d (read_if d inner)
unfolding is_class
from_if_rule d inner h =
    choice_deeper NestedGood (is classes.If) (word_of classes.If) an_if_stmt if_of (λ e. spec.if_by e.0 e.1) if_enters from_case of_case (off_by classes.If is_from_case from_case from_case_front refl) refl inner h
    (from_case_rule 0 None refl).closes (from_case_rule d inner h)

-- "begin" .. "end"
abbrev read_begin : ℕ → spec.Nested → Parses Stmt
read_begin d inner = choose (is classes.Begin) (level inner (λ e. spec.block_by e.0 e.1)) (read_if d inner)

begin_enters : Enters NestedGood (is classes.Begin) (word_of classes.Begin) a_block_stmt block_of (λ e. spec.block_by e.0 e.1)
begin_enters = record {
  rule = λ live m e good. block_rule m e good;
  some = no_statement;
  dead = no_good;
  knows = knows classes.Begin refl;
  starts = λ n x r h. refl;
}

from_begin_rule : (d : ℕ) (inner : spec.Nested) → Inside NestedGood d inner → Rule (Unit {0}) never from_begin of_begin d (read_begin d inner)
unfolding is_class
from_begin_rule d inner h =
    choice_deeper NestedGood (is classes.Begin) (word_of classes.Begin) a_block_stmt block_of (λ e. spec.block_by e.0 e.1) begin_enters from_if of_if (off_by classes.Begin is_from_if from_if from_if_front refl) refl inner h
    (from_if_rule 0 None refl).closes (from_if_rule d inner h)

-- ---- statements

-- where what is read one level further in is exact
level_rule : (d : ℕ) (inner : spec.Nested) → Inside NestedGood d inner → Rule (Unit {0}) never a_stmt (λ x. x) d (spec.statement_in d inner)
unfolding spec.statement_in is_class
level_rule d inner h =
    told_as a_stmt stmt_of (λ x. x) stmt_of_told stmt_of_grabs stmt_all
    (choice (is classes.Semicolon) (λ n x r h. (knows classes.Semicolon refl).yes) (off_by classes.Semicolon is_from_begin from_begin from_begin_front refl) empty_rule (from_begin_rule d inner h))

-- what reads a statement inside is exact
pub nested_good : (d : ℕ) → Inside NestedGood d (spec.nested d)
nested_good zero = refl
nested_good (suc d) = (d, omega arith, (λ l. refl, level_rule d (spec.nested d) (nested_good d)))

-- stmt, behind something that goes on with none
pub stmt_rule : {live : Type 0} {before : Option Word → Bool} (d : ℕ) → Apart begins_statement before → Rule live before a_stmt (λ x. x) d (spec.statement d)
stmt_rule {before = before} d apart = put_apart begins_statement before stmt_starts apart (lively (level_rule d (spec.nested d) (nested_good d)))

-- stmt*
pub statements_rule : {live : Type 0} (prior : Option Word → Bool) (d : ℕ) → Apart begins_statement prior → Rule live prior (some_statements prior) (λ xs. xs) d (spec.statements d)
statements_rule prior d apart = statements_by_rule prior d apart (stmt_rule d (λ t e. refl))

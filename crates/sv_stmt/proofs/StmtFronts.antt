-- The kinds of statements, in the order in which their first tokens are tested.
use Rattle.std.proofs.Common.{ℕ, Bool, ◌||◌, ◌⊎◌, List, Option, refl}
use Rattle.dpi_grammar.specs.Parser.{is_there}
use Rattle.dpi_grammar.proofs.Exact.{Kind, pair}
use Rattle.dpi_grammar.proofs.Forms.{within}
use Rattle.dpi_grammar.proofs.Rules.{never, behind, one}
use Rattle.dpi_grammar.proofs.Many.{list}
use Rattle.dpi_grammar.proofs.Choices.{sum, either}
use Rattle.dpi_lex.specs.Words.{Word}
use Rattle.sv_tree.specs.declared.class.Class.{Class}
use Rattle.sv_tree.specs.declared.class.Class.TheVariants as classes
use Rattle.sv_tree.specs.declared.kinds.ShowKind.{ShowKind}
use Rattle.sv_tree.specs.declared.leaves.Name.{Name}
use Rattle.sv_tree.specs.declared.leaves.Number.{Number}
use Rattle.sv_tree.specs.declared.expr.Expr.{Expr}
use Rattle.sv_tree.specs.declared.expr.Call.{Call}
use Rattle.sv_tree.specs.declared.statements.Label.{Label}
use Rattle.sv_tree.specs.declared.statements.Variables.{Variables}
use Rattle.sv_tree.specs.declared.statements.Change.{Change}
use Rattle.sv_tree.specs.declared.statements.Start.{Start}
use Rattle.sv_tree.specs.declared.statements.Stmt.{Stmt}
use Rattle.sv_tree.specs.declared.statements.Stmt.TheVariants as stmts
use Rattle.sv_tree.specs.declared.statements.CaseItem.{CaseItem}
use Rattle.sv_tree.specs.declared.statements.Else.{Else}
use Rattle.sv_tree.specs.declared.statements.ElseIf.{ElseIf}
use Rattle.sv_tree.specs.Classes.{word_of, is_class}
use Rattle.sv_tree.specs.Kinds.{show_of}
use Rattle.sv_cursor.proofs.LeafRules.{a_label_or_none}
use Rattle.sv_expr.proofs.Goes.{an_expr}
use Rattle.sv_stmt.specs.Front.{begins_statement}
use Rattle.sv_stmt.proofs.Trees.{block}
use Rattle.sv_stmt.proofs.Goes.{a_stmt}
use Rattle.sv_stmt.proofs.Fronts.{Fronts, keyword, keyword_front, sum_fronts}
use Rattle.sv_stmt.proofs.VariableRules.{some_variables}
use Rattle.sv_stmt.proofs.ChangeRules.{a_change, a_start}
use Rattle.sv_stmt.proofs.PlainRules.{shown_of, in_return, in_disable, in_finish, in_void, a_semicolon, a_lone, a_return, a_disable, a_finish, ShowTail, a_show, show_front, a_void}
use Rattle.sv_stmt.proofs.NamedRules.{named_of, NamedTail, a_named, named_front}
use Rattle.sv_stmt.proofs.ItemRules.{a_condition, some_items}
use Rattle.sv_stmt.proofs.BranchForms.{in_if, an_if_stmt, if_of}

-- ---- kinds

-- statements behind something that goes on with none
abbrev pub some_statements : (Option Word → Bool) → Kind Word (List Stmt)
some_statements prior = list begins_statement a_stmt prior

-- what stands behind some declarations
abbrev pub behind_variables : (Option Word → Bool) → Kind Word (List Stmt × Option Label)
behind_variables prior = pair (some_statements prior) (λ _. behind (word_of classes.End) (a_label_or_none never))

-- label? variables* stmt* "end" label?
abbrev pub in_block : Kind Word (Option Label × (List Variables × (List Stmt × Option Label)))
in_block = pair (a_label_or_none never) (λ l. pair (some_variables ((a_label_or_none never).grabs l)) (λ vs. behind_variables ((some_variables ((a_label_or_none never).grabs l)).grabs vs)))

-- a block, with the number of its `begin`
abbrev pub Blocked : Type 0
Blocked = ℕ × (Option Label × (List Variables × (List Stmt × Option Label)))

abbrev pub a_block_stmt : Kind Word Blocked
a_block_stmt = keyword classes.Begin in_block

abbrev pub block_of : Blocked → Stmt
block_of p = stmts.Block (block p.0 p.1.0 p.1.1.0 p.1.1.1.0 p.1.1.1.1)

-- a `case`, with the number of its first token
abbrev pub Cased : Type 0
Cased = ℕ × (Expr × (List CaseItem × Unit {0}))

-- "(" expr ")" item+ "endcase"
abbrev pub in_case : Kind Word (Expr × (List CaseItem × Unit {0}))
in_case = pair a_condition (λ _. pair some_items (λ _. one (word_of classes.EndCase)))

abbrev pub a_case : Kind Word Cased
a_case = keyword classes.Case in_case

abbrev pub case_of : Cased → Stmt
case_of p = stmts.Case p.0 p.1.0 p.1.1.0

-- a word, a condition and a statement
abbrev pub Guarded : Type 0
Guarded = ℕ × (Expr × Stmt)

-- "(" expr ")" stmt
abbrev pub in_guarded : Kind Word (Expr × Stmt)
in_guarded = pair a_condition (λ _. a_stmt)

abbrev pub a_guarded : Class → Kind Word Guarded
a_guarded c = keyword c in_guarded

-- "forever" stmt
abbrev pub a_forever : Kind Word (ℕ × Stmt)
a_forever = keyword classes.Forever a_stmt

-- a `for`, with the number of its first token
abbrev pub Counted : Type 0
Counted = ℕ × (Start × (Expr × (Change × Stmt)))

-- start ";" expr ";" change ")" stmt
abbrev pub in_for : Kind Word (Start × (Expr × (Change × Stmt)))
in_for = pair a_start (λ _. behind (word_of classes.Semicolon) (pair an_expr (λ _. behind (word_of classes.Semicolon) (pair a_change (λ _. behind (word_of classes.CloseParen) a_stmt)))))

-- "(" start ";" expr ";" change ")" stmt
abbrev pub behind_for : Kind Word (Start × (Expr × (Change × Stmt)))
behind_for = behind (word_of classes.OpenParen) in_for

abbrev pub a_for : Kind Word Counted
a_for = keyword classes.For behind_for

abbrev pub for_of : Counted → Stmt
for_of p = stmts.For p.0 p.1.0 p.1.1.0 p.1.1.1.0 p.1.1.1.1

-- an `if`, with the number of its first token, and the parts behind its statement
abbrev pub Branched : Type 0
Branched = ℕ × (Expr × (Stmt × (List ElseIf × Option Else)))

-- ---- each with those that are tested after it

-- "void" .., or what is tested after it
abbrev pub FromVoid : Type 0
FromVoid = (ℕ × (Call × Unit {0})) ⊎ (Name × NamedTail)

abbrev pub from_void : Kind Word FromVoid
from_void = sum (within a_void) a_named

abbrev pub of_void : FromVoid → Stmt
of_void = either (λ p. stmts.Void p.0 p.1.0) (λ p. named_of p.0 p.1)

abbrev pub is_from_void : Option Class → Bool
is_from_void c = is_class classes.Void c || is_class classes.Name c

pub from_void_front : Fronts is_from_void from_void
from_void_front = sum_fronts (is_class classes.Void) (is_class classes.Name) (within a_void) a_named (keyword_front classes.Void in_void refl) named_front

-- "$display" .. | "$write" .., or what is tested after it
abbrev pub FromShow : Type 0
FromShow = (ℕ × (ShowKind × ShowTail)) ⊎ FromVoid

abbrev pub from_show : Kind Word FromShow
from_show = sum a_show from_void

abbrev pub of_show : FromShow → Stmt
of_show = either (λ p. shown_of p.0 p.1.0 p.1.1) of_void

abbrev pub is_from_show : Option Class → Bool
is_from_show c = is_there (show_of c) || is_from_void c

pub from_show_front : Fronts is_from_show from_show
from_show_front = sum_fronts (λ c. is_there (show_of c)) is_from_void a_show from_void show_front from_void_front

-- "$finish" .., or what is tested after it
abbrev pub FromFinish : Type 0
FromFinish = (ℕ × (Option Number × Unit {0})) ⊎ FromShow

abbrev pub from_finish : Kind Word FromFinish
from_finish = sum a_finish from_show

abbrev pub of_finish : FromFinish → Stmt
of_finish = either (λ p. stmts.Finish p.0 p.1.0) of_show

abbrev pub is_from_finish : Option Class → Bool
is_from_finish c = is_class classes.Finish c || is_from_show c

pub from_finish_front : Fronts is_from_finish from_finish
from_finish_front = sum_fronts (is_class classes.Finish) is_from_show a_finish from_show (keyword_front classes.Finish in_finish refl) from_show_front

-- "disable" .., or what is tested after it
abbrev pub FromDisable : Type 0
FromDisable = (ℕ × (Name × Unit {0})) ⊎ FromFinish

abbrev pub from_disable : Kind Word FromDisable
from_disable = sum a_disable from_finish

abbrev pub of_disable : FromDisable → Stmt
of_disable = either (λ p. stmts.Disable p.0 p.1.0) of_finish

abbrev pub is_from_disable : Option Class → Bool
is_from_disable c = is_class classes.Disable c || is_from_finish c

pub from_disable_front : Fronts is_from_disable from_disable
from_disable_front = sum_fronts (is_class classes.Disable) is_from_finish a_disable from_finish (keyword_front classes.Disable in_disable refl) from_finish_front

-- "continue" ";", or what is tested after it
abbrev pub FromContinue : Type 0
FromContinue = (ℕ × Unit {0}) ⊎ FromDisable

abbrev pub from_continue : Kind Word FromContinue
from_continue = sum (a_lone classes.Continue) from_disable

abbrev pub of_continue : FromContinue → Stmt
of_continue = either (λ p. stmts.Continue p.0) of_disable

abbrev pub is_from_continue : Option Class → Bool
is_from_continue c = is_class classes.Continue c || is_from_disable c

pub from_continue_front : Fronts is_from_continue from_continue
from_continue_front = sum_fronts (is_class classes.Continue) is_from_disable (a_lone classes.Continue) from_disable (keyword_front classes.Continue a_semicolon refl) from_disable_front

-- "break" ";", or what is tested after it
abbrev pub FromBreak : Type 0
FromBreak = (ℕ × Unit {0}) ⊎ FromContinue

abbrev pub from_break : Kind Word FromBreak
from_break = sum (a_lone classes.Break) from_continue

abbrev pub of_break : FromBreak → Stmt
of_break = either (λ p. stmts.Break p.0) of_continue

abbrev pub is_from_break : Option Class → Bool
is_from_break c = is_class classes.Break c || is_from_continue c

pub from_break_front : Fronts is_from_break from_break
from_break_front = sum_fronts (is_class classes.Break) is_from_continue (a_lone classes.Break) from_continue (keyword_front classes.Break a_semicolon refl) from_continue_front

-- "return" .., or what is tested after it
abbrev pub FromReturn : Type 0
FromReturn = (ℕ × (Option Expr × Unit {0})) ⊎ FromBreak

abbrev pub from_return : Kind Word FromReturn
from_return = sum a_return from_break

abbrev pub of_return : FromReturn → Stmt
of_return = either (λ p. stmts.Return p.0 p.1.0) of_break

abbrev pub is_from_return : Option Class → Bool
is_from_return c = is_class classes.Return c || is_from_break c

pub from_return_front : Fronts is_from_return from_return
from_return_front = sum_fronts (is_class classes.Return) is_from_break a_return from_break (keyword_front classes.Return in_return refl) from_break_front

-- "for" .., or what is tested after it
abbrev pub FromFor : Type 0
FromFor = Counted ⊎ FromReturn

abbrev pub from_for : Kind Word FromFor
from_for = sum (within a_for) from_return

abbrev pub of_for : FromFor → Stmt
of_for = either for_of of_return

abbrev pub is_from_for : Option Class → Bool
is_from_for c = is_class classes.For c || is_from_return c

pub from_for_front : Fronts is_from_for from_for
from_for_front = sum_fronts (is_class classes.For) is_from_return (within a_for) from_return (keyword_front classes.For behind_for refl) from_return_front

-- "forever" .., or what is tested after it
abbrev pub FromForever : Type 0
FromForever = (ℕ × Stmt) ⊎ FromFor

abbrev pub from_forever : Kind Word FromForever
from_forever = sum (within a_forever) from_for

abbrev pub of_forever : FromForever → Stmt
of_forever = either (λ p. stmts.Forever p.0 p.1) of_for

abbrev pub is_from_forever : Option Class → Bool
is_from_forever c = is_class classes.Forever c || is_from_for c

pub from_forever_front : Fronts is_from_forever from_forever
from_forever_front = sum_fronts (is_class classes.Forever) is_from_for (within a_forever) from_for (keyword_front classes.Forever a_stmt refl) from_for_front

-- "repeat" .., or what is tested after it
abbrev pub FromRepeat : Type 0
FromRepeat = Guarded ⊎ FromForever

abbrev pub from_repeat : Kind Word FromRepeat
from_repeat = sum (within (a_guarded classes.Repeat)) from_forever

abbrev pub of_repeat : FromRepeat → Stmt
of_repeat = either (λ p. stmts.Repeat p.0 p.1.0 p.1.1) of_forever

abbrev pub is_from_repeat : Option Class → Bool
is_from_repeat c = is_class classes.Repeat c || is_from_forever c

pub from_repeat_front : Fronts is_from_repeat from_repeat
from_repeat_front = sum_fronts (is_class classes.Repeat) is_from_forever (within (a_guarded classes.Repeat)) from_forever (keyword_front classes.Repeat in_guarded refl) from_forever_front

-- "while" .., or what is tested after it
abbrev pub FromWhile : Type 0
FromWhile = Guarded ⊎ FromRepeat

abbrev pub from_while : Kind Word FromWhile
from_while = sum (within (a_guarded classes.While)) from_repeat

abbrev pub of_while : FromWhile → Stmt
of_while = either (λ p. stmts.While p.0 p.1.0 p.1.1) of_repeat

abbrev pub is_from_while : Option Class → Bool
is_from_while c = is_class classes.While c || is_from_repeat c

pub from_while_front : Fronts is_from_while from_while
from_while_front = sum_fronts (is_class classes.While) is_from_repeat (within (a_guarded classes.While)) from_repeat (keyword_front classes.While in_guarded refl) from_repeat_front

-- "case" .. "endcase", or what is tested after it
abbrev pub FromCase : Type 0
FromCase = Cased ⊎ FromWhile

abbrev pub from_case : Kind Word FromCase
from_case = sum (within a_case) from_while

abbrev pub of_case : FromCase → Stmt
of_case = either case_of of_while

abbrev pub is_from_case : Option Class → Bool
is_from_case c = is_class classes.Case c || is_from_while c

pub from_case_front : Fronts is_from_case from_case
from_case_front = sum_fronts (is_class classes.Case) is_from_while (within a_case) from_while (keyword_front classes.Case in_case refl) from_while_front

-- "if" .., or what is tested after it
abbrev pub FromIf : Type 0
FromIf = Branched ⊎ FromCase

abbrev pub from_if : Kind Word FromIf
from_if = sum (within an_if_stmt) from_case

abbrev pub of_if : FromIf → Stmt
of_if = either if_of of_case

abbrev pub is_from_if : Option Class → Bool
is_from_if c = is_class classes.If c || is_from_case c

pub from_if_front : Fronts is_from_if from_if
from_if_front = sum_fronts (is_class classes.If) is_from_case (within an_if_stmt) from_case (keyword_front classes.If in_if refl) from_case_front

-- "begin" .. "end", or what is tested after it
abbrev pub FromBegin : Type 0
FromBegin = Blocked ⊎ FromIf

abbrev pub from_begin : Kind Word FromBegin
from_begin = sum (within a_block_stmt) from_if

abbrev pub of_begin : FromBegin → Stmt
of_begin = either block_of of_if

abbrev pub is_from_begin : Option Class → Bool
is_from_begin c = is_class classes.Begin c || is_from_if c

pub from_begin_front : Fronts is_from_begin from_begin
from_begin_front = sum_fronts (is_class classes.Begin) is_from_if (within a_block_stmt) from_if (keyword_front classes.Begin in_block refl) from_if_front

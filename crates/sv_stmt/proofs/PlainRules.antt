-- The parsers of statements that hold no other statement, and begin with a word of their own, are exact.
use Rattle.std.proofs.Common.{◌≡◌, ℕ, Bool, false, ◌⊎◌, List, [], Option, Some, None, Ok, refl, ap}
use Rattle.dpi_grammar.specs.Told.{◌&◌}
use Rattle.dpi_grammar.specs.Parser.{and_then, token, expect, is_there, optional}
use Rattle.dpi_grammar.proofs.Exact.{Kind, pair}
use Rattle.dpi_grammar.proofs.Rules.{Rule, never, place, behind, seq, mapped, told_as, numbered, plain, plainly, token_then, last, one}
use Rattle.dpi_grammar.proofs.Many.{Starts, option, perhaps, or_both, behind_are}
use Rattle.dpi_grammar.proofs.Choices.{sum, either, choice, Off}
use Rattle.dpi_grammar.proofs.Firsts.{option_apart}
use Rattle.dpi_lex.specs.Words.{Word}
use Rattle.sv_tree.specs.declared.class.Class.{Class}
use Rattle.sv_tree.specs.declared.class.Class.TheVariants as classes
use Rattle.sv_tree.specs.declared.kinds.ShowKind.{ShowKind}
use Rattle.sv_tree.specs.declared.kinds.ShowKind.TheVariants as shows
use Rattle.sv_tree.specs.declared.leaves.Name.{Name}
use Rattle.sv_tree.specs.declared.leaves.Number.{Number}
use Rattle.sv_tree.specs.declared.leaves.Text.{Text}
use Rattle.sv_tree.specs.declared.expr.Expr.{Expr}
use Rattle.sv_tree.specs.declared.expr.Call.{Call}
use Rattle.sv_tree.specs.declared.statements.Format.{Format}
use Rattle.sv_tree.specs.declared.statements.Stmt.{Stmt}
use Rattle.sv_tree.specs.declared.statements.Stmt.TheVariants as stmts
use Rattle.sv_tree.specs.Classes.{word_of, class_at, is}
use Rattle.sv_tree.specs.Kinds.{show_of}
use Rattle.sv_tree.specs.Expressions.{text_told}
use Rattle.sv_tree.specs.Statements.{format_told, status_told}
use Rattle.sv_tree.proofs.ClassLemmas.{knows}
use Rattle.sv_cursor.specs.Reading.{name}
use Rattle.sv_cursor.proofs.Tokens.{apart_of, apart_by, word_is_not, text_class}
use Rattle.sv_cursor.proofs.LeafRules.{a_name, name_rule, number_rule, text_rule}
use Rattle.sv_types.proofs.Words.{value_starts}
use Rattle.sv_expr.specs.Front.{begins_expr, is_start}
use Rattle.sv_expr.specs.Reading.{expr}
use Rattle.sv_expr.proofs.Goes.{an_expr}
use Rattle.sv_expr.proofs.Starts.{expr_starts}
use Rattle.sv_expr.proofs.Frees.{expr_apart}
use Rattle.sv_expr.proofs.ExprRules.{expr_rule, more_exprs_rule, flat_call_rule}
use Rattle.sv_expr.proofs.PartRules.{more_exprs as some_more_exprs, more_stop}
use Rattle.sv_expr.proofs.PlaceRules.{a_flat_call}
use Rattle.sv_stmt.specs.ReadingStatements as spec
use Rattle.sv_stmt.proofs.Fronts.{Fronts, keyword, keyword_front, keyword_rule, at_word}
use Rattle.sv_stmt.proofs.Words.{show_word, show_reader}

-- ";"
abbrev pub a_semicolon : Kind Word (Unit {0})
a_semicolon = one (word_of classes.Semicolon)

-- what ends with `;`
pub ended_rule : {Z : Type 0} {live : Type 0} {before : Option Word → Bool} {d : ℕ} (z : Z) → before (Some (word_of classes.Semicolon)) ≡ false
    → Rule live before a_semicolon (λ _. z) d (λ s. and_then (spec.semicolon s) (λ _ s. Ok (z, s)))
ended_rule z free = last (is classes.Semicolon) (word_of classes.Semicolon) z (knows classes.Semicolon refl) free

-- ---- ";" and single words

abbrev pub an_empty : Kind Word (ℕ × Unit {0})
an_empty = pair (place never) (λ _. a_semicolon)

pub empty_rule : {live : Type 0} {d : ℕ} → Rule live never an_empty (λ p. stmts.Empty p.0) d spec.empty
unfolding spec.empty
empty_rule = numbered (λ k _. stmts.Empty k) (λ k s. and_then (spec.semicolon s) (λ _ s. Ok (stmts.Empty k, s))) (λ k. ended_rule (stmts.Empty k) refl)

abbrev pub a_lone : Class → Kind Word (ℕ × Unit {0})
a_lone c = keyword c a_semicolon

pub break_rule : {live : Type 0} {d : ℕ} → Rule live never (a_lone classes.Break) (λ p. stmts.Break p.0) d spec.break_statement
unfolding spec.break_statement
break_rule = keyword_rule classes.Break (λ k _. stmts.Break k) (λ k s. and_then (spec.semicolon s) (λ _ s. Ok (stmts.Break k, s))) refl (λ k. ended_rule (stmts.Break k) refl)

pub continue_rule : {live : Type 0} {d : ℕ} → Rule live never (a_lone classes.Continue) (λ p. stmts.Continue p.0) d spec.continue_statement
unfolding spec.continue_statement
continue_rule = keyword_rule classes.Continue (λ k _. stmts.Continue k) (λ k s. and_then (spec.semicolon s) (λ _ s. Ok (stmts.Continue k, s))) refl (λ k. ended_rule (stmts.Continue k) refl)

-- ---- "return" expr? ";"

abbrev pub a_value : Kind Word (Option Expr)
a_value = option begins_expr an_expr never

abbrev pub in_return : Kind Word (Option Expr × Unit {0})
in_return = pair a_value (λ _. a_semicolon)

abbrev pub a_return : Kind Word (ℕ × (Option Expr × Unit {0}))
a_return = keyword classes.Return in_return

value_end : (o : Option Expr) → a_value.grabs o (Some (word_of classes.Semicolon)) ≡ false
value_end o = at_word classes.Semicolon refl (a_value.grabs o)
    (option_apart (is classes.Semicolon) begins_expr never an_expr (apart_by classes.Semicolon is_start refl) (λ t e. refl) (expr_apart classes.Semicolon refl refl) o)

pub return_rule : {live : Type 0} (d : ℕ) → Rule live never a_return (λ p. stmts.Return p.0 p.1.0) d (spec.return_statement d)
unfolding spec.return_statement
return_rule d =
    keyword_rule classes.Return (λ k p. stmts.Return k p.0) (λ k s. and_then (optional begins_expr (expr d) s) (λ o s. _)) refl
    (λ k. seq (λ o. o) (λ o _. stmts.Return k o) _ (perhaps begins_expr never expr_starts (λ t e. refl) (expr_rule d (λ t e. refl)))
    (λ o. ended_rule (stmts.Return k o) (value_end o)))

-- ---- "disable" id ";"

abbrev pub in_disable : Kind Word (Name × Unit {0})
in_disable = pair a_name (λ _. a_semicolon)

abbrev pub a_disable : Kind Word (ℕ × (Name × Unit {0}))
a_disable = keyword classes.Disable in_disable

pub disable_rule : {live : Type 0} {d : ℕ} → Rule live never a_disable (λ p. stmts.Disable p.0 p.1.0) d spec.disable_statement
unfolding spec.disable_statement
disable_rule =
    keyword_rule classes.Disable (λ k p. stmts.Disable k p.0) (λ k s. and_then (name s) (λ n s. _)) refl
    (λ k. seq (λ n. n) (λ n _. stmts.Disable k n) _ (name_rule (λ t e. refl)) (λ n. ended_rule (stmts.Disable k n) refl))

-- ---- "$finish" ("(" number ")")? ";"

abbrev pub a_status : Kind Word Number
a_status = record { told = status_told; grabs = λ _. never }

status_rule : {live : Type 0} {d : ℕ} → Rule live never a_status (λ x. x) d spec.status
unfolding spec.status
status_rule =
    told_as a_status (λ (p : Number × Unit {0}). p.0) (λ x. x) (λ p. refl) (λ p t. refl) (λ n. ((n, tt), refl))
    (token_then (is classes.OpenParen) (word_of classes.OpenParen) (knows classes.OpenParen refl) refl
    (seq (λ n. n) (λ n _. n) _ (number_rule (λ t e. refl)) (λ n. last (is classes.CloseParen) (word_of classes.CloseParen) n (knows classes.CloseParen refl) refl)))

status_starts : Starts (is classes.OpenParen) a_status
status_starts n x r h = (knows classes.OpenParen refl).yes

abbrev pub a_status_or_none : Kind Word (Option Number)
a_status_or_none = option (is classes.OpenParen) a_status never

abbrev pub in_finish : Kind Word (Option Number × Unit {0})
in_finish = pair a_status_or_none (λ _. a_semicolon)

abbrev pub a_finish : Kind Word (ℕ × (Option Number × Unit {0}))
a_finish = keyword classes.Finish in_finish

status_end : (o : Option Number) → a_status_or_none.grabs o (Some (word_of classes.Semicolon)) ≡ false
status_end o = at_word classes.Semicolon refl (a_status_or_none.grabs o)
    (option_apart (is classes.Semicolon) (is classes.OpenParen) never a_status (apart_of classes.Semicolon classes.OpenParen refl) (λ t e. refl) (λ x t e. refl) o)

pub finish_rule : {live : Type 0} {d : ℕ} → Rule live never a_finish (λ p. stmts.Finish p.0 p.1.0) d spec.finish_statement
unfolding spec.finish_statement
finish_rule =
    keyword_rule classes.Finish (λ k p. stmts.Finish k p.0) (λ k s. and_then (optional (is classes.OpenParen) spec.status s) (λ o s. _)) refl
    (λ k. seq (λ o. o) (λ o _. stmts.Finish k o) _ (perhaps (is classes.OpenParen) never status_starts (λ t e. refl) status_rule) (λ o. ended_rule (stmts.Finish k o) (status_end o)))

-- ---- "$display" and "$write"

abbrev pub a_format : Kind Word Format
a_format = record { told = format_told; grabs = λ f. (some_more_exprs never).grabs f.actuals }

abbrev format_of : Text → List Expr → Format
format_of t es = record { text = t; actuals = es }

-- each behind a comma
format_tells : (t : Text) (es : List Expr) → format_told (format_of t es) ≡ text_told t & (some_more_exprs never).told es
format_tells t es = ap (λ a. text_told t & a) (behind_are (word_of classes.Comma) an_expr es)

format_rule : {live : Type 0} (d : ℕ) → Rule live never a_format (λ x. x) d (spec.format d)
unfolding spec.format
format_rule d =
    told_as a_format (λ (p : Text × List Expr). format_of p.0 p.1) (λ x. x) (λ p. format_tells p.0 p.1) (λ p t. refl) (λ f. ((f.text, f.actuals), refl))
    (seq (λ t. t) format_of _ (text_rule (λ t e. refl)) (λ t. mapped (format_of t) (more_exprs_rule never d [] (λ t e. refl))))

format_starts : Starts (is classes.Text) a_format
format_starts n f r h = text_class f.text.bytes

abbrev pub a_format_or_none : Kind Word (Option Format)
a_format_or_none = option (is classes.Text) a_format never

abbrev pub in_shown : Kind Word (Option Format × Unit {0})
in_shown = pair a_format_or_none (λ _. behind (word_of classes.CloseParen) a_semicolon)

-- "(" (string ("," expr)*)? ")" ";"
abbrev pub some_shown : Kind Word (ℕ × (Option Format × Unit {0}))
some_shown = keyword classes.OpenParen in_shown

format_end : (o : Option Format) → a_format_or_none.grabs o (Some (word_of classes.CloseParen)) ≡ false
format_end None = or_both _ _ (word_is_not classes.Text classes.CloseParen refl refl) refl
format_end (Some f) = more_stop never classes.CloseParen refl refl refl refl f.actuals

shown_rule : {live : Type 0} (d k : ℕ) (w : ShowKind) → Rule live never some_shown (λ p. stmts.ShowActuals k w p.0 p.1.0) d (spec.shown_actuals d k w)
unfolding spec.shown_actuals
shown_rule d k w =
    keyword_rule classes.OpenParen (λ o p. stmts.ShowActuals k w o p.0) (λ o s. and_then (optional (is classes.Text) (spec.format d) s) (λ f s. _)) refl
    (λ o. seq (λ f. f) (λ f _. stmts.ShowActuals k w o f) _ (perhaps (is classes.Text) never format_starts (λ t e. refl) (format_rule d))
    (λ f. token_then (is classes.CloseParen) (word_of classes.CloseParen) (knows classes.CloseParen refl) (format_end f) (ended_rule (stmts.ShowActuals k w o f) refl)))

abbrev pub ShowTail : Type 0
ShowTail = (ℕ × (Option Format × Unit {0})) ⊎ Unit {0}

abbrev pub a_show_tail : Kind Word ShowTail
a_show_tail = sum some_shown a_semicolon

abbrev pub shown_of : ℕ → ShowKind → ShowTail → Stmt
shown_of k w = either (λ p. stmts.ShowActuals k w p.0 p.1.0) (λ _. stmts.Show k w)

alone_rule : {live : Type 0} {d : ℕ} (k : ℕ) (w : ShowKind) → Rule live never a_semicolon (λ _. stmts.Show k w) d (spec.shown_alone k w)
unfolding spec.shown_alone
alone_rule k w = ended_rule (stmts.Show k w) refl

semicolon_off : (c : Class) → is c (Some (word_of classes.Semicolon)) ≡ false → Off (is c) a_semicolon
semicolon_off c other n x r h g = other

show_tail_rule : {live : Type 0} (d k : ℕ) (w : ShowKind) → Rule live never a_show_tail (shown_of k w) d (spec.show_tail d k w)
unfolding spec.show_tail
show_tail_rule d k w =
    choice (is classes.OpenParen) (keyword_front classes.OpenParen in_shown refl) (semicolon_off classes.OpenParen (word_is_not classes.OpenParen classes.Semicolon refl refl)) (shown_rule d k w) (alone_rule k w)

abbrev pub a_show : Kind Word (ℕ × (ShowKind × ShowTail))
a_show = pair (place never) (λ _. pair (plain show_word) (λ _. a_show_tail))

pub show_rule : {live : Type 0} (d : ℕ) → Rule live never a_show (λ p. shown_of p.0 p.1.0 p.1.1) d (spec.show d)
unfolding spec.show
show_rule d = numbered (λ k p. shown_of k p.0 p.1) (λ k s. and_then (token (λ t. show_of (class_at t)) s) (λ w s. spec.show_tail d k w s))
    (λ k. seq (λ w. w) (shown_of k) (λ w. spec.show_tail d k w) (plainly (λ t. show_of (class_at t)) show_word show_reader (λ w. refl) shows.Display) (λ w. show_tail_rule d k w))

pub show_front : Fronts (λ c. is_there (show_of c)) a_show
show_front n x r h = value_starts (λ t. show_of (class_at t)) show_word show_reader x.1.0

-- ---- "void" "'" "(" call ")" ";"

abbrev pub in_void : Kind Word (Call × Unit {0})
in_void = behind (word_of classes.Tick) (behind (word_of classes.OpenParen) (pair a_flat_call (λ _. behind (word_of classes.CloseParen) a_semicolon)))

abbrev pub a_void : Kind Word (ℕ × (Call × Unit {0}))
a_void = keyword classes.Void in_void

pub void_rule : {live : Type 0} (d : ℕ) → Rule live never a_void (λ p. stmts.Void p.0 p.1.0) d (spec.void_by d)
unfolding spec.void_by
void_rule d =
    keyword_rule classes.Void (λ k p. stmts.Void k p.0) (λ k s. and_then (expect (is classes.Tick) s) (λ _ s. _)) refl
    (λ k. token_then (is classes.Tick) (word_of classes.Tick) (knows classes.Tick refl) refl
    (token_then (is classes.OpenParen) (word_of classes.OpenParen) (knows classes.OpenParen refl) refl
    (seq (λ c. c) (λ c _. stmts.Void k c) _ (flat_call_rule d (λ t e. refl))
    (λ c. token_then (is classes.CloseParen) (word_of classes.CloseParen) (knows classes.CloseParen refl) refl (ended_rule (stmts.Void k c) refl)))))

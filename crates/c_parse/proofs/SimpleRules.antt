-- The parsers of statements without a statement inside are exact, and those of parts of statements.
use Rattle.std.proofs.Common.{◌≡◌, ℕ, Bool, true, false, ◌||◌, ◌&&◌, ◌⊎◌, [], ◌∷◌, Option, Some, None, Ok, refl, sym, ap, ◌∙◌, inl, inr, arith}
use Rattle.dpi_grammar.specs.Parser.{and_then, expect, refuse}
use Rattle.dpi_grammar.proofs.Exact.{Kind, pair, Viable}
use Rattle.dpi_grammar.proofs.Forms.{Form, told_form, form_viable}
use Rattle.dpi_grammar.proofs.Rules.{Rule, never, place, one, behind, dead, told_as, numbered, token_then, seq, mapped, last}
use Rattle.dpi_grammar.proofs.Many.{Starts, Apart, option, perhaps, or_both}
use Rattle.dpi_grammar.proofs.Firsts.{apart_or, option_apart, but, starts_of}
use Rattle.dpi_grammar.proofs.Choices.{either, sum}
use Rattle.dpi_grammar.proofs.Alternatives.{choice_past}
use Rattle.dpi_lex.specs.Words.{Word}
use Rattle.c_tree.specs.declared.class.Class.{Class}
use Rattle.c_tree.specs.declared.class.Class.TheVariants as classes
use Rattle.c_tree.specs.declared.expr.CExpr.{CExpr}
use Rattle.c_tree.specs.declared.declarations.Variables.{Variables}
use Rattle.c_tree.specs.declared.statements.Start.{Start}
use Rattle.c_tree.specs.declared.statements.Start.TheVariants as starts
use Rattle.c_tree.specs.declared.statements.Stmt.{Stmt, roll-Stmt}
use Rattle.c_tree.specs.declared.statements.Stmt.TheVariants as stmts
use Rattle.c_tree.specs.declared.statements.Part.TheOpen.{Stmt-F}
use Rattle.c_tree.specs.Classes.{word_of, is}
use Rattle.c_tree.specs.Leaves.{Tells}
use Rattle.c_tree.specs.Statements.{condition_told, start_told, stmt_told}
use Rattle.c_tree.proofs.ClassLemmas.{knows}
use Rattle.c_cursor.specs.Reading.{Parses}
use Rattle.c_parse.specs.declared.front.Front.TheVariants as fronts
use Rattle.c_parse.specs.Front.{begins_variables}
use Rattle.c_parse.specs.ReadingDeclarations.{variables_by}
use Rattle.c_parse.specs.ReadingStatements as spec
use Rattle.c_expr.specs.Front.{begins_expr}
use Rattle.c_expr.proofs.Goes.{an_expr}
use Rattle.c_expr.proofs.Frees.{expr_apart}
use Rattle.c_expr.proofs.Starts.{expr_starts}
use Rattle.c_expr.proofs.Shortest.{expr_viable}
use Rattle.c_parse.proofs.Goes.{some_variables, else_grabs, a_stmt, a_start}
use Rattle.c_parse.proofs.Tokens.{expr_off, expr_no_variables, variables_off}
use Rattle.c_parse.proofs.VariableRules.{no_class, stops_at}
use Rattle.c_parse.proofs.InitRules.{variables_rule}
use Rattle.c_parse.proofs.Fronts.{layer_front}
use Rattle.c_parse.proofs.Trees.{Layer, stmt_tells}

pub and_off : (a b : Bool) → b ≡ false → (a && b) ≡ false
and_off true b e = e
and_off false b e = refl

-- a statement that an `else` can't go on with
pub ended_goes : (s : Stmt) (a : Tells) → stmt_told s ≡ a → a.unended ≡ false → (t : Option Word) → a_stmt.grabs s t ≡ false
ended_goes s a e off t = ap (λ (a : Tells). else_grabs a t) e ∙ and_off (is classes.Else t) a.unended off

-- ---- parts

abbrev pub a_condition : Kind Word CExpr
a_condition = record { told = condition_told; grabs = λ _ _. false }

abbrev pub maybe_expr : (Option Word → Bool) → Kind Word (Option CExpr)
maybe_expr before = option begins_expr an_expr before

-- a word behind an expression that may be absent
pub maybe_apart : (c : Class) (before : Option Word → Bool) → Apart (is c) begins_expr → Apart (is c) before → ((e : CExpr) → Apart (is c) (an_expr.grabs e)) → (o : Option CExpr) → Apart (is c) ((maybe_expr before).grabs o)
maybe_apart c before begins free each o = option_apart (is c) begins_expr before an_expr begins free each o

pub maybe_semicolon : (before : Option Word → Bool) → Apart (is classes.Semicolon) before → (o : Option CExpr) → (maybe_expr before).grabs o (Some (word_of classes.Semicolon)) ≡ false
maybe_semicolon before free o = stops_at classes.Semicolon refl ((maybe_expr before).grabs o) (maybe_apart classes.Semicolon before (expr_off classes.Semicolon refl) free (expr_apart classes.Semicolon refl refl) o)

pub maybe_close : (o : Option CExpr) → (maybe_expr never).grabs o (Some (word_of classes.CloseParen)) ≡ false
maybe_close o = stops_at classes.CloseParen refl ((maybe_expr never).grabs o) (maybe_apart classes.CloseParen never (expr_off classes.CloseParen refl) (λ t e. refl) (expr_apart classes.CloseParen refl refl) o)

-- behind a token that begins no declaration of variables
abbrev no_variables : Option Word → Bool
no_variables t = begins_variables t || never t

abbrev start_parts : Kind Word (Option CExpr × Unit {0})
start_parts = pair (maybe_expr no_variables) (λ _. one (word_of classes.Semicolon))

abbrev start_made : Variables ⊎ (Option CExpr × Unit {0}) → Start
start_made = either starts.Variables (λ p. starts.Expr p.0)

start_tells : (x : Variables ⊎ (Option CExpr × Unit {0})) → start_told (start_made x) ≡ (sum some_variables start_parts).told x
start_tells (inl v) = refl
start_tells (inr p) = refl

start_goes : (x : Variables ⊎ (Option CExpr × Unit {0})) (t : Option Word) → a_start.grabs (start_made x) t ≡ (sum some_variables start_parts).grabs x t
start_goes (inl v) t = refl
start_goes (inr p) t = refl

start_all : (z : Start) → (x : Variables ⊎ (Option CExpr × Unit {0})) × (start_made x ≡ z)
start_all (starts.Variables v) = (inl v, refl)
start_all (starts.Expr o) = (inr (o, tt), refl)

pub no_start : begins_variables None ≡ false
no_start = or_both _ _ refl (or_both _ _ (no_class classes.Const) refl)

pub variables_starts : Starts begins_variables some_variables
variables_starts =
    let e : Parses CExpr = refuse in
    let rule : Rule ⊥ (λ t. _) some_variables (λ x. x) 0 (variables_by e) = variables_rule e (dead (expr_viable 0)) (but begins_variables) in
    starts_of begins_variables no_start (λ x. refl) rule

semicolon_no_variables : Apart (is classes.Semicolon) no_variables
semicolon_no_variables = apart_or (is classes.Semicolon) begins_variables never (variables_off classes.Semicolon refl) (λ t e. refl)

module _ {live : Type 0} {d : ℕ} (e : Parses CExpr) (expr_rule : Rule live never an_expr (λ x. x) d e) where
  pub condition_rule : {before : Option Word → Bool} → before (Some (word_of classes.OpenParen)) ≡ false → Rule live before a_condition (λ x. x) d (spec.condition_by e)
  unfolding spec.condition_by
  condition_rule free =
      told_as a_condition (λ (p : CExpr × Unit {0}). p.0) (λ x. x) (λ p. refl) (λ p t. refl) (λ x. ((x, tt), refl))
      (token_then (is classes.OpenParen) (word_of classes.OpenParen) (knows classes.OpenParen refl) free
      (seq (λ x. x) (λ x _. x) (λ x s. and_then (expect (is classes.CloseParen) s) (λ _ s. Ok (x, s))) expr_rule
      (λ x. last (is classes.CloseParen) (word_of classes.CloseParen) x (knows classes.CloseParen refl) (stops_at classes.CloseParen refl (an_expr.grabs x) (expr_apart classes.CloseParen refl refl x)))))

  pub optional_rule : (before : Option Word → Bool) → Apart begins_expr before → Rule live before (maybe_expr before) (λ o. o) d (spec.optional_by e)
  optional_rule before apart = perhaps begins_expr before expr_starts apart expr_rule

  start_expr_rule : Rule live no_variables start_parts (λ p. starts.Expr p.0) d (spec.start_expr_by e)
  unfolding spec.start_expr_by
  start_expr_rule =
      seq (λ o. o) (λ o _. starts.Expr o) (λ o s. and_then (expect (is classes.Semicolon) s) (λ _ s. _)) (optional_rule no_variables (apart_or begins_expr begins_variables never expr_no_variables (λ t go. refl)))
      (λ o. last (is classes.Semicolon) (word_of classes.Semicolon) (starts.Expr o) (knows classes.Semicolon refl) (maybe_semicolon no_variables semicolon_no_variables o))

  pub start_rule : Rule live never a_start (λ x. x) d (spec.start_by e)
  start_rule =
      told_as a_start start_made (λ x. x) start_tells start_goes start_all
      (choice_past begins_variables never some_variables start_parts variables_starts (mapped starts.Variables (variables_rule e expr_rule (λ t go. refl))) start_expr_rule)

-- ---- statements

abbrev pub an_empty : Kind Word (ℕ × Unit {0})
an_empty = pair (place never) (λ _. one (word_of classes.Semicolon))

abbrev pub a_break : Kind Word (ℕ × Unit {0})
a_break = pair (place never) (λ _. behind (word_of classes.Break) (one (word_of classes.Semicolon)))

abbrev pub a_continue : Kind Word (ℕ × Unit {0})
a_continue = pair (place never) (λ _. behind (word_of classes.Continue) (one (word_of classes.Semicolon)))

abbrev pub an_expr_stmt : Kind Word (CExpr × Unit {0})
an_expr_stmt = pair an_expr (λ _. one (word_of classes.Semicolon))

abbrev pub a_return : Kind Word (ℕ × (Option CExpr × Unit {0}))
a_return = pair (place never) (λ _. behind (word_of classes.Return) (pair (maybe_expr never) (λ _. one (word_of classes.Semicolon))))

pub empty_rule : {live : Type 0} {d : ℕ} → Rule live never an_empty (λ p. stmts.Empty p.0) d spec.empty
unfolding spec.empty
empty_rule =
    numbered (λ k _. stmts.Empty k) (λ k s. and_then (expect (is classes.Semicolon) s) (λ _ s. _))
    (λ k. last (is classes.Semicolon) (word_of classes.Semicolon) (stmts.Empty k) (knows classes.Semicolon refl) refl)

pub break_rule : {live : Type 0} {d : ℕ} → Rule live never a_break (λ p. stmts.Break p.0) d spec.break_stmt
unfolding spec.break_stmt
break_rule =
    numbered (λ k _. stmts.Break k) (λ k s. and_then (expect (is classes.Break) s) (λ _ s. and_then (expect (is classes.Semicolon) s) (λ _ s. _)))
    (λ k. token_then (is classes.Break) (word_of classes.Break) (knows classes.Break refl) refl
    (last (is classes.Semicolon) (word_of classes.Semicolon) (stmts.Break k) (knows classes.Semicolon refl) refl))

pub continue_rule : {live : Type 0} {d : ℕ} → Rule live never a_continue (λ p. stmts.Continue p.0) d spec.continue_stmt
unfolding spec.continue_stmt
continue_rule =
    numbered (λ k _. stmts.Continue k) (λ k s. and_then (expect (is classes.Continue) s) (λ _ s. and_then (expect (is classes.Semicolon) s) (λ _ s. _)))
    (λ k. token_then (is classes.Continue) (word_of classes.Continue) (knows classes.Continue refl) refl
    (last (is classes.Semicolon) (word_of classes.Semicolon) (stmts.Continue k) (knows classes.Semicolon refl) refl))

module _ {live : Type 0} {d : ℕ} (e : Parses CExpr) (expr_rule : Rule live never an_expr (λ x. x) d e) where
  pub expr_stmt_rule : Rule live never an_expr_stmt (λ p. stmts.Expr p.0) d (spec.expr_stmt_by e)
  unfolding spec.expr_stmt_by
  expr_stmt_rule =
      seq (λ x. x) (λ x _. stmts.Expr x) (λ x s. and_then (expect (is classes.Semicolon) s) (λ _ s. _)) expr_rule
      (λ x. last (is classes.Semicolon) (word_of classes.Semicolon) (stmts.Expr x) (knows classes.Semicolon refl) (stops_at classes.Semicolon refl (an_expr.grabs x) (expr_apart classes.Semicolon refl refl x)))

  pub return_rule : Rule live never a_return (λ p. stmts.Return p.0 p.1.0) d (spec.return_by e)
  unfolding spec.return_by
  return_rule =
      numbered (λ k p. stmts.Return k p.0) (λ k s. and_then (expect (is classes.Return) s) (λ _ s. and_then (spec.optional_by e s) (λ o s. and_then (expect (is classes.Semicolon) s) (λ _ s. _))))
      (λ k. token_then (is classes.Return) (word_of classes.Return) (knows classes.Return refl) refl
      (seq (λ o. o) (λ o _. stmts.Return k o) (λ o s. and_then (expect (is classes.Semicolon) s) (λ _ s. _)) (optional_rule e expr_rule never (λ t go. refl))
      (λ o. last (is classes.Semicolon) (word_of classes.Semicolon) (stmts.Return k o) (knows classes.Semicolon refl) (maybe_semicolon never (λ t go. refl) o))))

-- ---- what these statements tell, and which statements are of these forms

pub empty_tells : (p : ℕ × Unit {0}) → a_stmt.told (stmts.Empty p.0) ≡ an_empty.told p
empty_tells p = stmt_tells (stmts.Empty p.0) _ (stmts.outs-Empty p.0)

pub break_tells : (p : ℕ × Unit {0}) → a_stmt.told (stmts.Break p.0) ≡ a_break.told p
break_tells p = stmt_tells (stmts.Break p.0) _ (stmts.outs-Break p.0)

pub continue_tells : (p : ℕ × Unit {0}) → a_stmt.told (stmts.Continue p.0) ≡ a_continue.told p
continue_tells p = stmt_tells (stmts.Continue p.0) _ (stmts.outs-Continue p.0)

pub expr_tells : (p : CExpr × Unit {0}) → a_stmt.told (stmts.Expr p.0) ≡ an_expr_stmt.told p
expr_tells p = stmt_tells (stmts.Expr p.0) _ (stmts.outs-Expr p.0)

pub return_tells : (p : ℕ × (Option CExpr × Unit {0})) → a_stmt.told (stmts.Return p.0 p.1.0) ≡ a_return.told p
return_tells p = stmt_tells (stmts.Return p.0 p.1.0) _ (stmts.outs-Return p.0 p.1.0)

pub empty_form : Form an_empty a_stmt (λ p. stmts.Empty p.0)
empty_form = told_form an_empty a_stmt (λ p. stmts.Empty p.0) empty_tells (λ p. ended_goes (stmts.Empty p.0) (an_empty.told p) (empty_tells p) refl)

pub break_form : Form a_break a_stmt (λ p. stmts.Break p.0)
break_form = told_form a_break a_stmt (λ p. stmts.Break p.0) break_tells (λ p. ended_goes (stmts.Break p.0) (a_break.told p) (break_tells p) refl)

pub continue_form : Form a_continue a_stmt (λ p. stmts.Continue p.0)
continue_form = told_form a_continue a_stmt (λ p. stmts.Continue p.0) continue_tells (λ p. ended_goes (stmts.Continue p.0) (a_continue.told p) (continue_tells p) refl)

pub expr_form : Form an_expr_stmt a_stmt (λ p. stmts.Expr p.0)
expr_form = told_form an_expr_stmt a_stmt (λ p. stmts.Expr p.0) expr_tells (λ p. ended_goes (stmts.Expr p.0) (an_expr_stmt.told p) (expr_tells p) refl)

pub return_form : Form a_return a_stmt (λ p. stmts.Return p.0 p.1.0)
return_form = told_form a_return a_stmt (λ p. stmts.Return p.0 p.1.0) return_tells (λ p. ended_goes (stmts.Return p.0 p.1.0) (a_return.told p) (return_tells p) refl)

pub empty_match : (l : Layer) → layer_front l ≡ fronts.Empty → (p : ℕ × Unit {0}) × (stmts.Empty p.0 ≡ roll-Stmt l)
empty_match (Stmt-F.Empty k) e = ((k, tt), sym (stmts.rolls-Empty k))
empty_match _ e = absurd (cc)

pub break_match : (l : Layer) → layer_front l ≡ fronts.Break → (p : ℕ × Unit {0}) × (stmts.Break p.0 ≡ roll-Stmt l)
break_match (Stmt-F.Break k) e = ((k, tt), sym (stmts.rolls-Break k))
break_match _ e = absurd (cc)

pub continue_match : (l : Layer) → layer_front l ≡ fronts.Continue → (p : ℕ × Unit {0}) × (stmts.Continue p.0 ≡ roll-Stmt l)
continue_match (Stmt-F.Continue k) e = ((k, tt), sym (stmts.rolls-Continue k))
continue_match _ e = absurd (cc)

pub expr_match : (l : Layer) → layer_front l ≡ fronts.Expr → (p : CExpr × Unit {0}) × (stmts.Expr p.0 ≡ roll-Stmt l)
expr_match (Stmt-F.Expr x) e = ((x, tt), sym (stmts.rolls-Expr x))
expr_match _ e = absurd (cc)

pub return_match : (l : Layer) → layer_front l ≡ fronts.Return → (p : ℕ × (Option CExpr × Unit {0})) × (stmts.Return p.0 p.1.0 ≡ roll-Stmt l)
return_match (Stmt-F.Return k o) e = ((k, (o, tt)), sym (stmts.rolls-Return k o))
return_match _ e = absurd (cc)

-- a shortest statement
pub stmt_viable : (d n : ℕ) → Viable a_stmt d n []
stmt_viable d n = form_viable an_empty a_stmt (λ p. stmts.Empty p.0) empty_form d n [] (record { tree = (n, tt); left = word_of classes.Semicolon ∷ []; begins = refl; is = (refl, tt); few = omega arith })

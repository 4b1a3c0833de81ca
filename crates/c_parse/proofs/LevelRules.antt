-- The parser of statements is exact at each number of levels.
use Rattle.std.proofs.Common.{◌≡◌, ℕ, zero, suc, true, Some, refl, sym, arith}
use Rattle.dpi_grammar.specs.Parser.{State, first, refuse, level}
use Rattle.dpi_grammar.proofs.Exact.{Exact}
use Rattle.dpi_grammar.proofs.Forms.{formed, within}
use Rattle.dpi_grammar.proofs.Rules.{Rule, never, dead, mapped, Inside, one_deeper}
use Rattle.dpi_lex.specs.Words.{Word}
use Rattle.c_tree.specs.declared.expr.CExpr.{CExpr}
use Rattle.c_tree.specs.declared.statements.Stmt.TheVariants as stmts
use Rattle.c_tree.specs.Classes.{word_of, class_at}
use Rattle.c_tree.proofs.ClassLemmas.{is_fixed, knows, when_class}
use Rattle.c_cursor.specs.Reading.{Parses}
use Rattle.c_parse.specs.declared.front.Front.{Front}
use Rattle.c_parse.specs.declared.front.Front.TheVariants as fronts
use Rattle.c_parse.specs.declared.front.Nest.{Nest}
use Rattle.c_parse.specs.declared.front.Nest.TheVariants as nests
use Rattle.c_parse.specs.Front.{front_of}
use Rattle.c_parse.specs.ReadingStatements as spec
use Rattle.c_parse.specs.ReadingStatements.{Readers, Inner}
use Rattle.c_expr.specs.Reading.{expr}
use Rattle.c_expr.proofs.Goes.{an_expr}
use Rattle.c_expr.proofs.Shortest.{expr_viable}
use Rattle.c_expr.proofs.ExprRules.{expr_rule}
use Rattle.c_parse.proofs.Goes.{a_stmt}
use Rattle.c_parse.proofs.Fronts.{nest_class, nest_back, only_front}
use Rattle.c_parse.proofs.SimpleRules.{an_empty, a_break, a_continue, an_expr_stmt, a_return, empty_rule, break_rule, continue_rule, expr_stmt_rule, return_rule, empty_tells, break_tells, continue_tells, expr_tells, return_tells, empty_form, break_form, continue_form, expr_form, return_form, empty_match, break_match, continue_match, expr_match, return_match, stmt_viable}
use Rattle.c_parse.proofs.NestedRules.{in_block, in_while, in_do, in_for, block_made, while_made, do_made, for_made, block_rule, while_rule, do_rule, for_rule, block_stmt_told, while_told, do_told, for_told, block_stmt_form, while_form, do_form, for_form, block_match, while_match, do_match, for_match}
use Rattle.c_parse.proofs.IfRules.{in_if, if_made, if_rule, if_told_as, if_form, if_match}

-- what reads the parts of a level is exact there
abbrev pub Good : Type 0 → ℕ → Readers → Type 0
Good live m r = Rule live never an_expr (λ x. x) m r.value × Rule live never a_stmt (λ x. x) m r.body

abbrev pub some_readers : Readers
some_readers = record { value = refuse; body = refuse }

pub dead_readers : (m : ℕ) → Good ⊥ m some_readers
dead_readers m = (dead (expr_viable m), dead (stmt_viable m))

-- the token that opens a level
opens_with : (s : State Word) (n : Nest) → is_fixed (nest_class n) ≡ true → front_of (class_at (first s.rest)) ≡ fronts.Nested n → Some (word_of (nest_class n)) ≡ first s.rest
opens_with s n fixed same = sym ((knows (nest_class n) fixed).says (first s.rest) (when_class (nest_class n) (first s.rest) (nest_back (class_at (first s.rest)) n same)))

nested_exact : (d : ℕ) (inner : Inner) → Inside Good d inner → (s : State Word) (n : Nest) → front_of (class_at (first s.rest)) ≡ fronts.Nested n → Exact a_stmt (λ x. x) d s (level inner (λ r. spec.nested_by r.value r.body n) s)
nested_exact d inner h s nests.Block same =
    one_deeper Good in_block a_stmt (λ p. stmts.Block (block_made p)) block_stmt_form (λ x. x) (λ r. spec.nested_by r.value r.body nests.Block) (λ live m r g. mapped stmts.Block (block_rule r.value r.body g.0 g.1))
    some_readers dead_readers (stmt_viable 0) d inner h s (λ n x r i. opens_with s nests.Block refl same) (only_front (within in_block) (λ p. stmts.Block (block_made p)) block_stmt_told (fronts.Nested nests.Block) block_match (first s.rest) same)
nested_exact d inner h s nests.If same =
    one_deeper Good in_if a_stmt (λ p. stmts.If (if_made p)) if_form (λ x. x) (λ r. spec.nested_by r.value r.body nests.If) (λ live m r g. mapped stmts.If (if_rule r.value r.body g.0 g.1))
    some_readers dead_readers (stmt_viable 0) d inner h s (λ n x r i. opens_with s nests.If refl same) (only_front (within in_if) (λ p. stmts.If (if_made p)) if_told_as (fronts.Nested nests.If) if_match (first s.rest) same)
nested_exact d inner h s nests.While same =
    one_deeper Good in_while a_stmt while_made while_form (λ x. x) (λ r. spec.nested_by r.value r.body nests.While) (λ live m r g. while_rule r.value r.body g.0 g.1)
    some_readers dead_readers (stmt_viable 0) d inner h s (λ n x r i. opens_with s nests.While refl same) (only_front (within in_while) while_made while_told (fronts.Nested nests.While) while_match (first s.rest) same)
nested_exact d inner h s nests.Do same =
    one_deeper Good in_do a_stmt do_made do_form (λ x. x) (λ r. spec.nested_by r.value r.body nests.Do) (λ live m r g. do_rule r.value r.body g.0 g.1)
    some_readers dead_readers (stmt_viable 0) d inner h s (λ n x r i. opens_with s nests.Do refl same) (only_front (within in_do) do_made do_told (fronts.Nested nests.Do) do_match (first s.rest) same)
nested_exact d inner h s nests.For same =
    one_deeper Good in_for a_stmt for_made for_form (λ x. x) (λ r. spec.nested_by r.value r.body nests.For) (λ live m r g. for_rule r.value r.body g.0 g.1)
    some_readers dead_readers (stmt_viable 0) d inner h s (λ n x r i. opens_with s nests.For refl same) (only_front (within in_for) for_made for_told (fronts.Nested nests.For) for_match (first s.rest) same)

module _ (d : ℕ) (e : Parses CExpr) (expression : Rule (Unit {0}) never an_expr (λ x. x) d e) (inner : Inner) (h : Inside Good d inner) where
  empty_unit : Rule (Unit {0}) never an_empty (λ p. stmts.Empty p.0) d spec.empty
  empty_unit = empty_rule

  break_unit : Rule (Unit {0}) never a_break (λ p. stmts.Break p.0) d spec.break_stmt
  break_unit = break_rule

  continue_unit : Rule (Unit {0}) never a_continue (λ p. stmts.Continue p.0) d spec.continue_stmt
  continue_unit = continue_rule

  stmt_exact : (s : State Word) (f : Front) → front_of (class_at (first s.rest)) ≡ f → Exact a_stmt (λ x. x) d s (spec.stmt_by e inner f s)
  stmt_exact s fronts.Empty same =
      formed an_empty a_stmt (λ p. stmts.Empty p.0) empty_form (λ x. x) d s (spec.empty s) (only_front an_empty (λ p. stmts.Empty p.0) empty_tells fronts.Empty empty_match (first s.rest) same) (empty_unit.exact tt s refl)
  stmt_exact s fronts.Expr same =
      formed an_expr_stmt a_stmt (λ p. stmts.Expr p.0) expr_form (λ x. x) d s (spec.expr_stmt_by e s) (only_front an_expr_stmt (λ p. stmts.Expr p.0) expr_tells fronts.Expr expr_match (first s.rest) same)
      ((expr_stmt_rule e expression).exact tt s refl)
  stmt_exact s fronts.Return same =
      formed a_return a_stmt (λ p. stmts.Return p.0 p.1.0) return_form (λ x. x) d s (spec.return_by e s) (only_front a_return (λ p. stmts.Return p.0 p.1.0) return_tells fronts.Return return_match (first s.rest) same)
      ((return_rule e expression).exact tt s refl)
  stmt_exact s fronts.Break same =
      formed a_break a_stmt (λ p. stmts.Break p.0) break_form (λ x. x) d s (spec.break_stmt s) (only_front a_break (λ p. stmts.Break p.0) break_tells fronts.Break break_match (first s.rest) same) (break_unit.exact tt s refl)
  stmt_exact s fronts.Continue same =
      formed a_continue a_stmt (λ p. stmts.Continue p.0) continue_form (λ x. x) d s (spec.continue_stmt s) (only_front a_continue (λ p. stmts.Continue p.0) continue_tells fronts.Continue continue_match (first s.rest) same) (continue_unit.exact tt s refl)
  stmt_exact s (fronts.Nested n) same = nested_exact d inner h s n same

  stmt_in_rule : Rule (Unit {0}) never a_stmt (λ x. x) d (spec.stmt_in e inner)
  unfolding spec.stmt_in
  stmt_in_rule = record {
    exact = λ l s b. stmt_exact s (front_of (class_at (first s.rest))) refl;
    closes = stmt_viable d;
    keeps = λ n x r i g. refl;
  }

-- what reads the parts inside is exact
pub inside_good : (d : ℕ) → Inside Good d (spec.inside d)
inside_good zero = refl
inside_good (suc d) = (d, omega arith, (expr_rule d (λ t go. refl), stmt_in_rule d (expr d) (expr_rule d (λ t go. refl)) (spec.inside d) (inside_good d)))

pub stmt_rule : (d : ℕ) → Rule (Unit {0}) never a_stmt (λ x. x) d (spec.stmt d)
stmt_rule d = stmt_in_rule d (expr d) (expr_rule d (λ t go. refl)) (spec.inside d) (inside_good d)

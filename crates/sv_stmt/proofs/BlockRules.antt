-- The parsers of blocks, and of statements one after another, are exact.
use Rattle.std.proofs.Common.{◌≡◌, ℕ, Bool, true, false, List, [], Option, Some, refl}
use denote.Enum.Bare.{sameb}
use Rattle.dpi_grammar.specs.Parser.{and_then}
use Rattle.dpi_grammar.proofs.Rules.{Rule, never, seq, mapped, token_then}
use Rattle.dpi_grammar.proofs.Many.{Apart, many}
use Rattle.dpi_grammar.proofs.Firsts.{option_apart, list_apart}
use Rattle.dpi_lex.specs.Words.{Word}
use Rattle.sv_tree.specs.contracts.class.Class.{the_type}
use Rattle.sv_tree.specs.declared.class.Class.{Class}
use Rattle.sv_tree.specs.declared.class.Class.TheVariants as classes
use Rattle.sv_tree.specs.declared.statements.Label.{Label}
use Rattle.sv_tree.specs.declared.statements.Variables.{Variables}
use Rattle.sv_tree.specs.declared.statements.Stmt.{Stmt}
use Rattle.sv_tree.specs.Classes.{word_of, class_at, is_class, is}
use Rattle.sv_tree.proofs.ClassLemmas.{knows}
use Rattle.sv_cursor.specs.Reading.{Parses, optional_label}
use Rattle.sv_cursor.proofs.Tokens.{apart_by, apart_of}
use Rattle.sv_cursor.proofs.LeafRules.{a_label, a_label_or_none, optional_label_rule}
use Rattle.sv_types.specs.Reading.{begins_data_type, is_type_class}
use Rattle.sv_stmt.specs.Front.{is_statement, begins_statement}
use Rattle.sv_stmt.specs.ReadingVariables.{declarations}
use Rattle.sv_stmt.specs.ReadingStatements as spec
use Rattle.sv_stmt.proofs.Goes.{a_stmt}
use Rattle.sv_stmt.proofs.Fronts.{by_class, keyword_rule, at_depth, at_word, apart_class}
use Rattle.sv_stmt.proofs.VariableRules.{some_variables, declarations_rule, declarations_apart}
use Rattle.sv_stmt.proofs.ItemRules.{NestedGood}
use Rattle.sv_stmt.proofs.StmtFronts.{some_statements, a_block_stmt, block_of}
use Rattle.sv_stmt.proofs.StmtForms.{stmts_repeat, stmt_apart}

-- ---- stmt*

pub statements_by_rule : {live : Type 0} {m : ℕ} {p : Parses Stmt} (prior : Option Word → Bool) (d : ℕ) → Apart begins_statement prior → Rule live never a_stmt (λ x. x) m p
    → Rule live prior (some_statements prior) (λ xs. xs) m (spec.statements_by d p)
statements_by_rule prior d apart good = many begins_statement prior stmts_repeat apart [] good

-- what they go on with
pub statements_apart : (c : Class) → is_statement (Some c) ≡ false → sameb the_type classes.Else c ≡ false → sameb the_type classes.Colon c ≡ false → (prior : Option Word → Bool) → Apart (is c) prior
    → (ss : List Stmt) → Apart (is c) ((some_statements prior).grabs ss)
statements_apart c other else_other colon_other prior apart ss = list_apart (is c) begins_statement prior a_stmt (apart_by c is_statement other) apart (stmt_apart c else_other colon_other) ss

no_type : (o : Option Class) → is_statement o ≡ true → is_type_class o ≡ false
unfolding is_class
no_type (Some classes.Semicolon) e = refl
no_type (Some classes.Begin) e = refl
no_type (Some classes.If) e = refl
no_type (Some classes.Case) e = refl
no_type (Some classes.While) e = refl
no_type (Some classes.Repeat) e = refl
no_type (Some classes.Forever) e = refl
no_type (Some classes.For) e = refl
no_type (Some classes.Return) e = refl
no_type (Some classes.Break) e = refl
no_type (Some classes.Continue) e = refl
no_type (Some classes.Disable) e = refl
no_type (Some classes.Finish) e = refl
no_type (Some classes.Display) e = refl
no_type (Some classes.Write) e = refl
no_type (Some classes.Void) e = refl
no_type (Some classes.Name) e = refl
no_type _ e = cc

-- no type begins a statement
pub statement_no_type : Apart begins_statement begins_data_type
statement_no_type t e = no_type (class_at t) e

-- ---- "begin" .. "end"

label_apart : (f : Option Class → Bool) → f (Some classes.Colon) ≡ false → (l : Option Label) → Apart (by_class f) ((a_label_or_none never).grabs l)
label_apart f other l = option_apart (by_class f) (is classes.Colon) never a_label (apart_class f classes.Colon other) (λ t e. refl) (λ x t e. refl) l

-- what stands before the statements goes on with none
before_statements : (l : Option Label) (vs : List Variables) → Apart begins_statement ((some_variables ((a_label_or_none never).grabs l)).grabs vs)
before_statements l vs = declarations_apart begins_statement ((a_label_or_none never).grabs l) statement_no_type (label_apart is_statement refl l) vs

before_end : (l : Option Label) (vs : List Variables) → Apart (is classes.End) ((some_variables ((a_label_or_none never).grabs l)).grabs vs)
unfolding is_class
before_end l vs =
    declarations_apart (is classes.End) ((a_label_or_none never).grabs l) (apart_by classes.End is_type_class refl)
    (option_apart (is classes.End) (is classes.Colon) never a_label (apart_of classes.End classes.Colon refl) (λ t e. refl) (λ x t e. refl) l) vs

statements_end : (l : Option Label) (vs : List Variables) (ss : List Stmt) → (some_statements ((some_variables ((a_label_or_none never).grabs l)).grabs vs)).grabs ss (Some (word_of classes.End)) ≡ false
statements_end l vs ss = at_word classes.End refl _ (statements_apart classes.End refl refl refl _ (before_end l vs) ss)

pub block_rule : {live : Type 0} (m : ℕ) (e : ℕ × Parses Stmt) → NestedGood live m e → Rule live never a_block_stmt block_of m (spec.block_by e.0 e.1)
unfolding spec.block_by is_class
block_rule m e good =
    keyword_rule classes.Begin (λ k p. block_of (k, p)) (λ k s. and_then (optional_label s) (λ l s. _)) refl
    (λ k. seq (λ l. l) (λ l p. block_of (k, (l, p))) _ (optional_label_rule (λ t e. refl))
    (λ l. seq (λ vs. vs) (λ vs p. block_of (k, (l, (vs, p)))) _ (at_depth declarations e.0 good.0 (λ d. declarations_rule ((a_label_or_none never).grabs l) d (label_apart is_type_class refl l)))
    (λ vs. seq (λ ss. ss) (λ ss x. block_of (k, (l, (vs, (ss, x))))) _ (statements_by_rule _ e.0 (before_statements l vs) good.1)
    (λ ss. token_then (is classes.End) (word_of classes.End) (knows classes.End refl) (statements_end l vs ss)
    (mapped (λ x. block_of (k, (l, (vs, (ss, x))))) (optional_label_rule (λ t e. refl)))))))

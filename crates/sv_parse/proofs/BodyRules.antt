-- The parsers of functions and tasks are exact.
use Rattle.std.proofs.Common.{◌≡◌, ℕ, Bool, true, false, ◌||◌, List, [], ◌∷◌, Option, Some, None, refl}
use denote.Enum.Bare.{sameb}
use Rattle.dpi_grammar.specs.Parser.{is_there}
use Rattle.dpi_grammar.proofs.Exact.{Kind}
use Rattle.dpi_grammar.proofs.Rules.{Rule, never, seq, mapped, told_as, numbered, token_then}
use Rattle.dpi_grammar.proofs.Many.{Apart, Starts, option}
use Rattle.dpi_grammar.proofs.Firsts.{option_apart}
use Rattle.dpi_lex.specs.Words.{Word}
use Rattle.sv_tree.specs.contracts.class.Class.{the_type}
use Rattle.sv_tree.specs.declared.class.Class.{Class}
use Rattle.sv_tree.specs.declared.class.Class.TheVariants as classes
use Rattle.sv_tree.specs.declared.leaves.Name.{Name}
use Rattle.sv_tree.specs.declared.statements.Label.{Label}
use Rattle.sv_tree.specs.declared.statements.Stmt.{Stmt}
use Rattle.sv_tree.specs.declared.statements.Variables.{Variables}
use Rattle.sv_tree.specs.declared.items.Life.{Life}
use Rattle.sv_tree.specs.declared.items.Formal.{Formal}
use Rattle.sv_tree.specs.declared.items.Outcome.{Outcome}
use Rattle.sv_tree.specs.declared.items.Body.{Body}
use Rattle.sv_tree.specs.declared.items.Function.{Function}
use Rattle.sv_tree.specs.declared.items.Task.{Task}
use Rattle.sv_tree.specs.Classes.{word_of, class_at, is, is_class}
use Rattle.sv_tree.specs.Kinds.{lifetime_of}
use Rattle.sv_tree.specs.Items.{body_told, function_told, task_told}
use Rattle.sv_tree.proofs.ClassLemmas.{is_fixed, knows}
use Rattle.sv_cursor.proofs.Tokens.{apart_of, apart_by}
use Rattle.sv_cursor.proofs.LeafRules.{a_name, name_rule, a_label, a_label_or_none, optional_label_rule}
use Rattle.sv_types.specs.Reading.{begins_data_type}
use Rattle.sv_types.proofs.Words.{class_apart}
use Rattle.sv_stmt.specs.Front.{is_statement, begins_statement}
use Rattle.sv_stmt.proofs.VariableRules.{some_variables, declarations_rule, declarations_apart}
use Rattle.sv_stmt.proofs.StmtFronts.{some_statements}
use Rattle.sv_stmt.proofs.BlockRules.{statements_apart, statement_no_type}
use Rattle.sv_stmt.proofs.StmtRules.{statements_rule}
use Rattle.sv_parse.specs.Reading as spec
use Rattle.sv_parse.specs.Headers.{begins_life}
use Rattle.sv_parse.proofs.FormalRules.{some_formals, optional_formals_rule}
use Rattle.sv_parse.proofs.HeaderRules.{a_life, life_grabs, optional_life_rule, an_outcome, outcome_rule, outcome_not_of_life, name_not_of_outcome}

-- ---- tests that no token passes together

name_not_life : Apart (is classes.Name) begins_life
name_not_life = apart_by classes.Name (λ o. is_there (lifetime_of o)) refl

-- no `;` goes on with formals
semicolon_not_of_formals : (o : Option (List Formal)) → Apart (is classes.Semicolon) ((option (is classes.OpenParen) some_formals never).grabs o)
semicolon_not_of_formals o = option_apart (is classes.Semicolon) (is classes.OpenParen) never some_formals (apart_of classes.Semicolon classes.OpenParen refl) (λ t e. refl) (λ x t e. refl) o

-- ---- bodies

-- what goes on with declarations
abbrev declared_grabs : List Variables → Option Word → Bool
declared_grabs = (some_variables never).grabs

abbrev pub a_body : Kind Word Body
a_body = record { told = body_told; grabs = λ b. (some_statements (declared_grabs b.variables)).grabs b.statements }

abbrev make_body : List Variables × List Stmt → Body
make_body p = record { variables = p.0; statements = p.1 }

-- no body goes on with a token of this class
body_stops : (c : Class) → is_fixed c ≡ true → is_statement (Some c) ≡ false → begins_data_type (Some (word_of c)) ≡ false → sameb the_type classes.Else c ≡ false → sameb the_type classes.Colon c ≡ false
    → (b : Body) → a_body.grabs b (Some (word_of c)) ≡ false
body_stops c fixed no_statement no_type no_else no_colon b =
    statements_apart c no_statement no_else no_colon (declared_grabs b.variables) (declarations_apart (is c) never (class_apart c fixed begins_data_type no_type) (λ t e. refl) b.variables) b.statements
    (Some (word_of c)) (knows c fixed).yes

body_rule : {live : Type 0} (d : ℕ) → Rule live never a_body (λ x. x) d (spec.body d)
unfolding spec.body
body_rule d = told_as a_body make_body (λ x. x) (λ p. refl) (λ p t. refl) (λ b. ((b.variables, b.statements), refl))
    (seq (λ vs. vs) (λ vs ss. make_body (vs, ss)) _ (declarations_rule never d (λ t e. refl))
    (λ vs. mapped (λ ss. make_body (vs, ss)) (statements_rule (declared_grabs vs) d (declarations_apart begins_statement never statement_no_type (λ t e. refl) vs))))

-- ---- functions

abbrev FunctionParts : Type 0
FunctionParts = Option Life × (Outcome × (Name × (Option (List Formal) × (Body × Option Label))))

abbrev make_function : ℕ → FunctionParts → Function
make_function k p = record { token = k; life = p.0; outcome = p.1.0; name = p.1.1.0; formals = p.1.1.1.0; body = p.1.1.1.1.0; end = p.1.1.1.1.1 }

-- what goes on with what ends in this label
abbrev pub end_grabs : Option Label → Option Word → Bool
end_grabs = (a_label_or_none never).grabs

abbrev pub a_function : Kind Word Function
a_function = record { told = function_told; grabs = λ f. end_grabs f.end }

pub function_starts : Starts (is classes.Function) a_function
function_starts n x r h = (knows classes.Function refl).yes

function_ends : (b : Body) → a_body.grabs b (Some (word_of classes.EndFunction)) ≡ false
unfolding is_class
function_ends b = body_stops classes.EndFunction refl refl refl refl refl b

pub function_rule : {live : Type 0} (d : ℕ) → Rule live never a_function (λ x. x) d (spec.function d)
unfolding spec.function
function_rule d = told_as a_function (λ (p : ℕ × FunctionParts). make_function p.0 p.1) (λ x. x) (λ p. refl) (λ p t. refl)
    (λ f. ((f.token, (f.life, (f.outcome, (f.name, (f.formals, (f.body, f.end)))))), refl))
    (numbered make_function _ (λ k. token_then (is classes.Function) (word_of classes.Function) (knows classes.Function refl) refl
    (seq (λ l. l) (λ l p. make_function k (l, p)) _ optional_life_rule
    (λ l. seq (λ o. o) (λ o p. make_function k (l, (o, p))) _ (outcome_rule (life_grabs l) (outcome_not_of_life l))
    (λ o. seq (λ n. n) (λ n p. make_function k (l, (o, (n, p)))) _ (name_rule (name_not_of_outcome o))
    (λ n. seq (λ fs. fs) (λ fs p. make_function k (l, (o, (n, (fs, p))))) _ optional_formals_rule
    (λ fs. token_then (is classes.Semicolon) (word_of classes.Semicolon) (knows classes.Semicolon refl) (semicolon_not_of_formals fs _ (knows classes.Semicolon refl).yes)
    (seq (λ b. b) (λ b e. make_function k (l, (o, (n, (fs, (b, e)))))) _ (body_rule d)
    (λ b. token_then (is classes.EndFunction) (word_of classes.EndFunction) (knows classes.EndFunction refl) (function_ends b)
    (mapped (λ e. make_function k (l, (o, (n, (fs, (b, e)))))) (optional_label_rule (λ t e. refl))))))))))))

-- ---- tasks

abbrev TaskParts : Type 0
TaskParts = Option Life × (Name × (Option (List Formal) × (Body × Option Label)))

abbrev make_task : ℕ → TaskParts → Task
make_task k p = record { token = k; life = p.0; name = p.1.0; formals = p.1.1.0; body = p.1.1.1.0; end = p.1.1.1.1 }

abbrev pub a_task : Kind Word Task
a_task = record { told = task_told; grabs = λ t. end_grabs t.end }

pub task_starts : Starts (is classes.Task) a_task
task_starts n x r h = (knows classes.Task refl).yes

task_ends : (b : Body) → a_body.grabs b (Some (word_of classes.EndTask)) ≡ false
unfolding is_class
task_ends b = body_stops classes.EndTask refl refl refl refl refl b

name_not_of_life : (l : Option Life) → Apart (is classes.Name) (life_grabs l)
name_not_of_life l = option_apart (is classes.Name) begins_life never a_life name_not_life (λ t e. refl) (λ x t e. refl) l

pub task_rule : {live : Type 0} (d : ℕ) → Rule live never a_task (λ x. x) d (spec.task d)
unfolding spec.task
task_rule d = told_as a_task (λ (p : ℕ × TaskParts). make_task p.0 p.1) (λ x. x) (λ p. refl) (λ p t. refl)
    (λ t. ((t.token, (t.life, (t.name, (t.formals, (t.body, t.end))))), refl))
    (numbered make_task _ (λ k. token_then (is classes.Task) (word_of classes.Task) (knows classes.Task refl) refl
    (seq (λ l. l) (λ l p. make_task k (l, p)) _ optional_life_rule
    (λ l. seq (λ n. n) (λ n p. make_task k (l, (n, p))) _ (name_rule (name_not_of_life l))
    (λ n. seq (λ fs. fs) (λ fs p. make_task k (l, (n, (fs, p)))) _ optional_formals_rule
    (λ fs. token_then (is classes.Semicolon) (word_of classes.Semicolon) (knows classes.Semicolon refl) (semicolon_not_of_formals fs _ (knows classes.Semicolon refl).yes)
    (seq (λ b. b) (λ b e. make_task k (l, (n, (fs, (b, e))))) _ (body_rule d)
    (λ b. token_then (is classes.EndTask) (word_of classes.EndTask) (knows classes.EndTask refl) (task_ends b)
    (mapped (λ e. make_task k (l, (n, (fs, (b, e))))) (optional_label_rule (λ t e. refl)))))))))))

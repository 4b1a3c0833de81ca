-- The parsers of what changes a variable, and of what a `for` begins with, are exact.
use Rattle.std.proofs.Common.{◌≡◌, ℕ, Bool, true, false, ◌||◌, ◌⊎◌, Option, Some, refl, ap, ◌∙◌, inl, inr}
use Rattle.dpi_grammar.specs.Parser.{and_then, token, is_there}
use Rattle.dpi_grammar.proofs.Exact.{Kind, pair}
use Rattle.dpi_grammar.proofs.Rules.{Rule, never, place, seq, mapped, told_as, numbered, plain, plainly}
use Rattle.dpi_grammar.proofs.Many.{Starts, Apart, put_apart}
use Rattle.dpi_grammar.proofs.Choices.{sum, either, choice, Off, starts_off}
use Rattle.dpi_grammar.proofs.Firsts.{starts_of, but}
use Rattle.dpi_lex.specs.Words.{Word}
use Rattle.sv_tree.specs.declared.class.Class.{Class}
use Rattle.sv_tree.specs.declared.class.Class.TheVariants as classes
use Rattle.sv_tree.specs.declared.leaves.Name.{Name}
use Rattle.sv_tree.specs.declared.kinds.StepOperator.{StepOperator}
use Rattle.sv_tree.specs.declared.kinds.StepOperator.TheVariants.{Increment}
use Rattle.sv_tree.specs.declared.operators.AssignOperator.{AssignOperator}
use Rattle.sv_tree.specs.declared.operators.AssignOperator.TheVariants as assigns
use Rattle.sv_tree.specs.declared.types.DataType.{DataType}
use Rattle.sv_tree.specs.declared.expr.Expr.{Expr}
use Rattle.sv_tree.specs.declared.expr.Lvalue.{Lvalue}
use Rattle.sv_tree.specs.declared.statements.Init.{Init}
use Rattle.sv_tree.specs.declared.statements.Change.{Change}
use Rattle.sv_tree.specs.declared.statements.Change.TheVariants as changes
use Rattle.sv_tree.specs.declared.statements.Start.{Start}
use Rattle.sv_tree.specs.declared.statements.Start.TheVariants as starts
use Rattle.sv_tree.specs.Classes.{word_of, class_at, is_class, is}
use Rattle.sv_tree.specs.Operators.{assign_class, assign_of}
use Rattle.sv_tree.specs.Kinds.{step_of}
use Rattle.sv_tree.specs.Expressions.{lvalue_told}
use Rattle.dpi_grammar.specs.Told.{◌&◌}
use Rattle.sv_tree.specs.Statements.{change_told, start_told}
use Rattle.sv_tree.proofs.ClassLemmas.{is_fixed, knows}
use Rattle.sv_cursor.proofs.Tokens.{apart_of, apart_by, class_at_word}
use Rattle.sv_cursor.proofs.LeafRules.{a_name, name_rule}
use Rattle.sv_types.specs.Reading.{begins_data_type, is_type_class}
use Rattle.sv_types.proofs.Choices.{pair_starts}
use Rattle.sv_types.proofs.Words.{value_starts, value_apart}
use Rattle.sv_types.proofs.TypeRules.{a_type, type_starts, type_rule}
use Rattle.sv_expr.proofs.Goes.{an_expr, an_lvalue}
use Rattle.sv_expr.proofs.Frees.{stops, expr_stops}
use Rattle.sv_expr.specs.Reading.{expr}
use Rattle.sv_expr.proofs.ExprRules.{expr_rule, lvalue_rule}
use Rattle.sv_stmt.specs.Front.{begins_step}
use Rattle.sv_stmt.specs.ReadingVariables.{init}
use Rattle.sv_stmt.specs.ReadingChanges as spec
use Rattle.sv_stmt.proofs.Fronts.{Fronts, by_class, off_by, keyword, keyword_front, keyword_rule, sum_fronts, apart_class}
use Rattle.sv_stmt.proofs.Words.{step_word, step_reader, assign_word, assign_fixed, assign_reader}
use Rattle.sv_stmt.proofs.Inits.{an_init, init_rule, init_stops}
use Rattle.sv_stmt.proofs.VariableRules.{type_name}

-- ---- behind what is changed

-- "=" init
abbrev pub an_assign : Kind Word (ℕ × Init)
an_assign = keyword classes.Assign an_init

-- "++" | "--"
abbrev pub a_step : Kind Word (ℕ × StepOperator)
a_step = pair (place never) (λ _. plain step_word)

-- assignop expr
abbrev pub a_compute : Kind Word (ℕ × (AssignOperator × Expr))
a_compute = pair (place never) (λ _. pair (plain assign_word) (λ _. an_expr))

abbrev pub ChangeTail : Type 0
ChangeTail = (ℕ × Init) ⊎ ((ℕ × StepOperator) ⊎ (ℕ × (AssignOperator × Expr)))

abbrev pub a_change_tail : Kind Word ChangeTail
a_change_tail = sum an_assign (sum a_step a_compute)

abbrev pub change_of : Lvalue → ChangeTail → Change
change_of l = either (λ p. changes.Assign l p.0 p.1) (either (λ p. changes.Step l p.0 p.1) (λ p. changes.Compute l p.0 p.1.0 p.1.1))

-- what it begins with
abbrev pub is_change : Option Class → Bool
is_change c = is_class classes.Assign c || (is_there (step_of c) || is_there (assign_of c))

step_front : Fronts (λ c. is_there (step_of c)) a_step
step_front n x r h = value_starts (λ t. step_of (class_at t)) step_word step_reader x.1

compute_front : Fronts (λ c. is_there (assign_of c)) a_compute
compute_front n x r h = value_starts (λ t. assign_of (class_at t)) assign_word assign_reader x.1.0

pub change_front : Fronts is_change a_change_tail
change_front =
    sum_fronts (is_class classes.Assign) (λ c. is_there (step_of c) || is_there (assign_of c)) an_assign (sum a_step a_compute) (keyword_front classes.Assign an_init refl)
    (sum_fronts (λ c. is_there (step_of c)) (λ c. is_there (assign_of c)) a_step a_compute step_front compute_front)

no_step : (o : AssignOperator) → is_there (step_of (Some (assign_class o))) ≡ false
no_step assigns.Add = refl
no_step assigns.Subtract = refl
no_step assigns.Multiply = refl
no_step assigns.Divide = refl
no_step assigns.Remainder = refl
no_step assigns.And = refl
no_step assigns.Or = refl
no_step assigns.Xor = refl
no_step assigns.ShiftLeft = refl
no_step assigns.ShiftRight = refl

compute_off : Off begins_step a_compute
compute_off = starts_off (λ t. is_there (assign_of (class_at t))) begins_step a_compute compute_front
    (value_apart (λ t. assign_of (class_at t)) assign_word assign_reader begins_step (λ o. ap (λ c. is_there (step_of c)) (class_at_word (assign_class o) (assign_fixed o)) ∙ no_step o))

assign_tail_rule : {live : Type 0} (d : ℕ) (l : Lvalue) → Rule live never an_assign (λ p. changes.Assign l p.0 p.1) d (spec.assign_tail d l)
unfolding spec.assign_tail
assign_tail_rule d l = keyword_rule classes.Assign (λ k i. changes.Assign l k i) (λ k s. and_then (init d s) (λ i s. _)) refl (λ k. mapped (λ i. changes.Assign l k i) (init_rule d (λ t e. refl)))

step_tail_rule : {live : Type 0} {d : ℕ} (l : Lvalue) → Rule live never a_step (λ p. changes.Step l p.0 p.1) d (spec.step_tail l)
unfolding spec.step_tail
step_tail_rule l = numbered (λ k o. changes.Step l k o) (λ k s. and_then (token (λ t. step_of (class_at t)) s) (λ o s. _))
    (λ k. mapped (λ o. changes.Step l k o) (plainly (λ t. step_of (class_at t)) step_word step_reader (λ o. refl) Increment))

compute_tail_rule : {live : Type 0} (d : ℕ) (l : Lvalue) → Rule live never a_compute (λ p. changes.Compute l p.0 p.1.0 p.1.1) d (spec.compute_tail d l)
unfolding spec.compute_tail
compute_tail_rule d l = numbered (λ k p. changes.Compute l k p.0 p.1) (λ k s. and_then (token (λ t. assign_of (class_at t)) s) (λ o s. _))
    (λ k. seq (λ o. o) (λ o e. changes.Compute l k o e) _ (plainly (λ t. assign_of (class_at t)) assign_word assign_reader (λ o. refl) assigns.Add)
    (λ o. mapped (λ e. changes.Compute l k o e) (expr_rule d (λ t e. refl))))

change_tail_never : {live : Type 0} (d : ℕ) (l : Lvalue) → Rule live never a_change_tail (change_of l) d (spec.change_tail d l)
unfolding spec.change_tail is_class
change_tail_never d l =
    choice (is classes.Assign) (keyword_front classes.Assign an_init refl)
    (off_by classes.Assign (λ c. is_there (step_of c) || is_there (assign_of c)) (sum a_step a_compute) (sum_fronts (λ c. is_there (step_of c)) (λ c. is_there (assign_of c)) a_step a_compute step_front compute_front) refl)
    (assign_tail_rule d l) (choice begins_step step_front compute_off (step_tail_rule l) (compute_tail_rule d l))

pub change_tail_rule : {live : Type 0} {before : Option Word → Bool} (d : ℕ) (l : Lvalue) → Apart (by_class is_change) before → Rule live before a_change_tail (change_of l) d (spec.change_tail d l)
change_tail_rule {before = before} d l apart = put_apart (by_class is_change) before change_front apart (change_tail_never d l)

-- it doesn't go on with the word of this class
pub change_tail_stops : (c : Class) → is_fixed c ≡ true → stops c ≡ false → (x : ChangeTail) → a_change_tail.grabs x (Some (word_of c)) ≡ false
change_tail_stops c fixed stop (inl p) = init_stops c fixed stop p.1
change_tail_stops c fixed stop (inr (inl p)) = refl
change_tail_stops c fixed stop (inr (inr p)) = expr_stops c fixed stop p.1.1

pub change_told_by : (l : Lvalue) (x : ChangeTail) → change_told (change_of l x) ≡ lvalue_told l & a_change_tail.told x
change_told_by l (inl p) = refl
change_told_by l (inr (inl p)) = refl
change_told_by l (inr (inr p)) = refl

-- ---- changes

abbrev pub change_grabs : Change → Option Word → Bool
change_grabs (changes.Assign l k i) = an_init.grabs i
change_grabs (changes.Step l k o) = never
change_grabs (changes.Compute l k o e) = an_expr.grabs e

abbrev pub a_change : Kind Word Change
a_change = record { told = change_told; grabs = change_grabs }

change_grabs_by : (l : Lvalue) (x : ChangeTail) (t : Option Word) → change_grabs (change_of l x) t ≡ a_change_tail.grabs x t
change_grabs_by l (inl p) t = refl
change_grabs_by l (inr (inl p)) t = refl
change_grabs_by l (inr (inr p)) t = refl

pub change_all : (z : Change) → (p : Lvalue × ChangeTail) × (change_of p.0 p.1 ≡ z)
change_all (changes.Assign l k i) = ((l, inl (k, i)), refl)
change_all (changes.Step l k o) = ((l, inr (inl (k, o))), refl)
change_all (changes.Compute l k o e) = ((l, inr (inr (k, (o, e)))), refl)

pub change_rule : {live : Type 0} {before : Option Word → Bool} (d : ℕ) → Apart (is classes.Name) before → Rule live before a_change (λ x. x) d (spec.change d)
unfolding spec.change is_class
change_rule d apart =
    told_as a_change (λ (p : Lvalue × ChangeTail). change_of p.0 p.1) (λ x. x) (λ p. change_told_by p.0 p.1) (λ p t. change_grabs_by p.0 p.1 t) change_all
    (seq (λ l. l) change_of (spec.change_tail d) (lvalue_rule d apart) (λ l. change_tail_rule d l (apart_class is_change classes.OpenBracket refl)))

pub change_stops : (c : Class) → is_fixed c ≡ true → stops c ≡ false → (z : Change) → a_change.grabs z (Some (word_of c)) ≡ false
change_stops c fixed stop (changes.Assign l k i) = init_stops c fixed stop i
change_stops c fixed stop (changes.Step l k o) = refl
change_stops c fixed stop (changes.Compute l k o e) = expr_stops c fixed stop e

-- ---- what a `for` begins with

-- "=" expr
abbrev an_equal : Kind Word (ℕ × Expr)
an_equal = keyword classes.Assign an_expr

abbrev a_declared_start : Kind Word (DataType × (Name × (ℕ × Expr)))
a_declared_start = pair a_type (λ _. pair a_name (λ _. an_equal))

abbrev an_assigned_start : Kind Word (Lvalue × (ℕ × Expr))
an_assigned_start = pair an_lvalue (λ _. an_equal)

abbrev AnyStart : Type 0
AnyStart = (DataType × (Name × (ℕ × Expr))) ⊎ (Lvalue × (ℕ × Expr))

abbrev any_start : Kind Word AnyStart
any_start = sum a_declared_start an_assigned_start

abbrev start_of : AnyStart → Start
start_of = either (λ p. starts.Declare p.0 p.1.0 p.1.1.0 p.1.1.1) (λ p. starts.Assign p.0 p.1.0 p.1.1)

abbrev pub start_grabs : Start → Option Word → Bool
start_grabs (starts.Declare t n k e) = an_expr.grabs e
start_grabs (starts.Assign l k e) = an_expr.grabs e

abbrev pub a_start : Kind Word Start
a_start = record { told = start_told; grabs = start_grabs }

start_of_told : (x : AnyStart) → start_told (start_of x) ≡ any_start.told x
start_of_told (inl p) = refl
start_of_told (inr p) = refl

start_of_grabs : (x : AnyStart) (t : Option Word) → start_grabs (start_of x) t ≡ any_start.grabs x t
start_of_grabs (inl p) t = refl
start_of_grabs (inr p) t = refl

start_all : (z : Start) → (x : AnyStart) × (start_of x ≡ z)
start_all (starts.Declare t n k e) = (inl (t, (n, (k, e))), refl)
start_all (starts.Assign l k e) = (inr (l, (k, e)), refl)

declared_rule : {live : Type 0} (d : ℕ) → Rule live never a_declared_start (λ p. starts.Declare p.0 p.1.0 p.1.1.0 p.1.1.1) d (spec.declared_start d)
unfolding spec.declared_start
declared_rule d =
    seq (λ t. t) (λ t p. starts.Declare t p.0 p.1.0 p.1.1) _ (type_rule (λ t e. refl))
    (λ t. seq (λ n. n) (λ n p. starts.Declare t n p.0 p.1) _ (name_rule (type_name t))
    (λ n. keyword_rule classes.Assign (λ k e. starts.Declare t n k e) (λ k s. and_then (expr d s) (λ e s. _)) refl (λ k. mapped (λ e. starts.Declare t n k e) (expr_rule d (λ t e. refl)))))

equal_starts : Starts (is classes.Assign) an_equal
equal_starts n x r h = (knows classes.Assign refl).yes

assigned_rule : {live : Type 0} (d : ℕ) → Rule live never an_assigned_start (λ p. starts.Assign p.0 p.1.0 p.1.1) d (spec.assigned_start d)
unfolding spec.assigned_start
assigned_rule d =
    seq (λ l. l) (λ l p. starts.Assign l p.0 p.1) _ (lvalue_rule d (λ t e. refl))
    (λ l. put_apart (is classes.Assign) (is classes.OpenBracket) equal_starts (apart_of classes.Assign classes.OpenBracket refl)
    (keyword_rule classes.Assign (λ k e. starts.Assign l k e) (λ k s. and_then (expr d s) (λ e s. _)) refl (λ k. mapped (λ e. starts.Assign l k e) (expr_rule d (λ t e. refl)))))

pub lvalue_starts : Starts (is classes.Name) an_lvalue
unfolding is_class
lvalue_starts = starts_of (is classes.Name) refl (λ l. refl) (lvalue_rule {live = Unit {0}} 0 (but (is classes.Name)))

assigned_off : Off begins_data_type an_assigned_start
unfolding is_class
assigned_off = starts_off (is classes.Name) begins_data_type an_assigned_start (pair_starts (is classes.Name) an_lvalue (λ _. an_equal) lvalue_starts) (apart_by classes.Name is_type_class refl)

pub start_rule : {live : Type 0} (d : ℕ) → Rule live never a_start (λ x. x) d (spec.start d)
unfolding spec.start
start_rule d =
    told_as a_start start_of (λ x. x) start_of_told start_of_grabs start_all
    (choice begins_data_type (pair_starts begins_data_type a_type (λ _. pair a_name (λ _. an_equal)) type_starts) assigned_off (declared_rule d) (assigned_rule d))

pub start_stops : (c : Class) → is_fixed c ≡ true → stops c ≡ false → (z : Start) → a_start.grabs z (Some (word_of c)) ≡ false
start_stops c fixed stop (starts.Declare t n k e) = expr_stops c fixed stop e
start_stops c fixed stop (starts.Assign l k e) = expr_stops c fixed stop e

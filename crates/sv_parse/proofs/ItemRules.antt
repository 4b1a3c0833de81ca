-- The parsers of items are exact.
use Rattle.std.proofs.Common.{◌≡◌, ℕ, Bool, true, false, ◌||◌, ◌⊎◌, List, Option, Some, None, refl, inl, inr}
use Rattle.dpi_grammar.proofs.Exact.{Kind, pair}
use Rattle.dpi_grammar.proofs.Rules.{Rule, never, seq, mapped, remade, told_as, numbered, place, token_then, last, one, behind}
use Rattle.dpi_grammar.proofs.Many.{Apart, Starts, Repeats}
use Rattle.dpi_grammar.proofs.Firsts.{apart_back, option_apart, in_left, in_right}
use Rattle.dpi_grammar.proofs.Choices.{Off, either, sum, choice, starts_off}
use Rattle.dpi_lex.specs.Words.{Word}
use Rattle.sv_tree.specs.declared.class.Class.TheVariants as classes
use Rattle.sv_tree.specs.declared.leaves.Name.{Name}
use Rattle.sv_tree.specs.declared.statements.Label.{Label}
use Rattle.sv_tree.specs.declared.statements.Stmt.{Stmt}
use Rattle.sv_tree.specs.declared.statements.Variables.{Variables}
use Rattle.sv_tree.specs.declared.items.Import.{Import}
use Rattle.sv_tree.specs.declared.items.Export.{Export}
use Rattle.sv_tree.specs.declared.items.Function.{Function}
use Rattle.sv_tree.specs.declared.items.Task.{Task}
use Rattle.sv_tree.specs.declared.items.Item.{Item}
use Rattle.sv_tree.specs.declared.items.Item.TheVariants as items
use Rattle.sv_tree.specs.Classes.{a_word, word_of, is, is_class}
use Rattle.sv_tree.specs.Items.{item_told}
use Rattle.sv_tree.proofs.ClassLemmas.{knows}
use Rattle.sv_cursor.proofs.Tokens.{apart_of, name_class}
use Rattle.sv_cursor.proofs.LeafRules.{a_name, name_rule, a_label}
use Rattle.sv_types.specs.Reading.{begins_data_type}
use Rattle.sv_types.proofs.Words.{class_apart}
use Rattle.sv_stmt.proofs.Goes.{a_stmt, stmt_free}
use Rattle.sv_stmt.proofs.VariableRules.{a_variables, variables_starts, variables_rule}
use Rattle.sv_stmt.proofs.StmtRules.{stmt_rule}
use Rattle.sv_parse.specs.Reading as spec
use Rattle.sv_parse.specs.Reading.{begins_item}
use Rattle.sv_parse.proofs.FormalRules.{name_not_type}
use Rattle.sv_parse.proofs.HeaderRules.{an_import, import_starts, import_rule, an_export, export_starts, export_rule}
use Rattle.sv_parse.proofs.BodyRules.{end_grabs, a_function, function_starts, function_rule, a_task, task_starts, task_rule}

-- ---- items that are no declaration of their own

-- "initial" statement
abbrev an_initial : Kind Word (ℕ × Stmt)
an_initial = pair (place never) (λ _. behind (word_of classes.Initial) a_stmt)

initial_starts : Starts (is classes.Initial) an_initial
initial_starts n x r h = (knows classes.Initial refl).yes

-- "(" ")" ";"
abbrev after_names : Kind Word (Unit {0})
after_names = behind (word_of classes.OpenParen) (behind (word_of classes.CloseParen) (one (word_of classes.Semicolon)))

-- name name "(" ")" ";"
abbrev an_instance : Kind Word (Name × (Name × Unit {0}))
an_instance = pair a_name (λ _. pair a_name (λ _. after_names))

instance_starts : Starts (is classes.Name) an_instance
instance_starts n x r h = name_class x.0.bytes h.1.0

instance_rule : {live : Type 0} {d : ℕ} → Rule live never an_instance (λ p. items.Instance p.0 p.1.0) d spec.instance
unfolding spec.instance
instance_rule = seq (λ m. m) (λ m p. items.Instance m p.0) _ (name_rule (λ t e. refl))
    (λ m. seq (λ n. n) (λ n u. items.Instance m n) _ (name_rule (λ t e. refl))
    (λ n. token_then (is classes.OpenParen) (word_of classes.OpenParen) (knows classes.OpenParen refl) refl
    (token_then (is classes.CloseParen) (word_of classes.CloseParen) (knows classes.CloseParen refl) refl
    (last (is classes.Semicolon) (word_of classes.Semicolon) (items.Instance m n) (knows classes.Semicolon refl) refl))))

-- ---- which tokens begin none of the last sorts

sum_off : {X Y : Type 0} (test : Option Word → Bool) (J : Kind Word X) (K : Kind Word Y) → Off test J → Off test K → Off test (sum J K)
sum_off test J K j k n (inl x) r h g = j n x r h g
sum_off test J K j k n (inr y) r h g = k n y r h g

abbrev Tests : Type 0
Tests = Option Word → Bool

abbrev from_initial : Kind Word ((ℕ × Stmt) ⊎ (Name × (Name × Unit {0})))
from_initial = sum an_initial an_instance

abbrev FromTask : Type 0
FromTask = Task ⊎ ((ℕ × Stmt) ⊎ (Name × (Name × Unit {0})))

abbrev from_task : Kind Word FromTask
from_task = sum a_task from_initial

abbrev from_function : Kind Word (Function ⊎ FromTask)
from_function = sum a_function from_task

abbrev from_export : Kind Word (Export ⊎ (Function ⊎ FromTask))
from_export = sum an_export from_function

abbrev from_import : Kind Word (Import ⊎ (Export ⊎ (Function ⊎ FromTask)))
from_import = sum an_import from_export

instance_off : (test : Tests) → Apart (is classes.Name) test → Off test an_instance
instance_off test a = starts_off (is classes.Name) test an_instance instance_starts a

initial_off : (test : Tests) → Apart (is classes.Initial) test → Apart (is classes.Name) test → Off test from_initial
initial_off test a b = sum_off test an_initial an_instance (starts_off (is classes.Initial) test an_initial initial_starts a) (instance_off test b)

task_off : (test : Tests) → Apart (is classes.Task) test → Apart (is classes.Initial) test → Apart (is classes.Name) test → Off test from_task
task_off test a b c = sum_off test a_task from_initial (starts_off (is classes.Task) test a_task task_starts a) (initial_off test b c)

function_off : (test : Tests) → Apart (is classes.Function) test → Apart (is classes.Task) test → Apart (is classes.Initial) test → Apart (is classes.Name) test → Off test from_function
function_off test a b c d = sum_off test a_function from_task (starts_off (is classes.Function) test a_function function_starts a) (task_off test b c d)

export_off : (test : Tests) → Apart (is classes.Export) test → Apart (is classes.Function) test → Apart (is classes.Task) test → Apart (is classes.Initial) test → Apart (is classes.Name) test → Off test from_export
export_off test a b c d e = sum_off test an_export from_function (starts_off (is classes.Export) test an_export export_starts a) (function_off test b c d e)

import_off : (test : Tests) → Apart (is classes.Import) test → Apart (is classes.Export) test → Apart (is classes.Function) test → Apart (is classes.Task) test → Apart (is classes.Initial) test → Apart (is classes.Name) test → Off test from_import
import_off test a b c d e f = sum_off test an_import from_export (starts_off (is classes.Import) test an_import import_starts a) (export_off test b c d e f)

not_type : Off begins_data_type from_import
unfolding is_class
not_type = import_off begins_data_type (class_apart classes.Import refl begins_data_type refl) (class_apart classes.Export refl begins_data_type refl) (class_apart classes.Function refl begins_data_type refl)
    (class_apart classes.Task refl begins_data_type refl) (class_apart classes.Initial refl begins_data_type refl) name_not_type

-- ---- items

-- what goes on with an item
abbrev pub item_grabs : Item → Option Word → Bool
item_grabs (items.Variables v) = never
item_grabs (items.Import i) = never
item_grabs (items.Export e) = never
item_grabs (items.Function f) = end_grabs f.end
item_grabs (items.Task t) = end_grabs t.end
item_grabs (items.Initial k s) = a_stmt.grabs s
item_grabs (items.Instance m n) = never

abbrev pub an_item : Kind Word Item
an_item = record { told = item_told; grabs = item_grabs }

abbrev Sorts : Type 0
Sorts = Variables ⊎ (Import ⊎ (Export ⊎ (Function ⊎ FromTask)))

abbrev all_sorts : Kind Word Sorts
all_sorts = sum a_variables from_import

abbrev item_of : Sorts → Item
item_of (inl v) = items.Variables v
item_of (inr (inl i)) = items.Import i
item_of (inr (inr (inl e))) = items.Export e
item_of (inr (inr (inr (inl f)))) = items.Function f
item_of (inr (inr (inr (inr (inl t))))) = items.Task t
item_of (inr (inr (inr (inr (inr (inl p)))))) = items.Initial p.0 p.1
item_of (inr (inr (inr (inr (inr (inr p)))))) = items.Instance p.0 p.1.0

item_tells : (x : Sorts) → item_told (item_of x) ≡ all_sorts.told x
item_tells (inl v) = refl
item_tells (inr (inl i)) = refl
item_tells (inr (inr (inl e))) = refl
item_tells (inr (inr (inr (inl f)))) = refl
item_tells (inr (inr (inr (inr (inl t))))) = refl
item_tells (inr (inr (inr (inr (inr (inl p)))))) = refl
item_tells (inr (inr (inr (inr (inr (inr p)))))) = refl

item_goes : (x : Sorts) (t : Option Word) → item_grabs (item_of x) t ≡ all_sorts.grabs x t
item_goes (inl v) t = refl
item_goes (inr (inl i)) t = refl
item_goes (inr (inr (inl e))) t = refl
item_goes (inr (inr (inr (inl f)))) t = refl
item_goes (inr (inr (inr (inr (inl k))))) t = refl
item_goes (inr (inr (inr (inr (inr (inl p)))))) t = refl
item_goes (inr (inr (inr (inr (inr (inr p)))))) t = refl

all_items : (z : Item) → (x : Sorts) × (item_of x ≡ z)
all_items (items.Variables v) = (inl v, refl)
all_items (items.Import i) = (inr (inl i), refl)
all_items (items.Export e) = (inr (inr (inl e)), refl)
all_items (items.Function f) = (inr (inr (inr (inl f))), refl)
all_items (items.Task t) = (inr (inr (inr (inr (inl t)))), refl)
all_items (items.Initial k s) = (inr (inr (inr (inr (inr (inl (k, s)))))), refl)
all_items (items.Instance m n) = (inr (inr (inr (inr (inr (inr (m, (n, tt))))))), refl)

-- a value for each sort
abbrev made : Sorts → Item
made = either items.Variables (either items.Import (either items.Export (either items.Function (either items.Task
    (either (λ (p : ℕ × Stmt). items.Initial p.0 p.1) (λ (p : Name × (Name × Unit {0})). items.Instance p.0 p.1.0))))))

item_made : (x : Sorts) → item_of x ≡ made x
item_made (inl v) = refl
item_made (inr (inl i)) = refl
item_made (inr (inr (inl e))) = refl
item_made (inr (inr (inr (inl f)))) = refl
item_made (inr (inr (inr (inr (inl t))))) = refl
item_made (inr (inr (inr (inr (inr (inl p)))))) = refl
item_made (inr (inr (inr (inr (inr (inr p)))))) = refl

-- ---- where an item ends, and which tokens begin one

name_item : (t : Option Word) → is classes.Name t ≡ true → begins_item t ≡ true
name_item t e = in_right (begins_data_type t) _ (in_right (is classes.Import t) _ (in_right (is classes.Export t) _ (in_right (is classes.Function t) _ (in_right (is classes.Task t) _ (in_right (is classes.Initial t) _ e)))))

else_not_item : Apart begins_item (is classes.Else)
unfolding is_class
else_not_item = apart_back (is classes.Else) begins_item (class_apart classes.Else refl begins_item refl)

colon_not_item : Apart begins_item (is classes.Colon)
unfolding is_class
colon_not_item = apart_back (is classes.Colon) begins_item (class_apart classes.Colon refl begins_item refl)

-- no item begins with what goes on with a label that may be absent
pub apart_from_end : (begins : Option Word → Bool) → Apart begins (is classes.Colon) → (e : Option Label) → Apart begins (end_grabs e)
apart_from_end begins apart e = option_apart begins (is classes.Colon) never a_label apart (λ t e. refl) (λ x t e. refl) e

-- a token that is no `else` and no `:` goes on with no item
pub item_apart : (begins : Option Word → Bool) → Apart begins (is classes.Else) → Apart begins (is classes.Colon) → (z : Item) → Apart begins (an_item.grabs z)
item_apart begins no_else no_colon (items.Variables v) t e = refl
item_apart begins no_else no_colon (items.Import i) t e = refl
item_apart begins no_else no_colon (items.Export x) t e = refl
item_apart begins no_else no_colon (items.Function f) t e = apart_from_end begins no_colon f.end t e
item_apart begins no_else no_colon (items.Task f) t e = apart_from_end begins no_colon f.end t e
item_apart begins no_else no_colon (items.Initial k s) t e = stmt_free s t (no_else t e) (no_colon t e)
item_apart begins no_else no_colon (items.Instance m n) t e = refl

item_at_end : begins_item None ≡ false
unfolding is_class
item_at_end = refl

item_starts : Starts begins_item an_item
unfolding is_class
item_starts n (items.Variables v) r h = in_left _ _ (variables_starts n v r h)
item_starts n (items.Import i) r h = refl
item_starts n (items.Export e) r h = refl
item_starts n (items.Function f) r h = refl
item_starts n (items.Task t) r h = refl
item_starts n (items.Initial k s) r h = refl
item_starts n (items.Instance m k) r h = name_item (Some (a_word m.bytes)) (name_class m.bytes h.1.0)

initial_rule : {live : Type 0} (d : ℕ) → Rule live never an_initial (λ p. items.Initial p.0 p.1) d (spec.initial d)
unfolding spec.initial
initial_rule d = numbered (λ k s. items.Initial k s) _ (λ k. token_then (is classes.Initial) (word_of classes.Initial) (knows classes.Initial refl) refl (mapped (λ s. items.Initial k s) (stmt_rule d (λ t e. refl))))

pub item_rule : {live : Type 0} (d : ℕ) → Rule live never an_item (λ x. x) d (spec.item d)
unfolding spec.item spec.foreign_item spec.routine_item spec.running_item
item_rule d = told_as an_item item_of (λ x. x) item_tells item_goes all_items
    (remade item_of item_made
    (choice begins_data_type variables_starts not_type (mapped items.Variables (variables_rule d (λ t e. refl)))
    (choice (is classes.Import) import_starts
    (export_off (is classes.Import) (apart_of classes.Export classes.Import refl) (apart_of classes.Function classes.Import refl) (apart_of classes.Task classes.Import refl) (apart_of classes.Initial classes.Import refl)
    (apart_of classes.Name classes.Import refl))
    (mapped items.Import import_rule)
    (choice (is classes.Export) export_starts
    (function_off (is classes.Export) (apart_of classes.Function classes.Export refl) (apart_of classes.Task classes.Export refl) (apart_of classes.Initial classes.Export refl) (apart_of classes.Name classes.Export refl))
    (mapped items.Export export_rule)
    (choice (is classes.Function) function_starts
    (task_off (is classes.Function) (apart_of classes.Task classes.Function refl) (apart_of classes.Initial classes.Function refl) (apart_of classes.Name classes.Function refl))
    (mapped items.Function (function_rule d))
    (choice (is classes.Task) task_starts (initial_off (is classes.Task) (apart_of classes.Initial classes.Task refl) (apart_of classes.Name classes.Task refl)) (mapped items.Task (task_rule d))
    (choice (is classes.Initial) initial_starts (instance_off (is classes.Initial) (apart_of classes.Name classes.Initial refl)) (initial_rule d) instance_rule)))))))

pub items_repeat : Repeats begins_item an_item
items_repeat = record { starts = item_starts; next = item_apart begins_item else_not_item colon_not_item; at_end = item_at_end }

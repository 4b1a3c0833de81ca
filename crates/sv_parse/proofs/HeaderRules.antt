-- The parsers of imports and exports, and of what stands in the headers of functions, are exact.
use Rattle.std.proofs.Common.{◌≡◌, ℕ, Bool, true, false, ◌||◌, ◌⊎◌, List, Option, Some, None, refl, inl, inr}
use Rattle.dpi_grammar.specs.Parser.{is_there}
use Rattle.dpi_grammar.proofs.Exact.{Kind, pair}
use Rattle.dpi_grammar.proofs.Rules.{Rule, never, seq, mapped, remade, told_as, numbered, place, token_then, last, one, behind, plainly}
use Rattle.dpi_grammar.proofs.Many.{Apart, Starts, option, option_grabs, perhaps, put_apart}
use Rattle.dpi_grammar.proofs.Firsts.{apart_back, or_apart, option_apart, in_left, in_right}
use Rattle.dpi_grammar.proofs.Choices.{either, sum, choice, starts_off}
use Rattle.dpi_lex.specs.Words.{Word}
use Rattle.sv_tree.specs.declared.class.Class.TheVariants as classes
use Rattle.sv_tree.specs.declared.kinds.Lifetime.{Lifetime}
use Rattle.sv_tree.specs.declared.kinds.Lifetime.TheVariants.{Automatic, Static}
use Rattle.sv_tree.specs.declared.kinds.Property.{Property}
use Rattle.sv_tree.specs.declared.kinds.Property.TheVariants.{Context}
use Rattle.sv_tree.specs.declared.leaves.Name.{Name}
use Rattle.sv_tree.specs.declared.leaves.Text.{Text}
use Rattle.sv_tree.specs.declared.types.DataType.{DataType}
use Rattle.sv_tree.specs.declared.items.Life.{Life}
use Rattle.sv_tree.specs.declared.items.Trait.{Trait}
use Rattle.sv_tree.specs.declared.items.ImportFormal.{ImportFormal}
use Rattle.sv_tree.specs.declared.items.Outcome.{Outcome}
use Rattle.sv_tree.specs.declared.items.Outcome.TheVariants as outcomes
use Rattle.sv_tree.specs.declared.items.ImportKind.{ImportKind}
use Rattle.sv_tree.specs.declared.items.ImportKind.TheVariants as import_kinds
use Rattle.sv_tree.specs.declared.items.Import.{Import}
use Rattle.sv_tree.specs.declared.items.Export.{Export}
use Rattle.sv_tree.specs.Classes.{word_of, class_at, is, is_class}
use Rattle.sv_tree.specs.Kinds.{lifetime_of, property_of}
use Rattle.sv_tree.specs.Items.{life_told, trait_told, outcome_told, c_name_told, import_kind_told, import_told, export_kind_told, export_told}
use Rattle.sv_tree.proofs.ClassLemmas.{knows}
use Rattle.sv_cursor.proofs.Tokens.{apart_of, apart_by, name_class}
use Rattle.sv_cursor.proofs.LeafRules.{a_name, name_rule, a_text, text_rule}
use Rattle.sv_types.specs.Reading.{begins_data_type}
use Rattle.sv_types.proofs.Words.{value_starts, value_apart, class_apart}
use Rattle.sv_types.proofs.TypeRules.{a_type, type_starts, type_rule, lone, lone_starts, lone_rule}
use Rattle.sv_parse.specs.Headers as spec
use Rattle.sv_parse.specs.Headers.{begins_life, begins_property}
use Rattle.sv_parse.proofs.HeaderWords.{lifetime_word, lifetime_reader, property_word, property_reader}
use Rattle.sv_parse.proofs.FormalRules.{name_not_of_type, some_import_formals, optional_import_formals_rule}

-- ---- lifetimes

abbrev pub a_life : Kind Word Life
a_life = record { told = life_told; grabs = λ _ _. false }

abbrev make_life : ℕ → Lifetime → Life
make_life k l = record { token = k; lifetime = l }

life_starts : Starts begins_life a_life
life_starts n x r h = value_starts (λ t. lifetime_of (class_at t)) lifetime_word lifetime_reader x.lifetime

life_rule : {live : Type 0} {d : ℕ} → Rule live never a_life (λ x. x) d spec.life
unfolding spec.life
life_rule = told_as a_life (λ (p : ℕ × Lifetime). make_life p.0 p.1) (λ x. x) (λ p. refl) (λ p t. refl) (λ l. ((l.token, l.lifetime), refl))
    (numbered make_life _ (λ k. mapped (make_life k) (plainly (λ t. lifetime_of (class_at t)) lifetime_word lifetime_reader (λ l. refl) Automatic)))

-- what goes on with a `function` and this lifetime
abbrev pub life_grabs : Option Life → Option Word → Bool
life_grabs = option_grabs begins_life a_life never

pub optional_life_rule : {live : Type 0} {d : ℕ} → Rule live never (option begins_life a_life never) (λ o. o) d spec.optional_life
optional_life_rule = perhaps begins_life never life_starts (λ t e. refl) life_rule

-- ---- what a function gives

abbrev pub outcome_grabs : Outcome → Option Word → Bool
outcome_grabs (outcomes.Data z) = a_type.grabs z
outcome_grabs (outcomes.Void k) = never

abbrev pub an_outcome : Kind Word Outcome
an_outcome = record { told = outcome_told; grabs = outcome_grabs }

abbrev pub begins_outcome : Option Word → Bool
begins_outcome t = is classes.Void t || begins_data_type t

abbrev Given : Type 0
Given = (ℕ × Unit {0}) ⊎ DataType

abbrev outcome_of : Given → Outcome
outcome_of (inl p) = outcomes.Void p.0
outcome_of (inr z) = outcomes.Data z

outcome_tells : (x : Given) → outcome_told (outcome_of x) ≡ (sum (lone classes.Void) a_type).told x
outcome_tells (inl p) = refl
outcome_tells (inr z) = refl

outcome_goes : (x : Given) (t : Option Word) → outcome_grabs (outcome_of x) t ≡ (sum (lone classes.Void) a_type).grabs x t
outcome_goes (inl p) t = refl
outcome_goes (inr z) t = refl

all_outcomes : (z : Outcome) → (x : Given) × (outcome_of x ≡ z)
all_outcomes (outcomes.Data z) = (inr z, refl)
all_outcomes (outcomes.Void k) = (inl (k, tt), refl)

outcome_made : (x : Given) → outcome_of x ≡ either (λ (p : ℕ × Unit {0}). outcomes.Void p.0) outcomes.Data x
outcome_made (inl p) = refl
outcome_made (inr z) = refl

type_not_void : Apart begins_data_type (is classes.Void)
unfolding is_class
type_not_void = apart_back (is classes.Void) begins_data_type (class_apart classes.Void refl begins_data_type refl)

outcome_alone : {live : Type 0} {d : ℕ} → Rule live never an_outcome (λ x. x) d spec.outcome
unfolding spec.outcome spec.void
outcome_alone = told_as an_outcome outcome_of (λ x. x) outcome_tells outcome_goes all_outcomes
    (remade outcome_of outcome_made
    (choice (is classes.Void) (lone_starts classes.Void refl) (starts_off begins_data_type (is classes.Void) a_type type_starts type_not_void) (lone_rule classes.Void refl outcomes.Void) (mapped outcomes.Data (type_rule (λ t e. refl)))))

outcome_starts : Starts begins_outcome an_outcome
outcome_starts n (outcomes.Data z) r h = in_right _ _ (type_starts n z r h)
outcome_starts n (outcomes.Void k) r h = in_left _ _ (knows classes.Void refl).yes

pub outcome_rule : {live : Type 0} {d : ℕ} (before : Option Word → Bool) → Apart begins_outcome before → Rule live before an_outcome (λ x. x) d spec.outcome
outcome_rule before apart = put_apart begins_outcome before outcome_starts apart outcome_alone

-- no outcome goes on with a name
pub name_not_of_outcome : (o : Outcome) → Apart (is classes.Name) (an_outcome.grabs o)
name_not_of_outcome (outcomes.Data z) t e = name_not_of_type z t e
name_not_of_outcome (outcomes.Void k) t e = refl

life_not_outcome : (l : Lifetime) → begins_outcome (Some (lifetime_word l)) ≡ false
unfolding is_class
life_not_outcome Automatic = refl
life_not_outcome Static = refl

-- what begins an outcome is no lifetime
pub outcome_not_of_life : (l : Option Life) → Apart begins_outcome (life_grabs l)
outcome_not_of_life l = option_apart begins_outcome begins_life never a_life
    (apart_back begins_life begins_outcome (value_apart (λ t. lifetime_of (class_at t)) lifetime_word lifetime_reader begins_outcome life_not_outcome)) (λ t e. refl) (λ x t e. refl) l

-- ---- properties of imports, and names in C

abbrev pub a_trait : Kind Word Trait
a_trait = record { told = trait_told; grabs = λ _ _. false }

abbrev make_trait : ℕ → Property → Trait
make_trait k p = record { token = k; property = p }

trait_starts : Starts begins_property a_trait
trait_starts n x r h = value_starts (λ t. property_of (class_at t)) property_word property_reader x.property

property_rule : {live : Type 0} {d : ℕ} → Rule live never a_trait (λ x. x) d spec.property
unfolding spec.property
property_rule = told_as a_trait (λ (p : ℕ × Property). make_trait p.0 p.1) (λ x. x) (λ p. refl) (λ p t. refl) (λ l. ((l.token, l.property), refl))
    (numbered make_trait _ (λ k. mapped (make_trait k) (plainly (λ t. property_of (class_at t)) property_word property_reader (λ p. refl) Context)))

abbrev trait_grabs : Option Trait → Option Word → Bool
trait_grabs = option_grabs begins_property a_trait never

optional_property_rule : {live : Type 0} {d : ℕ} → Rule live never (option begins_property a_trait never) (λ o. o) d spec.optional_property
optional_property_rule = perhaps begins_property never trait_starts (λ t e. refl) property_rule

-- name "="
abbrev pub a_c_name : Kind Word Name
a_c_name = record { told = c_name_told; grabs = λ _ _. false }

c_name_starts : Starts (is classes.Name) a_c_name
c_name_starts n x r h = name_class x.bytes h.1.0

c_name_rule : {live : Type 0} {d : ℕ} → Rule live never a_c_name (λ x. x) d spec.c_name
unfolding spec.c_name
c_name_rule = told_as a_c_name (λ (p : Name × Unit {0}). p.0) (λ x. x) (λ p. refl) (λ p t. refl) (λ n. ((n, tt), refl))
    (seq (λ n. n) (λ n _. n) _ (name_rule (λ t e. refl)) (λ n. last (is classes.Assign) (word_of classes.Assign) n (knows classes.Assign refl) refl))

abbrev c_name_grabs : (Option Word → Bool) → Option Name → Option Word → Bool
c_name_grabs before = option_grabs (is classes.Name) a_c_name before

optional_c_name_rule : {live : Type 0} {d : ℕ} (before : Option Word → Bool) → Apart (is classes.Name) before → Rule live before (option (is classes.Name) a_c_name before) (λ o. o) d spec.optional_c_name
optional_c_name_rule before apart = perhaps (is classes.Name) before c_name_starts apart c_name_rule

name_not_of_trait : (p : Option Trait) → Apart (is classes.Name) (trait_grabs p)
name_not_of_trait p = option_apart (is classes.Name) begins_property never a_trait (apart_by classes.Name (λ o. is_there (property_of o)) refl) (λ t e. refl) (λ x t e. refl) p

-- ---- what is imported

abbrev begins_kind : Option Word → Bool
begins_kind t = is classes.Task t || is classes.Function t

abbrev import_kind_grabs : ImportKind → Option Word → Bool
import_kind_grabs (import_kinds.Function k o) = an_outcome.grabs o
import_kind_grabs (import_kinds.Task k) = never

abbrev an_import_kind : Kind Word ImportKind
an_import_kind = record { told = import_kind_told; grabs = import_kind_grabs }

-- "function" (type | "void")
abbrev function_kind : Kind Word (ℕ × Outcome)
function_kind = pair (place never) (λ _. behind (word_of classes.Function) an_outcome)

abbrev Imported : Type 0
Imported = (ℕ × Unit {0}) ⊎ (ℕ × Outcome)

abbrev kind_of : Imported → ImportKind
kind_of (inl p) = import_kinds.Task p.0
kind_of (inr p) = import_kinds.Function p.0 p.1

kind_tells : (x : Imported) → import_kind_told (kind_of x) ≡ (sum (lone classes.Task) function_kind).told x
kind_tells (inl p) = refl
kind_tells (inr p) = refl

kind_goes : (x : Imported) (t : Option Word) → import_kind_grabs (kind_of x) t ≡ (sum (lone classes.Task) function_kind).grabs x t
kind_goes (inl p) t = refl
kind_goes (inr p) t = refl

all_kinds : (z : ImportKind) → (x : Imported) × (kind_of x ≡ z)
all_kinds (import_kinds.Function k o) = (inr (k, o), refl)
all_kinds (import_kinds.Task k) = (inl (k, tt), refl)

kind_made : (x : Imported) → kind_of x ≡ either (λ (p : ℕ × Unit {0}). import_kinds.Task p.0) (λ (p : ℕ × Outcome). import_kinds.Function p.0 p.1) x
kind_made (inl p) = refl
kind_made (inr p) = refl

function_starts : Starts (is classes.Function) function_kind
function_starts n x r h = (knows classes.Function refl).yes

function_rule : {live : Type 0} {d : ℕ} → Rule live never function_kind (λ p. import_kinds.Function p.0 p.1) d spec.import_function
unfolding spec.import_function
function_rule = numbered (λ k o. import_kinds.Function k o) _
    (λ k. token_then (is classes.Function) (word_of classes.Function) (knows classes.Function refl) refl (mapped (λ o. import_kinds.Function k o) (outcome_rule never (λ t e. refl))))

import_kind_alone : {live : Type 0} {d : ℕ} → Rule live never an_import_kind (λ x. x) d spec.import_kind
unfolding spec.import_kind spec.import_task
import_kind_alone = told_as an_import_kind kind_of (λ x. x) kind_tells kind_goes all_kinds
    (remade kind_of kind_made
    (choice (is classes.Task) (lone_starts classes.Task refl) (starts_off (is classes.Function) (is classes.Task) function_kind function_starts (apart_of classes.Function classes.Task refl)) (lone_rule classes.Task refl import_kinds.Task) function_rule))

import_kind_starts : Starts begins_kind an_import_kind
import_kind_starts n (import_kinds.Function k o) r h = in_right _ _ (knows classes.Function refl).yes
import_kind_starts n (import_kinds.Task k) r h = in_left _ _ (knows classes.Task refl).yes

import_kind_rule : {live : Type 0} {d : ℕ} (before : Option Word → Bool) → Apart begins_kind before → Rule live before an_import_kind (λ x. x) d spec.import_kind
import_kind_rule before apart = put_apart begins_kind before import_kind_starts apart import_kind_alone

name_not_of_kind : (i : ImportKind) → Apart (is classes.Name) (an_import_kind.grabs i)
name_not_of_kind (import_kinds.Function k o) t e = name_not_of_outcome o t e
name_not_of_kind (import_kinds.Task k) t e = refl

kind_not_name : Apart begins_kind (is classes.Name)
kind_not_name = or_apart (is classes.Task) (is classes.Function) (is classes.Name) (apart_of classes.Task classes.Name refl) (apart_of classes.Function classes.Name refl)

kind_not_property : Apart begins_kind begins_property
kind_not_property = or_apart (is classes.Task) (is classes.Function) begins_property (apart_by classes.Task (λ o. is_there (property_of o)) refl) (apart_by classes.Function (λ o. is_there (property_of o)) refl)

kind_not_of_trait : (p : Option Trait) → Apart begins_kind (trait_grabs p)
kind_not_of_trait p = option_apart begins_kind begins_property never a_trait kind_not_property (λ t e. refl) (λ x t e. refl) p

kind_not_of_c_name : (before : Option Word → Bool) → Apart begins_kind before → (c : Option Name) → Apart begins_kind (c_name_grabs before c)
kind_not_of_c_name before apart c = option_apart begins_kind (is classes.Name) before a_c_name kind_not_name apart (λ x t e. refl) c

-- ---- imports

abbrev ImportParts : Type 0
ImportParts = Text × (Option Trait × (Option Name × (ImportKind × (Name × (Option (List ImportFormal) × Unit {0})))))

abbrev make_import : ℕ → ImportParts → Import
make_import k p = record { token = k; text = p.0; property = p.1.0; c_name = p.1.1.0; kind = p.1.1.1.0; name = p.1.1.1.1.0; formals = p.1.1.1.1.1.0 }

abbrev pub an_import : Kind Word Import
an_import = record { told = import_told; grabs = λ _ _. false }

pub import_starts : Starts (is classes.Import) an_import
import_starts n x r h = (knows classes.Import refl).yes

semicolon_not_of_formals : (o : Option (List ImportFormal)) → Apart (is classes.Semicolon) ((option (is classes.OpenParen) some_import_formals never).grabs o)
semicolon_not_of_formals o = option_apart (is classes.Semicolon) (is classes.OpenParen) never some_import_formals (apart_of classes.Semicolon classes.OpenParen refl) (λ t e. refl) (λ x t e. refl) o

pub import_rule : {live : Type 0} {d : ℕ} → Rule live never an_import (λ x. x) d spec.import
unfolding spec.import
import_rule = told_as an_import (λ (p : ℕ × ImportParts). make_import p.0 p.1) (λ x. x) (λ p. refl) (λ p t. refl)
    (λ i. ((i.token, (i.text, (i.property, (i.c_name, (i.kind, (i.name, (i.formals, tt))))))), refl))
    (numbered make_import _ (λ k. token_then (is classes.Import) (word_of classes.Import) (knows classes.Import refl) refl
    (seq (λ s. s) (λ s p. make_import k (s, p)) _ (text_rule (λ t e. refl))
    (λ s. seq (λ p. p) (λ p q. make_import k (s, (p, q))) _ optional_property_rule
    (λ p. seq (λ c. c) (λ c q. make_import k (s, (p, (c, q)))) _ (optional_c_name_rule (trait_grabs p) (name_not_of_trait p))
    (λ c. seq (λ i. i) (λ i q. make_import k (s, (p, (c, (i, q))))) _ (import_kind_rule (c_name_grabs (trait_grabs p) c) (kind_not_of_c_name (trait_grabs p) (kind_not_of_trait p) c))
    (λ i. seq (λ n. n) (λ n q. make_import k (s, (p, (c, (i, (n, q)))))) _ (name_rule (name_not_of_kind i))
    (λ n. seq (λ fs. fs) (λ fs u. make_import k (s, (p, (c, (i, (n, (fs, u))))))) _ optional_import_formals_rule
    (λ fs. last (is classes.Semicolon) (word_of classes.Semicolon) (make_import k (s, (p, (c, (i, (n, (fs, tt))))))) (knows classes.Semicolon refl)
    (semicolon_not_of_formals fs _ (knows classes.Semicolon refl).yes))))))))))

-- ---- exports

abbrev an_export_kind : Kind Word Bool
an_export_kind = record { told = export_kind_told; grabs = λ _ _. false }

abbrev task_of : Unit {0} ⊎ Unit {0} → Bool
task_of (inl u) = true
task_of (inr u) = false

abbrev one_of : Kind Word (Unit {0} ⊎ Unit {0})
one_of = sum (one (word_of classes.Task)) (one (word_of classes.Function))

export_kind_tells : (x : Unit {0} ⊎ Unit {0}) → export_kind_told (task_of x) ≡ one_of.told x
export_kind_tells (inl u) = refl
export_kind_tells (inr u) = refl

export_kind_goes : (x : Unit {0} ⊎ Unit {0}) (t : Option Word) → false ≡ one_of.grabs x t
export_kind_goes (inl u) t = refl
export_kind_goes (inr u) t = refl

all_export_kinds : (z : Bool) → (x : Unit {0} ⊎ Unit {0}) × (task_of x ≡ z)
all_export_kinds true = (inl tt, refl)
all_export_kinds false = (inr tt, refl)

task_made : (x : Unit {0} ⊎ Unit {0}) → task_of x ≡ either (λ (_ : Unit {0}). true) (λ (_ : Unit {0}). false) x
task_made (inl u) = refl
task_made (inr u) = refl

task_starts : Starts (is classes.Task) (one (word_of classes.Task))
task_starts n x r h = (knows classes.Task refl).yes

function_word_starts : Starts (is classes.Function) (one (word_of classes.Function))
function_word_starts n x r h = (knows classes.Function refl).yes

export_kind_alone : {live : Type 0} {d : ℕ} → Rule live never an_export_kind (λ x. x) d spec.export_kind
unfolding spec.export_kind
export_kind_alone = told_as an_export_kind task_of (λ x. x) export_kind_tells export_kind_goes all_export_kinds
    (remade task_of task_made
    (choice (is classes.Task) task_starts (starts_off (is classes.Function) (is classes.Task) (one (word_of classes.Function)) function_word_starts (apart_of classes.Function classes.Task refl))
    (last (is classes.Task) (word_of classes.Task) true (knows classes.Task refl) refl) (last (is classes.Function) (word_of classes.Function) false (knows classes.Function refl) refl)))

export_kind_starts : Starts begins_kind an_export_kind
export_kind_starts n true r h = in_left _ _ (knows classes.Task refl).yes
export_kind_starts n false r h = in_right _ _ (knows classes.Function refl).yes

export_kind_rule : {live : Type 0} {d : ℕ} (before : Option Word → Bool) → Apart begins_kind before → Rule live before an_export_kind (λ x. x) d spec.export_kind
export_kind_rule before apart = put_apart begins_kind before export_kind_starts apart export_kind_alone

abbrev ExportParts : Type 0
ExportParts = Text × (Option Name × (Bool × (Name × Unit {0})))

abbrev make_export : ℕ → ExportParts → Export
make_export k p = record { token = k; text = p.0; c_name = p.1.0; task = p.1.1.0; name = p.1.1.1.0 }

abbrev pub an_export : Kind Word Export
an_export = record { told = export_told; grabs = λ _ _. false }

pub export_starts : Starts (is classes.Export) an_export
export_starts n x r h = (knows classes.Export refl).yes

pub export_rule : {live : Type 0} {d : ℕ} → Rule live never an_export (λ x. x) d spec.export
unfolding spec.export
export_rule = told_as an_export (λ (p : ℕ × ExportParts). make_export p.0 p.1) (λ x. x) (λ p. refl) (λ p t. refl)
    (λ e. ((e.token, (e.text, (e.c_name, (e.task, (e.name, tt))))), refl))
    (numbered make_export _ (λ k. token_then (is classes.Export) (word_of classes.Export) (knows classes.Export refl) refl
    (seq (λ s. s) (λ s p. make_export k (s, p)) _ (text_rule (λ t e. refl))
    (λ s. seq (λ c. c) (λ c q. make_export k (s, (c, q))) _ (optional_c_name_rule never (λ t e. refl))
    (λ c. seq (λ b. b) (λ b q. make_export k (s, (c, (b, q)))) _ (export_kind_rule (c_name_grabs never c) (kind_not_of_c_name never (λ t e. refl) c))
    (λ b. seq (λ n. n) (λ n u. make_export k (s, (c, (b, (n, u))))) _ (name_rule (λ t e. refl))
    (λ n. last (is classes.Semicolon) (word_of classes.Semicolon) (make_export k (s, (c, (b, (n, tt))))) (knows classes.Semicolon refl) refl)))))))

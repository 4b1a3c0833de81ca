-- The parsers of declarations of variables are exact.
use Rattle.std.proofs.Common.{◌≡◌, ℕ, Bool, true, false, List, [], Option, Some, refl}
use denote.Enum.Bare.{sameb}
use Rattle.dpi_grammar.specs.Parser.{and_then, is_there}
use Rattle.dpi_grammar.proofs.Exact.{Kind, pair}
use Rattle.dpi_grammar.proofs.Rules.{Rule, never, seq, mapped, told_as, last, one}
use Rattle.dpi_grammar.proofs.Many.{Starts, Apart, Repeats, list, many, option_grabs, perhaps, commas, separate, put_apart}
use Rattle.dpi_grammar.proofs.Firsts.{option_apart, list_apart, commas_apart}
use Rattle.dpi_lex.specs.Words.{Word}
use Rattle.sv_tree.specs.contracts.class.Class.{the_type}
use Rattle.sv_tree.specs.declared.class.Class.{Class}
use Rattle.sv_tree.specs.declared.class.Class.TheVariants as classes
use Rattle.sv_tree.specs.declared.leaves.Name.{Name}
use Rattle.sv_tree.specs.declared.types.DataType.{DataType}
use Rattle.sv_tree.specs.declared.types.Dimension.{Dimension}
use Rattle.sv_tree.specs.declared.statements.Init.{Init}
use Rattle.sv_tree.specs.declared.statements.Initializer.{Initializer}
use Rattle.sv_tree.specs.declared.statements.Declarator.{Declarator}
use Rattle.sv_tree.specs.declared.statements.Variables.{Variables}
use Rattle.sv_tree.specs.Classes.{word_of, is_class, is}
use Rattle.sv_tree.specs.Kinds.{signing_of}
use Rattle.sv_tree.specs.Statements.{initializer_told, declarator_told, variables_told}
use Rattle.sv_tree.proofs.ClassLemmas.{is_fixed, knows}
use Rattle.sv_cursor.proofs.Tokens.{apart_of, apart_by}
use Rattle.sv_cursor.proofs.LeafRules.{name_rule}
use Rattle.sv_types.specs.Reading.{begins_dimension, begins_data_type}
use Rattle.sv_types.proofs.Choices.{pair_starts}
use Rattle.sv_types.proofs.TypeRules.{a_type, type_starts, type_rule, type_free}
use Rattle.sv_types.proofs.DimensionRules.{a_dimension, dimensions_rule}
use Rattle.sv_expr.proofs.Frees.{stops}
use Rattle.sv_stmt.specs.ReadingVariables as spec
use Rattle.sv_stmt.proofs.Fronts.{keyword_rule, at_word, word_apart}
use Rattle.sv_stmt.proofs.Inits.{an_init, init_rule, init_stops}

-- ---- "=" init

abbrev pub an_initializer : Kind Word Initializer
an_initializer = record { told = initializer_told; grabs = λ i. an_init.grabs i.value }

abbrev initializer_of : ℕ → Init → Initializer
initializer_of k i = record { token = k; value = i }

initializer_starts : Starts (is classes.Assign) an_initializer
initializer_starts n x r h = (knows classes.Assign refl).yes

initializer_rule : {live : Type 0} (d : ℕ) → Rule live never an_initializer (λ x. x) d (spec.initializer d)
unfolding spec.initializer
initializer_rule d =
    told_as an_initializer (λ (p : ℕ × Init). initializer_of p.0 p.1) (λ x. x) (λ p. refl) (λ p t. refl) (λ z. ((z.token, z.value), refl))
    (keyword_rule classes.Assign initializer_of (λ k s. and_then (spec.init d s) (λ i s. _)) refl (λ k. mapped (initializer_of k) (init_rule d (λ t e. refl))))

-- ---- id dim* ("=" init)?

-- what dimensions go on with
abbrev pub dimensions_grab : List Dimension → Option Word → Bool
dimensions_grab ds = (list begins_dimension a_dimension never).grabs ds

abbrev pub a_declarator : Kind Word Declarator
a_declarator = record { told = declarator_told; grabs = λ d. option_grabs (is classes.Assign) an_initializer (dimensions_grab d.dimensions) d.initializer }

abbrev declarator_of : Name → List Dimension → Option Initializer → Declarator
declarator_of n ds i = record { name = n; dimensions = ds; initializer = i }

dimensions_free : (c : Class) → sameb the_type classes.OpenBracket c ≡ false → (ds : List Dimension) → Apart (is c) (dimensions_grab ds)
dimensions_free c other ds = list_apart (is c) begins_dimension never a_dimension (apart_of c classes.OpenBracket other) (λ t e. refl) (λ x t e. refl) ds

pub declarator_rule : {live : Type 0} {before : Option Word → Bool} (d : ℕ) → Apart (is classes.Name) before → Rule live before a_declarator (λ x. x) d (spec.declarator d)
unfolding spec.declarator
declarator_rule d apart =
    told_as a_declarator (λ (p : Name × (List Dimension × Option Initializer)). declarator_of p.0 p.1.0 p.1.1) (λ x. x) (λ p. refl) (λ p t. refl) (λ z. ((z.name, (z.dimensions, z.initializer)), refl))
    (seq (λ n. n) (λ n p. declarator_of n p.0 p.1) _ (name_rule apart)
    (λ n. seq (λ ds. ds) (λ ds i. declarator_of n ds i) _ (dimensions_rule never (λ t e. refl))
    (λ ds. mapped (λ i. declarator_of n ds i) (perhaps (is classes.Assign) (dimensions_grab ds) initializer_starts (dimensions_free classes.Assign refl ds) (initializer_rule d)))))

-- it doesn't go on with the word of this class
pub declarator_stops : (c : Class) → is_fixed c ≡ true → stops c ≡ false → sameb the_type classes.OpenBracket c ≡ false → sameb the_type classes.Assign c ≡ false → (x : Declarator) → Apart (is c) (a_declarator.grabs x)
declarator_stops c fixed stop other assign x =
    option_apart (is c) (is classes.Assign) (dimensions_grab x.dimensions) an_initializer (apart_of c classes.Assign assign) (dimensions_free c other x.dimensions)
    (λ i. word_apart c fixed (an_initializer.grabs i) (init_stops c fixed stop i.value)) x.initializer

-- ---- type declarator,+ ";"

abbrev some_declarators : Kind Word (List Declarator)
some_declarators = commas (is classes.Comma) (word_of classes.Comma) a_declarator

declarators_rule : {live : Type 0} {before : Option Word → Bool} (d : ℕ) → Apart (is classes.Name) before → Rule live before some_declarators (λ xs. xs) d (spec.declarators d)
unfolding is_class
declarators_rule d apart =
    separate (is classes.Comma) (word_of classes.Comma) (knows classes.Comma refl) refl (λ x. at_word classes.Comma refl (a_declarator.grabs x) (declarator_stops classes.Comma refl refl refl refl x))
    (declarator_rule d (λ t e. refl)) (declarator_rule d apart)

declarators_end : (xs : List Declarator) → some_declarators.grabs xs (Some (word_of classes.Semicolon)) ≡ false
declarators_end xs = at_word classes.Semicolon refl _
    (commas_apart (is classes.Semicolon) (is classes.Comma) (word_of classes.Comma) a_declarator (apart_of classes.Semicolon classes.Comma refl) (declarator_stops classes.Semicolon refl refl refl refl) xs)

abbrev pub a_variables : Kind Word Variables
a_variables = record { told = variables_told; grabs = λ _. never }

abbrev variables_of : DataType → List Declarator → Variables
variables_of t ds = record { kind = t; declarators = ds }

-- no type goes on with a name
pub type_name : (t : DataType) → Apart (is classes.Name) (a_type.grabs t)
type_name t u e = type_free t u (apart_by classes.Name (λ c. is_there (signing_of c)) refl u e) (apart_of classes.Name classes.OpenBracket refl u e)

variables_rule_never : {live : Type 0} (d : ℕ) → Rule live never a_variables (λ x. x) d (spec.variables d)
unfolding spec.variables
variables_rule_never d =
    told_as a_variables (λ (p : DataType × (List Declarator × Unit {0})). variables_of p.0 p.1.0) (λ x. x) (λ p. refl) (λ p t. refl) (λ z. ((z.kind, (z.declarators, tt)), refl))
    (seq (λ t. t) (λ t p. variables_of t p.0) _ (type_rule (λ t e. refl))
    (λ t. seq (λ ds. ds) (λ ds _. variables_of t ds) _ (declarators_rule d (type_name t))
    (λ ds. last (is classes.Semicolon) (word_of classes.Semicolon) (variables_of t ds) (knows classes.Semicolon refl) (declarators_end ds))))

pub variables_starts : Starts begins_data_type a_variables
variables_starts n z r h = pair_starts begins_data_type a_type (λ _. pair some_declarators (λ _. one (word_of classes.Semicolon))) type_starts n (z.kind, (z.declarators, tt)) r h

pub variables_rule : {live : Type 0} {before : Option Word → Bool} (d : ℕ) → Apart begins_data_type before → Rule live before a_variables (λ x. x) d (spec.variables d)
variables_rule {before = before} d apart = put_apart begins_data_type before variables_starts apart (variables_rule_never d)

-- ---- variables*

variables_repeat : Repeats begins_data_type a_variables
unfolding is_class
variables_repeat = record { starts = variables_starts; next = λ x t e. refl; at_end = refl }

-- declarations behind something that goes on with no type
abbrev pub some_variables : (Option Word → Bool) → Kind Word (List Variables)
some_variables prior = list begins_data_type a_variables prior

pub declarations_rule : {live : Type 0} (prior : Option Word → Bool) (d : ℕ) → Apart begins_data_type prior → Rule live prior (some_variables prior) (λ xs. xs) d (spec.declarations d)
declarations_rule prior d apart = many begins_data_type prior variables_repeat apart [] (variables_rule_never d)

-- what declarations go on with
pub declarations_apart : (a prior : Option Word → Bool) → Apart a begins_data_type → Apart a prior → (xs : List Variables) → Apart a ((some_variables prior).grabs xs)
declarations_apart a prior first_apart apart xs = list_apart a begins_data_type prior a_variables first_apart apart (λ x t e. refl) xs

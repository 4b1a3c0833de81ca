-- The parsers of formals are exact.
use Rattle.std.proofs.Common.{◌≡◌, ℕ, Bool, true, false, not, ◌||◌, List, [], ◌∷◌, map, Option, Some, None, refl}
use Rattle.dpi_grammar.specs.Parser.{is_there}
use Rattle.dpi_grammar.proofs.Exact.{Kind}
use Rattle.dpi_grammar.proofs.Rules.{Rule, never, seq, mapped, told_as, numbered, token_then, last, plainly}
use Rattle.dpi_grammar.proofs.Many.{Apart, Starts, or_both, option, option_grabs, perhaps, ends, list, a_list, lists}
use Rattle.dpi_grammar.proofs.Firsts.{Within, within_apart, in_left, in_right, but, option_apart, a_list_apart, starts_of}
use Rattle.dpi_lex.specs.Words.{Word}
use Rattle.sv_tree.specs.declared.class.Class.TheVariants as classes
use Rattle.sv_tree.specs.declared.kinds.Direction.{Direction}
use Rattle.sv_tree.specs.declared.kinds.Direction.TheVariants.{Input}
use Rattle.sv_tree.specs.declared.leaves.Name.{Name}
use Rattle.sv_tree.specs.declared.types.DataType.{DataType}
use Rattle.sv_tree.specs.declared.types.Dimension.{Dimension}
use Rattle.sv_tree.specs.declared.types.ImportType.{ImportType}
use Rattle.sv_tree.specs.declared.types.ImportDimension.{ImportDimension}
use Rattle.sv_tree.specs.declared.items.Way.{Way}
use Rattle.sv_tree.specs.declared.items.Formal.{Formal}
use Rattle.sv_tree.specs.declared.items.ImportFormal.{ImportFormal}
use Rattle.sv_tree.specs.Classes.{word_of, class_at, is, is_class}
use Rattle.sv_tree.specs.Kinds.{direction_of, signing_of}
use Rattle.sv_tree.specs.Items.{way_told, formal_told, formals_told, import_formal_told, import_formals_told}
use Rattle.sv_tree.proofs.ClassLemmas.{knows}
use Rattle.sv_cursor.proofs.Tokens.{apart_of, apart_by}
use Rattle.sv_cursor.proofs.LeafRules.{a_name, name_rule}
use Rattle.sv_types.specs.Reading.{begins_sign, begins_data_type, begins_dimension, is_type_class}
use Rattle.sv_types.proofs.Words.{value_starts, class_apart}
use Rattle.sv_types.proofs.TypeRules.{a_type, type_starts, type_rule, type_free}
use Rattle.sv_types.proofs.DimensionRules.{a_dimension, dimensions_rule}
use Rattle.sv_types.proofs.ImportRules.{an_import_type, import_type_starts, import_type_rule, import_type_free, an_import_dimension, import_dimensions_rule}
use Rattle.sv_parse.specs.Headers as spec
use Rattle.sv_parse.specs.Headers.{begins_direction, begins_formal}
use Rattle.sv_parse.proofs.HeaderWords.{direction_word, direction_reader, type_not_direction}

-- ---- directions

abbrev pub a_way : Kind Word Way
a_way = record { told = way_told; grabs = λ _ _. false }

abbrev make_way : ℕ → Direction → Way
make_way k d = record { token = k; direction = d }

way_starts : Starts begins_direction a_way
way_starts n x r h = value_starts (λ t. direction_of (class_at t)) direction_word direction_reader x.direction

direction_rule : {live : Type 0} {d : ℕ} → Rule live never a_way (λ x. x) d spec.direction
unfolding spec.direction
direction_rule = told_as a_way (λ (p : ℕ × Direction). make_way p.0 p.1) (λ x. x) (λ p. refl) (λ p t. refl) (λ w. ((w.token, w.direction), refl))
    (numbered make_way _ (λ k. mapped (make_way k) (plainly (λ t. direction_of (class_at t)) direction_word direction_reader (λ d. refl) Input)))

optional_direction_rule : {live : Type 0} {d : ℕ} (before : Option Word → Bool) → Apart begins_direction before
    → Rule live before (option begins_direction a_way before) (λ o. o) d spec.optional_direction
optional_direction_rule before apart = perhaps begins_direction before way_starts apart direction_rule

-- ---- what begins a formal

direction_begins : Within begins_direction begins_formal
direction_begins t e = in_left (begins_direction t) (begins_data_type t || is classes.Name t) e

type_begins : Within begins_data_type begins_formal
type_begins t e = in_right (begins_direction t) (begins_data_type t || is classes.Name t) (in_left (begins_data_type t) (is classes.Name t) e)

name_begins : Within (is classes.Name) begins_formal
name_begins t e = in_right (begins_direction t) (begins_data_type t || is classes.Name t) (in_right (begins_data_type t) (is classes.Name t) e)

name_not_direction : Apart (is classes.Name) begins_direction
name_not_direction = apart_by classes.Name (λ o. is_there (direction_of o)) refl

-- no type begins with a name
pub name_not_type : Apart (is classes.Name) begins_data_type
unfolding is_class
name_not_type = apart_by classes.Name is_type_class refl

-- no name goes on with a type
pub name_not_of_type : (z : DataType) → Apart (is classes.Name) (a_type.grabs z)
name_not_of_type z t e = type_free z t (apart_by classes.Name (λ o. is_there (signing_of o)) refl t e) (apart_of classes.Name classes.OpenBracket refl t e)

name_not_of_import_type : (z : ImportType) → Apart (is classes.Name) (an_import_type.grabs z)
name_not_of_import_type z t e = import_type_free z t (apart_by classes.Name (λ o. is_there (signing_of o)) refl t e) (apart_of classes.Name classes.OpenBracket refl t e)

at_none : begins_formal None ≡ false
unfolding is_class
at_none = refl

bracket_at_none : begins_dimension None ≡ false
unfolding is_class
bracket_at_none = refl

comma_not_bracket : begins_dimension (Some (word_of classes.Comma)) ≡ false
unfolding is_class
comma_not_bracket = refl

comma_at_none : is classes.Comma None ≡ false
unfolding is_class
comma_at_none = refl

close_not_formal : Apart (is classes.CloseParen) begins_formal
unfolding is_class
close_not_formal = class_apart classes.CloseParen refl begins_formal refl

-- the last of trees that go on with nothing
none_goes_on : {X : Type 0} (xs : List X) (t : Option Word) → ends never (map (λ _ _. false) xs) t ≡ false
none_goes_on [] t = refl
none_goes_on (x ∷ xs) t = none_goes_on xs t

-- ---- formals

abbrev Parts : Type 0 → Type 0 → Type 0
Parts T D = Option Way × (Option T × (Name × List D))

abbrev make_formal : Parts DataType Dimension → Formal
make_formal p = record { way = p.0; kind = p.1.0; name = p.1.1.0; dimensions = p.1.1.1 }

-- direction? type? name dimension*
abbrev pub a_formal : Kind Word Formal
a_formal = record { told = formal_told; grabs = λ f. (list begins_dimension a_dimension never).grabs f.dimensions }

pub formal_rule : {live : Type 0} {d : ℕ} (before : Option Word → Bool) → Apart begins_formal before → Rule live before a_formal (λ x. x) d spec.formal
unfolding spec.formal
formal_rule before apart =
    let outer = within_apart begins_direction begins_formal before direction_begins apart in
    let typed = within_apart begins_data_type begins_formal before type_begins apart in
    let named = within_apart (is classes.Name) begins_formal before name_begins apart in
    told_as a_formal make_formal (λ x. x) (λ p. refl) (λ p t. refl) (λ f. ((f.way, (f.kind, (f.name, f.dimensions))), refl))
    (seq (λ w. w) (λ w p. make_formal (w, p)) _ (optional_direction_rule before outer)
    (λ w. seq (λ k. k) (λ k p. make_formal (w, (k, p))) _
    (perhaps begins_data_type (option_grabs begins_direction a_way before w) type_starts (option_apart begins_data_type begins_direction before a_way type_not_direction typed (λ x t e. refl) w) (type_rule (λ t e. refl)))
    (λ k. seq (λ n. n) (λ n ds. make_formal (w, (k, (n, ds)))) _
    (name_rule (option_apart (is classes.Name) begins_data_type (option_grabs begins_direction a_way before w) a_type name_not_type
    (option_apart (is classes.Name) begins_direction before a_way name_not_direction named (λ x t e. refl) w) name_not_of_type k))
    (λ n. mapped (λ ds. make_formal (w, (k, (n, ds)))) (dimensions_rule never (λ t e. refl))))))

-- a formal goes on with a bracket alone
formal_free : (f : Formal) (t : Option Word) → begins_dimension t ≡ false → a_formal.grabs f t ≡ false
formal_free f t e = or_both _ _ e (none_goes_on f.dimensions t)

formal_starts : Starts begins_formal a_formal
formal_starts = starts_of begins_formal at_none (λ f. formal_free f None bracket_at_none) (formal_rule {live = Unit {0}} {d = 0} (λ t. not (begins_formal t)) (but begins_formal))

-- "(" (formal,+)? ")"
abbrev pub some_formals : Kind Word (List Formal)
some_formals = record { told = formals_told; grabs = λ _ _. false }

pub formals_start : Starts (is classes.OpenParen) some_formals
formals_start n x r h = (knows classes.OpenParen refl).yes

abbrev close : Option Word → Bool
close = is classes.CloseParen

close_not_of : (fs : List Formal) → Apart close ((a_list begins_formal (is classes.Comma) (word_of classes.Comma) a_formal never).grabs fs)
close_not_of fs = a_list_apart close begins_formal (is classes.Comma) never (word_of classes.Comma) a_formal close_not_formal (λ t e. refl) (apart_of classes.CloseParen classes.Comma refl)
    (λ f t e. formal_free f t (apart_of classes.CloseParen classes.OpenBracket refl t e)) fs

formals_rule : {live : Type 0} {d : ℕ} → Rule live never some_formals (λ x. x) d spec.formals
unfolding spec.formals
formals_rule = told_as some_formals (λ (p : List Formal × Unit {0}). p.0) (λ x. x) (λ p. refl) (λ p t. refl) (λ fs. ((fs, tt), refl))
    (token_then (is classes.OpenParen) (word_of classes.OpenParen) (knows classes.OpenParen refl) refl
    (seq (λ fs. fs) (λ fs _. fs) _
    (lists begins_formal (is classes.Comma) never (word_of classes.Comma) (knows classes.Comma refl) comma_at_none (λ f. formal_free f (Some (word_of classes.Comma)) comma_not_bracket) formal_starts (λ t e. refl) (formal_rule never (λ t e. refl)))
    (λ fs. last (is classes.CloseParen) (word_of classes.CloseParen) fs (knows classes.CloseParen refl) (close_not_of fs _ (knows classes.CloseParen refl).yes))))

pub optional_formals_rule : {live : Type 0} {d : ℕ} → Rule live never (option (is classes.OpenParen) some_formals never) (λ o. o) d spec.optional_formals
optional_formals_rule = perhaps (is classes.OpenParen) never formals_start (λ t e. refl) formals_rule

-- ---- formals of imports

abbrev make_import_formal : Parts ImportType ImportDimension → ImportFormal
make_import_formal p = record { way = p.0; kind = p.1.0; name = p.1.1.0; dimensions = p.1.1.1 }

-- direction? import_type? name import_dimension*
abbrev pub an_import_formal : Kind Word ImportFormal
an_import_formal = record { told = import_formal_told; grabs = λ f. (list begins_dimension an_import_dimension never).grabs f.dimensions }

pub import_formal_rule : {live : Type 0} {d : ℕ} (before : Option Word → Bool) → Apart begins_formal before → Rule live before an_import_formal (λ x. x) d spec.import_formal
unfolding spec.import_formal
import_formal_rule before apart =
    let outer = within_apart begins_direction begins_formal before direction_begins apart in
    let typed = within_apart begins_data_type begins_formal before type_begins apart in
    let named = within_apart (is classes.Name) begins_formal before name_begins apart in
    told_as an_import_formal make_import_formal (λ x. x) (λ p. refl) (λ p t. refl) (λ f. ((f.way, (f.kind, (f.name, f.dimensions))), refl))
    (seq (λ w. w) (λ w p. make_import_formal (w, p)) _ (optional_direction_rule before outer)
    (λ w. seq (λ k. k) (λ k p. make_import_formal (w, (k, p))) _
    (perhaps begins_data_type (option_grabs begins_direction a_way before w) import_type_starts (option_apart begins_data_type begins_direction before a_way type_not_direction typed (λ x t e. refl) w)
    (import_type_rule (λ t e. refl)))
    (λ k. seq (λ n. n) (λ n ds. make_import_formal (w, (k, (n, ds)))) _
    (name_rule (option_apart (is classes.Name) begins_data_type (option_grabs begins_direction a_way before w) an_import_type name_not_type
    (option_apart (is classes.Name) begins_direction before a_way name_not_direction named (λ x t e. refl) w) name_not_of_import_type k))
    (λ n. mapped (λ ds. make_import_formal (w, (k, (n, ds)))) (import_dimensions_rule never (λ t e. refl))))))

-- a formal of an import goes on with a bracket alone
import_formal_free : (f : ImportFormal) (t : Option Word) → begins_dimension t ≡ false → an_import_formal.grabs f t ≡ false
import_formal_free f t e = or_both _ _ e (none_goes_on f.dimensions t)

import_formal_starts : Starts begins_formal an_import_formal
import_formal_starts = starts_of begins_formal at_none (λ f. import_formal_free f None bracket_at_none)
    (import_formal_rule {live = Unit {0}} {d = 0} (λ t. not (begins_formal t)) (but begins_formal))

-- "(" (import_formal,+)? ")"
abbrev pub some_import_formals : Kind Word (List ImportFormal)
some_import_formals = record { told = import_formals_told; grabs = λ _ _. false }

pub import_formals_start : Starts (is classes.OpenParen) some_import_formals
import_formals_start n x r h = (knows classes.OpenParen refl).yes

close_not_of_import : (fs : List ImportFormal) → Apart close ((a_list begins_formal (is classes.Comma) (word_of classes.Comma) an_import_formal never).grabs fs)
close_not_of_import fs = a_list_apart close begins_formal (is classes.Comma) never (word_of classes.Comma) an_import_formal close_not_formal (λ t e. refl) (apart_of classes.CloseParen classes.Comma refl)
    (λ f t e. import_formal_free f t (apart_of classes.CloseParen classes.OpenBracket refl t e)) fs

import_formals_rule : {live : Type 0} {d : ℕ} → Rule live never some_import_formals (λ x. x) d spec.import_formals
unfolding spec.import_formals
import_formals_rule = told_as some_import_formals (λ (p : List ImportFormal × Unit {0}). p.0) (λ x. x) (λ p. refl) (λ p t. refl) (λ fs. ((fs, tt), refl))
    (token_then (is classes.OpenParen) (word_of classes.OpenParen) (knows classes.OpenParen refl) refl
    (seq (λ fs. fs) (λ fs _. fs) _
    (lists begins_formal (is classes.Comma) never (word_of classes.Comma) (knows classes.Comma refl) comma_at_none (λ f. import_formal_free f (Some (word_of classes.Comma)) comma_not_bracket) import_formal_starts (λ t e. refl)
    (import_formal_rule never (λ t e. refl)))
    (λ fs. last (is classes.CloseParen) (word_of classes.CloseParen) fs (knows classes.CloseParen refl) (close_not_of_import fs _ (knows classes.CloseParen refl).yes))))

pub optional_import_formals_rule : {live : Type 0} {d : ℕ} → Rule live never (option (is classes.OpenParen) some_import_formals never) (λ o. o) d spec.optional_import_formals
optional_import_formals_rule = perhaps (is classes.OpenParen) never import_formals_start (λ t e. refl) import_formals_rule

-- The parsers of types are exact.
use Rattle.std.proofs.Common.{◌≡◌, ℕ, Bool, true, false, not, List, [], Option, Some, None, Ok, refl}
use Rattle.dpi_grammar.specs.Parser.{and_then, expect, is_there}
use Rattle.dpi_grammar.proofs.Exact.{Kind}
use Rattle.dpi_grammar.proofs.Rules.{Rule, never, told_as, numbered, token_then, seq, mapped, last}
use Rattle.dpi_grammar.proofs.Many.{Starts, Apart, Repeats, list, many, or_both}
use Rattle.dpi_grammar.proofs.Firsts.{Within, apart_back, apart_within, within_apart, in_left, in_right, list_apart, but, starts_of}
use Rattle.dpi_lex.specs.Words.{Word}
use Rattle.c_tree.specs.declared.class.Class.{Class}
use Rattle.c_tree.specs.declared.class.Class.TheVariants as classes
use Rattle.c_tree.specs.declared.types.BaseWord.{BaseWord}
use Rattle.c_tree.specs.declared.types.CType.{CType}
use Rattle.c_tree.specs.declared.types.Star.{Star}
use Rattle.c_tree.specs.Classes.{word_of, is_class, is}
use Rattle.c_tree.specs.Bases.{base_word_of}
use Rattle.c_tree.specs.Types.{const_told, type_told, star_told}
use Rattle.c_tree.proofs.ClassLemmas.{knows}
use Rattle.c_cursor.proofs.Tokens.{apart_of, apart_by}
use Rattle.c_types.specs.Reading as spec
use Rattle.c_types.specs.Reading.{begins_base, begins_type}
use Rattle.c_types.proofs.BaseRules.{a_base, base_rule, base_grabs}

-- the end is of no class
no_class : (c : Class) → is c None ≡ false
unfolding is_class
no_class c = refl

-- ---- "const"*

abbrev pub a_constant : Kind Word ℕ
a_constant = record { told = const_told; grabs = λ _ _. false }

constant_starts : Starts (is classes.Const) a_constant
constant_starts n x r h = (knows classes.Const refl).yes

constants_repeat : Repeats (is classes.Const) a_constant
constants_repeat = record { starts = constant_starts; next = λ x t e. refl; at_end = no_class classes.Const }

constant_rule : {live : Type 0} {before : Option Word → Bool} {d : ℕ} → Apart (is classes.Const) before → Rule live before a_constant (λ x. x) d spec.constant
unfolding spec.constant
constant_rule apart =
    told_as a_constant (λ (p : ℕ × Unit {0}). p.0) (λ x. x) (λ p. refl) (λ p t. refl) (λ k. ((k, tt), refl))
    (numbered (λ k _. k) (λ k s. and_then (expect (is classes.Const) s) (λ _ s. Ok (k, s)))
    (λ k. last (is classes.Const) (word_of classes.Const) k (knows classes.Const refl) (apart _ (knows classes.Const refl).yes)))

-- the numbers of some `const`, behind something
abbrev pub some_constants : (Option Word → Bool) → Kind Word (List ℕ)
some_constants before = list (is classes.Const) a_constant before

pub constants_rule : {live : Type 0} {before : Option Word → Bool} {d : ℕ} → Apart (is classes.Const) before → Rule live before (some_constants before) (λ ks. ks) d spec.constants
constants_rule {before = before} apart = many (is classes.Const) before constants_repeat apart [] (constant_rule (λ t e. refl))

-- ---- types

-- the base goes on with its words, and the type with more `const`
abbrev pub a_type : Kind Word CType
a_type = record { told = type_told; grabs = λ t. (some_constants (a_base.grabs t.base)).grabs t.behind }

const_apart : Apart (is classes.Const) begins_base
const_apart = apart_by classes.Const (λ c. is_there (base_word_of c)) refl

base_apart : Apart begins_base (is classes.Const)
base_apart = apart_back (is classes.Const) begins_base const_apart

const_within : Within (is classes.Const) begins_type
const_within t e = in_left (is classes.Const t) (begins_base t) e

base_within : Within begins_base begins_type
base_within t e = in_right (is classes.Const t) (begins_base t) e

-- A test that no token passes that begins a type, nor one that the type stands behind.
pub behind_constants : (a before : Option Word → Bool) → Apart a (is classes.Const) → Apart a before → (ks : List ℕ) → Apart a ((some_constants before).grabs ks)
behind_constants a before apart free ks = list_apart a (is classes.Const) before a_constant apart free (λ k t e. refl) ks

pub behind_type : (a : Option Word → Bool) → Apart a begins_type → (x : CType) → Apart a (a_type.grabs x)
behind_type a apart x = behind_constants a (a_base.grabs x.base) (apart_within a begins_type (is classes.Const) const_within apart)
    (apart_within a begins_type (a_base.grabs x.base) (λ t e. base_within t (base_grabs x.base t e)) apart) x.behind

abbrev type_of : ℕ × (List ℕ × (List BaseWord × List ℕ)) → CType
type_of p = record { token = p.0; before = p.1.0; base = p.1.1.0; behind = p.1.1.1 }

pub type_rule : {live : Type 0} {before : Option Word → Bool} {d : ℕ} → Apart begins_type before → Rule live before a_type (λ t. t) d spec.type_name
unfolding spec.type_name
type_rule {before = before} apart =
    told_as a_type type_of (λ t. t) (λ p. refl) (λ p t. refl) (λ t. ((t.token, (t.before, (t.base, t.behind))), refl))
    (numbered (λ k p. type_of (k, p)) (λ k s. and_then (spec.constants s) (λ a s. and_then (spec.base s) (λ b s. and_then (spec.constants s) (λ c s. _))))
    (λ k. seq (λ a. a) (λ a p. type_of (k, (a, p))) (λ a s. and_then (spec.base s) (λ b s. and_then (spec.constants s) (λ c s. _)))
    (constants_rule (within_apart (is classes.Const) begins_type before const_within apart))
    (λ a. seq (λ b. b) (λ b c. type_of (k, (a, (b, c)))) (λ b s. and_then (spec.constants s) (λ c s. _))
    (base_rule (behind_constants begins_base before base_apart (within_apart begins_base begins_type before base_within apart) a))
    (λ b. mapped (λ c. type_of (k, (a, (b, c))))
    (constants_rule (apart_within (is classes.Const) begins_base (a_base.grabs b) (base_grabs b) const_apart))))))

no_token : (t : Option Word) → not (is_there t) ≡ true → begins_type t ≡ false
no_token None e = or_both (is classes.Const None) (begins_base None) (no_class classes.Const) refl
no_token (Some w) e = let bad : false ≡ true = e in absurd (cc)

type_ends : (x : CType) → a_type.grabs x None ≡ false
type_ends x = behind_type (λ t. not (is_there t)) no_token x None refl

pub type_starts : Starts begins_type a_type
type_starts =
    let rule : Rule (Unit {0}) (λ t. not (begins_type t)) a_type (λ t. t) 0 spec.type_name = type_rule (but begins_type) in
    starts_of begins_type (no_token None refl) type_ends rule

-- ---- stars

abbrev pub a_star : Kind Word Star
a_star = record { told = star_told; grabs = λ s. (some_constants never).grabs s.constants }

abbrev pub some_stars : (Option Word → Bool) → Kind Word (List Star)
some_stars before = list (is classes.Star) a_star before

star_starts : Starts (is classes.Star) a_star
star_starts n x r h = (knows classes.Star refl).yes

behind_star : (a : Option Word → Bool) → Apart a (is classes.Const) → (x : Star) → Apart a (a_star.grabs x)
behind_star a apart x = behind_constants a never apart (λ t e. refl) x.constants

stars_repeat : Repeats (is classes.Star) a_star
stars_repeat = record { starts = star_starts; next = behind_star (is classes.Star) (apart_of classes.Star classes.Const refl); at_end = no_class classes.Star }

star_rule : {live : Type 0} {before : Option Word → Bool} {d : ℕ} → Apart (is classes.Star) before → Rule live before a_star (λ x. x) d spec.star
unfolding spec.star
star_rule {before = before} apart =
    told_as a_star (λ (p : ℕ × List ℕ). let x : Star = record { token = p.0; constants = p.1 } in x) (λ x. x) (λ p. refl) (λ p t. refl) (λ x. ((x.token, x.constants), refl))
    (numbered (λ k c. let x : Star = record { token = k; constants = c } in x) (λ k s. and_then (expect (is classes.Star) s) (λ _ s. and_then (spec.constants s) (λ c s. _)))
    (λ k. token_then (is classes.Star) (word_of classes.Star) (knows classes.Star refl) (apart _ (knows classes.Star refl).yes)
    (mapped (λ c. let x : Star = record { token = k; constants = c } in x) (constants_rule (λ t e. refl)))))

pub stars_rule : {live : Type 0} {before : Option Word → Bool} {d : ℕ} → Apart (is classes.Star) before → Rule live before (some_stars before) (λ xs. xs) d spec.stars
stars_rule {before = before} apart = many (is classes.Star) before stars_repeat apart [] (star_rule (λ t e. refl))

-- what follows stars, and what they stand behind
pub behind_stars : (a before : Option Word → Bool) → Apart a (is classes.Star) → Apart a (is classes.Const) → Apart a before → (xs : List Star) → Apart a ((some_stars before).grabs xs)
behind_stars a before star const free xs = list_apart a (is classes.Star) before a_star star free (behind_star a const) xs

-- The parsers of parameters are exact.
use Rattle.std.proofs.Common.{◌≡◌, ℕ, Bool, true, false, not, ◌&&◌, List, [], ◌∷◌, Option, Some, None, if◌then◌else◌, refl, sym, ap, subst, arith}
use Rattle.std.specs.Prelude.{is_none}
use Rattle.dpi_grammar.specs.Told.{IsRight, words_in}
use Rattle.dpi_grammar.specs.Parser.{and_then, expect, optional, is_there, listed}
use Rattle.dpi_grammar.proofs.Lists.{true_not_false}
use Rattle.dpi_grammar.proofs.Exact.{Kind, Is}
use Rattle.dpi_grammar.proofs.Forms.{Form}
use Rattle.dpi_grammar.proofs.Rules.{Rule, never, told_as, shaped, numbered, token_then, seq, mapped, last}
use Rattle.dpi_grammar.proofs.Many.{Starts, Apart, option, perhaps, lists, or_both}
use Rattle.dpi_grammar.proofs.Firsts.{option_apart, a_list_apart, but, starts_of}
use Rattle.dpi_lex.specs.Words.{Word}
use Rattle.c_tree.specs.declared.class.Class.{Class}
use Rattle.c_tree.specs.declared.class.Class.TheVariants as classes
use Rattle.c_tree.specs.declared.leaves.Name.{Name}
use Rattle.c_tree.specs.declared.types.BaseWord.{BaseWord}
use Rattle.c_tree.specs.declared.types.BaseWord.TheVariants as words
use Rattle.c_tree.specs.declared.types.CType.{CType}
use Rattle.c_tree.specs.declared.types.Star.{Star}
use Rattle.c_tree.specs.declared.declarations.Size.{Size}
use Rattle.c_tree.specs.declared.declarations.ParamArray.{ParamArray}
use Rattle.c_tree.specs.declared.declarations.Param.{Param}
use Rattle.c_tree.specs.declared.declarations.Params.{Params}
use Rattle.c_tree.specs.declared.declarations.Params.TheVariants as params
use Rattle.c_tree.specs.Classes.{word_of, is}
use Rattle.c_tree.specs.Leaves.{comma}
use Rattle.c_tree.specs.Declarations.{is_empty, is_void, is_only_void, params_told}
use Rattle.c_tree.proofs.ClassLemmas.{knows}
use Rattle.c_cursor.specs.Reading.{name}
use Rattle.c_cursor.proofs.Tokens.{apart_of, name_class, word_is_not}
use Rattle.c_cursor.proofs.LeafRules.{a_name, name_rule}
use Rattle.c_types.specs.Reading.{begins_type, stars}
use Rattle.c_types.proofs.TypeRules.{a_type, type_rule, behind_type, some_stars, stars_rule, behind_stars}
use Rattle.c_parse.specs.Front.{begins_size}
use Rattle.c_parse.specs.ReadingDeclarations as spec
use Rattle.c_parse.proofs.Goes.{a_size, a_param_array, maybe_name, a_param, void_param, listed_params, some_params, the_params}
use Rattle.c_parse.proofs.Tokens.{type_off}
use Rattle.c_parse.proofs.VariableRules.{no_class, stops_at, size_rule, size_starts, size_close}

-- ---- "[" size? "]"

param_array_starts : Starts (is classes.OpenBracket) a_param_array
param_array_starts n x r h = (knows classes.OpenBracket refl).yes

abbrev maybe_size : Kind Word (Option Size)
maybe_size = option begins_size a_size never

size_no_close : begins_size (Some (word_of classes.CloseBracket)) ≡ false
size_no_close = or_both _ _ (word_is_not classes.Number classes.CloseBracket refl refl) (word_is_not classes.Name classes.CloseBracket refl refl)

maybe_size_close : (o : Option Size) → maybe_size.grabs o (Some (word_of classes.CloseBracket)) ≡ false
maybe_size_close None = or_both _ _ size_no_close refl
maybe_size_close (Some x) = size_close x

param_array_rule : {live : Type 0} {d : ℕ} → Rule live never a_param_array (λ x. x) d spec.param_array
unfolding spec.param_array
param_array_rule =
    told_as a_param_array (λ (p : ℕ × (Option Size × Unit {0})). let a : ParamArray = record { token = p.0; size = p.1.0 } in a) (λ x. x) (λ p. refl) (λ p t. refl) (λ a. ((a.token, (a.size, tt)), refl))
    (numbered (λ k p. let a : ParamArray = record { token = k; size = p.0 } in a) (λ k s. and_then (expect (is classes.OpenBracket) s) (λ _ s. and_then (optional begins_size spec.size s) (λ n s. and_then (expect (is classes.CloseBracket) s) (λ _ s. _))))
    (λ k. token_then (is classes.OpenBracket) (word_of classes.OpenBracket) (knows classes.OpenBracket refl) refl
    (seq (λ o. o) (λ o _. let a : ParamArray = record { token = k; size = o } in a) (λ o s. and_then (expect (is classes.CloseBracket) s) (λ _ s. _)) (perhaps begins_size never size_starts (λ t e. refl) (size_rule (λ t e. refl)))
    (λ o. last (is classes.CloseBracket) (word_of classes.CloseBracket) (record { token = k; size = o }) (knows classes.CloseBracket refl) (maybe_size_close o)))))

-- ---- type stars id? ("[" size? "]")?

name_starts : Starts (is classes.Name) a_name
name_starts n x r h = name_class x.bytes h.1.0

abbrev behind_both : CType → List Star → Option Word → Bool
behind_both t ss = (some_stars (a_type.grabs t)).grabs ss

-- a test that no token passes that a parameter goes on with
both_apart : (a : Option Word → Bool) → Apart a begins_type → Apart a (is classes.Star) → Apart a (is classes.Const) → (t : CType) (ss : List Star) → Apart a (behind_both t ss)
both_apart a type star const t ss = behind_stars a (a_type.grabs t) star const (behind_type a type t) ss

named_apart : (a : Option Word → Bool) → Apart a begins_type → Apart a (is classes.Star) → Apart a (is classes.Const) → Apart a (is classes.Name) → (t : CType) (ss : List Star) (o : Option Name) → Apart a ((maybe_name (behind_both t ss)).grabs o)
named_apart a type star const name t ss o = option_apart a (is classes.Name) (behind_both t ss) a_name name (both_apart a type star const t ss) (λ x t e. refl) o

param_apart : (a : Option Word → Bool) → Apart a begins_type → Apart a (is classes.Star) → Apart a (is classes.Const) → Apart a (is classes.Name) → Apart a (is classes.OpenBracket) → (p : Param) → Apart a (a_param.grabs p)
param_apart a type star const name bracket p =
    option_apart a (is classes.OpenBracket) ((maybe_name (behind_both p.kind p.stars)).grabs p.name) a_param_array bracket (named_apart a type star const name p.kind p.stars p.name) (λ x t e. refl) p.array

abbrev param_of : CType × (List Star × (Option Name × Option ParamArray)) → Param
param_of p = record { kind = p.0; stars = p.1.0; name = p.1.1.0; array = p.1.1.1 }

param_rule : {live : Type 0} {before : Option Word → Bool} {d : ℕ} → Apart begins_type before → Rule live before a_param (λ x. x) d spec.param
unfolding spec.param
param_rule apart =
    told_as a_param param_of (λ x. x) (λ p. refl) (λ p t. refl) (λ p. ((p.kind, (p.stars, (p.name, p.array))), refl))
    (seq (λ t. t) (λ t p. param_of (t, p)) (λ t s. and_then (stars s) (λ ss s. and_then (optional (is classes.Name) name s) (λ n s. and_then (optional (is classes.OpenBracket) spec.param_array s) (λ a s. _)))) (type_rule apart)
    (λ t. seq (λ ss. ss) (λ ss p. param_of (t, (ss, p))) (λ ss s. and_then (optional (is classes.Name) name s) (λ n s. and_then (optional (is classes.OpenBracket) spec.param_array s) (λ a s. _)))
    (stars_rule (behind_type (is classes.Star) (type_off classes.Star refl) t))
    (λ ss. seq (λ n. n) (λ n a. param_of (t, (ss, (n, a)))) (λ n s. and_then (optional (is classes.OpenBracket) spec.param_array s) (λ a s. _))
    (perhaps (is classes.Name) (behind_both t ss) name_starts (both_apart (is classes.Name) (type_off classes.Name refl) (apart_of classes.Name classes.Star refl) (apart_of classes.Name classes.Const refl) t ss) (name_rule (λ t e. refl)))
    (λ n. mapped (λ a. param_of (t, (ss, (n, a))))
    (perhaps (is classes.OpenBracket) ((maybe_name (behind_both t ss)).grabs n) param_array_starts
    (named_apart (is classes.OpenBracket) (type_off classes.OpenBracket refl) (apart_of classes.OpenBracket classes.Star refl) (apart_of classes.OpenBracket classes.Const refl) (apart_of classes.OpenBracket classes.Name refl) t ss n) param_array_rule)))))

param_comma : (p : Param) → Apart (is classes.Comma) (a_param.grabs p)
param_comma = param_apart (is classes.Comma) (type_off classes.Comma refl) (apart_of classes.Comma classes.Star refl) (apart_of classes.Comma classes.Const refl) (apart_of classes.Comma classes.Name refl) (apart_of classes.Comma classes.OpenBracket refl)

param_close : (p : Param) → Apart (is classes.CloseParen) (a_param.grabs p)
param_close =
    param_apart (is classes.CloseParen) (type_off classes.CloseParen refl) (apart_of classes.CloseParen classes.Star refl) (apart_of classes.CloseParen classes.Const refl) (apart_of classes.CloseParen classes.Name refl) (apart_of classes.CloseParen classes.OpenBracket refl)

some_stop : begins_type None ≡ false
some_stop = or_both _ _ (no_class classes.Const) refl

nothing_there : (t : Option Word) → not (is_there t) ≡ true → begins_type t ≡ false
nothing_there None e = some_stop
nothing_there (Some w) e = let bad : false ≡ true = e in absurd (cc)

no_class_there : (c : Class) (t : Option Word) → not (is_there t) ≡ true → is c t ≡ false
no_class_there c None e = no_class c
no_class_there c (Some w) e = let bad : false ≡ true = e in absurd (cc)

param_ends : (p : Param) → a_param.grabs p None ≡ false
param_ends p = param_apart (λ t. not (is_there t)) nothing_there (no_class_there classes.Star) (no_class_there classes.Const) (no_class_there classes.Name) (no_class_there classes.OpenBracket) p None refl

param_starts : Starts begins_type a_param
param_starts =
    let rule : Rule (Unit {0}) (λ t. not (begins_type t)) a_param (λ x. x) 0 spec.param = param_rule (but begins_type) in
    starts_of begins_type some_stop param_ends rule

-- ---- "void" | (param,+)?

listed_rule : {live : Type 0} {d : ℕ} → Rule live never some_params (λ xs. xs) d (listed begins_type (is classes.Comma) spec.param)
listed_rule = lists begins_type (is classes.Comma) never comma (knows classes.Comma refl) (no_class classes.Comma) (λ p. param_comma p _ (knows classes.Comma refl).yes) param_starts (λ t e. refl) (param_rule (λ t e. refl))

and_left : (a b : Bool) → (a && b) ≡ true → a ≡ true
and_left true b h = refl
and_left false b h = h

off_right : (a : Bool) → (a && false) ≡ false
off_right true = refl
off_right false = refl

not_right : {Z : Type 0} (a : Bool) → (a && false) ≡ true → Z
not_right a e = true_not_false (a && false) e (off_right a)

void_word : (base : List BaseWord) → is_void base ≡ true → base ≡ words.Void ∷ []
void_word (words.Void ∷ []) e = refl
void_word _ e = absurd (cc)

abbrev param_with : ℕ → List ℕ → List BaseWord → List ℕ → List Star → Option Name → Option ParamArray → Param
param_with k before base behind stars name array = record { kind = record { token = k; before = before; base = base; behind = behind }; stars = stars; name = name; array = array }

-- `void` alone is the word alone
only_void : (k : ℕ) (before : List ℕ) (base : List BaseWord) (behind : List ℕ) (stars : List Star) (name : Option Name) (array : Option ParamArray)
    → (is_empty before && is_void base && is_empty behind && is_empty stars && is_none name && is_none array) ≡ true → param_with k before base behind stars name array ≡ void_param k
only_void k [] base [] [] None None e =
    ap (λ base. param_with k [] base [] [] None None) (void_word base (and_left (is_void base) true (and_left (is_void base && true) true (and_left (is_void base && true && true) true (and_left (is_void base && true && true && true) true e)))))
only_void k [] base [] [] None (Some a) e = not_right _ e
only_void k [] base [] [] (Some n) array e = not_right _ (and_left _ (is_none array) e)
only_void k [] base [] (s ∷ ss) name array e = not_right _ (and_left _ (is_none name) (and_left _ (is_none array) e))
only_void k [] base (b ∷ bs) stars name array e = not_right _ (and_left _ (is_empty stars) (and_left _ (is_none name) (and_left _ (is_none array) e)))
only_void k (b ∷ bs) base behind stars name array e = let bad : false ≡ true = e in absurd (cc)

void_alone : (p : Param) (ps : List Param) → is_only_void (p ∷ ps) ≡ true → p ∷ ps ≡ void_param p.kind.token ∷ []
void_alone p [] e = ap (λ p. p ∷ []) (only_void p.kind.token p.kind.before p.kind.base p.kind.behind p.stars p.name p.array e)
void_alone p (q ∷ ps) e = let bad : false ≡ true = e in absurd (cc)

abbrev made_by : Bool → Param → List Param → Params
made_by b p ps = if b then params.Void p.kind.token else params.List (p ∷ ps)

params_tells : (b : Bool) (p : Param) (ps : List Param) → is_only_void (p ∷ ps) ≡ b → (n : ℕ) → Is some_params n (p ∷ ps) → words_in (params_told (made_by b p ps)).atoms ≡ words_in (some_params.told (p ∷ ps)).atoms
params_tells true p ps e n h = ap (λ l. words_in (some_params.told l).atoms) (sym (void_alone p ps e))
params_tells false p ps e n h = refl

params_levels : (b : Bool) (p : Param) (ps : List Param) → is_only_void (p ∷ ps) ≡ b → (params_told (made_by b p ps)).levels ≡ (some_params.told (p ∷ ps)).levels
params_levels true p ps e = ap (λ l. (some_params.told l).levels) (sym (void_alone p ps e))
params_levels false p ps e = omega arith

params_is : (b : Bool) (p : Param) (ps : List Param) → is_only_void (p ∷ ps) ≡ b → (n : ℕ) → Is some_params n (p ∷ ps) → IsRight n (params_told (made_by b p ps)).atoms
params_is true p ps e n h = let h2 = subst (λ l. Is some_params n l) (void_alone p ps e) h in (h2.0, tt)
params_is false p ps e n h = (ap not e, h)

params_goes : (b : Bool) (p : Param) (ps : List Param) (t : Option Word) → is_only_void (p ∷ ps) ≡ b → the_params.grabs (made_by b p ps) t ≡ some_params.grabs (p ∷ ps) t
params_goes true p ps t e = ap (λ l. some_params.grabs l t) (sym (void_alone p ps e))
params_goes false p ps t e = refl

tells_by : (n : ℕ) (ps : List Param) → Is some_params n ps → words_in (params_told (spec.params_of ps)).atoms ≡ words_in (some_params.told ps).atoms
tells_by n [] h = refl
tells_by n (p ∷ ps) h = params_tells (is_only_void (p ∷ ps)) p ps refl n h

levels_by : (ps : List Param) → (params_told (spec.params_of ps)).levels ≡ (some_params.told ps).levels
levels_by [] = refl
levels_by (p ∷ ps) = params_levels (is_only_void (p ∷ ps)) p ps refl

is_by : (n : ℕ) (ps : List Param) → Is some_params n ps → IsRight n (params_told (spec.params_of ps)).atoms
is_by n [] h = (refl, tt)
is_by n (p ∷ ps) h = params_is (is_only_void (p ∷ ps)) p ps refl n h

goes_by : (ps : List Param) (t : Option Word) → the_params.grabs (spec.params_of ps) t ≡ some_params.grabs ps t
goes_by [] t = refl
goes_by (p ∷ ps) t = params_goes (is_only_void (p ∷ ps)) p ps t refl

params_form : Form some_params the_params spec.params_of
params_form = record { tells = tells_by; levels_are = λ n ps h. levels_by ps; is = is_by; grabs = λ n ps t h. goes_by ps t }

not_only : (p : Param) (ps : List Param) (b : Bool) → is_only_void (p ∷ ps) ≡ b → not b ≡ true → made_by b p ps ≡ params.List (p ∷ ps)
not_only p ps true e h = let bad : false ≡ true = h in absurd (cc)
not_only p ps false e h = refl

params_all : (n : ℕ) (z : Params) → Is the_params n z → (ps : List Param) × Is some_params n ps × (spec.params_of ps ≡ z)
params_all n (params.Void k) h = (void_param k ∷ [], (h.0, (refl, tt)), refl)
params_all n (params.List []) h = ([], tt, refl)
params_all n (params.List (p ∷ ps)) h = (p ∷ ps, h.1, not_only p ps (is_only_void (p ∷ ps)) refl h.0)

pub params_rule : {live : Type 0} {d : ℕ} → Rule live never the_params (λ x. x) d spec.parameters
params_rule = shaped the_params spec.params_of (λ x. x) params_form params_all (mapped spec.params_of listed_rule)

-- the parenthesis behind them
pub params_close : (p : Params) → the_params.grabs p (Some (word_of classes.CloseParen)) ≡ false
params_close p = stops_at classes.CloseParen refl (the_params.grabs p) (a_list_apart (is classes.CloseParen) begins_type (is classes.Comma) never comma a_param (type_off classes.CloseParen refl) (λ t e. refl) (apart_of classes.CloseParen classes.Comma refl) param_close (listed_params p))

-- The parsers of external declarations and of files are exact.
use Rattle.std.proofs.Common.{◌≡◌, ℕ, Bool, true, false, ◌||◌, ◌⊎◌, List, [], ◌∷◌, map, Option, Some, None, Ok, refl, sym, ap, ◌∙◌, subst, inl, inr}
use Rattle.std.specs.Prelude.{option_map}
use Rattle.dpi_grammar.specs.Told.{◌&◌, maybe, each, IsRight}
use Rattle.dpi_grammar.specs.Parser.{and_then, expect}
use Rattle.dpi_grammar.specs.Faults.{IsUnambiguous}
use Rattle.dpi_grammar.proofs.Lists.{right_split}
use Rattle.dpi_grammar.proofs.Exact.{Kind, Is, Viable, pair}
use Rattle.dpi_grammar.proofs.Forms.{Form, told_form, within}
use Rattle.dpi_grammar.proofs.Rules.{Rule, never, place, one, behind, told_as, shaped, numbered, token_then, seq, mapped, last}
use Rattle.dpi_grammar.proofs.Many.{Starts, Apart, Repeats, list, many, ends, commas_repeat, behind_are, and_assoc, or_both}
use Rattle.dpi_grammar.proofs.Firsts.{apart_back, in_left, in_right, apart_or, option_apart, list_apart, but, starts_of}
use Rattle.dpi_grammar.proofs.Choices.{either, sum, Off, choice, Enters, choice_deeper}
use Rattle.dpi_grammar.proofs.Alternatives.{choice_past}
use Rattle.dpi_grammar.proofs.Whole.{whole, to_end, unambiguous}
use Rattle.dpi_lex.specs.Words.{Word}
use Rattle.c_tree.specs.declared.class.Class.TheVariants as classes
use Rattle.c_tree.specs.declared.leaves.Name.{Name}
use Rattle.c_tree.specs.declared.leaves.Define.{Define}
use Rattle.c_tree.specs.declared.types.CType.{CType}
use Rattle.c_tree.specs.declared.types.Star.{Star}
use Rattle.c_tree.specs.declared.declarations.Store.{Store}
use Rattle.c_tree.specs.declared.declarations.Array.{Array}
use Rattle.c_tree.specs.declared.declarations.Initializer.{Initializer}
use Rattle.c_tree.specs.declared.declarations.Declarator.{Declarator}
use Rattle.c_tree.specs.declared.declarations.Variables.{Variables}
use Rattle.c_tree.specs.declared.declarations.Params.{Params}
use Rattle.c_tree.specs.declared.statements.Part.{Part}
use Rattle.c_tree.specs.declared.file.Body.{Body}
use Rattle.c_tree.specs.declared.file.Body.TheVariants as bodies
use Rattle.c_tree.specs.declared.file.Function.{Function}
use Rattle.c_tree.specs.declared.file.External.{External}
use Rattle.c_tree.specs.declared.file.External.TheVariants as externals
use Rattle.c_tree.specs.declared.file.CFile.{CFile}
use Rattle.c_tree.specs.Classes.{word_of, is}
use Rattle.c_tree.specs.Leaves.{Tells, comma, quoted, name_told}
use Rattle.c_tree.specs.Types.{type_told, stars_told}
use Rattle.c_tree.specs.Declarations.{store_told, variables_told, declarator_told}
use Rattle.c_tree.specs.File.{body_told, external_told, file_told}
use Rattle.c_tree.proofs.ClassLemmas.{knows}
use Rattle.c_cursor.specs.Reading.{name}
use Rattle.c_cursor.proofs.Tokens.{apart_of, word_is_not, define_class}
use Rattle.c_cursor.proofs.LeafRules.{a_define, define_rule, name_rule}
use Rattle.c_types.specs.Reading.{begins_type, stars, type_name}
use Rattle.c_types.proofs.TypeRules.{a_type, type_rule, behind_type, stars_rule, behind_stars}
use Rattle.c_parse.specs.declared.head.Head.{Head}
use Rattle.c_parse.specs.Front.{begins_store, begins_variables, begins_external}
use Rattle.c_parse.specs.ReadingDeclarations.{more_declarators_by, parameters}
use Rattle.c_parse.specs.ReadingStatements.{block_by, inside}
use Rattle.c_parse.specs.ReadingFile as spec
use Rattle.c_expr.specs.Reading.{expr}
use Rattle.c_expr.proofs.ExprRules.{expr_rule}
use Rattle.c_expr.proofs.Frees.{expr_apart}
use Rattle.c_parse.proofs.Goes.{a_store, a_declarator, the_params, a_body, an_external, a_file}
use Rattle.c_parse.proofs.Tokens.{type_off, type_no_store, variables_off}
use Rattle.c_parse.proofs.VariableRules.{no_class, stops_at, stored_rule}
use Rattle.c_parse.proofs.InitRules.{declarator_tail, declarator_of, tail_apart, declarator_comma, declarator_semicolon, behind_rule, declarator_rule}
use Rattle.c_parse.proofs.ParamRules.{params_rule, params_close}
use Rattle.c_parse.proofs.SimpleRules.{no_start}
use Rattle.c_parse.proofs.NestedRules.{in_block, block_made, block_rule, block_told_as, block_all}
use Rattle.c_parse.proofs.LevelRules.{Good, some_readers, dead_readers, inside_good}

-- ---- ";" | block

abbrev a_prototype : Kind Word (ℕ × Unit {0})
a_prototype = pair (place never) (λ _. one (word_of classes.Semicolon))

abbrev body_made : (ℕ × (List Part × (ℕ × Unit {0}))) ⊎ (ℕ × Unit {0}) → Body
body_made = either (λ p. bodies.Block (block_made p)) (λ p. bodies.Prototype p.0)

abbrev body_parts : Kind Word ((ℕ × (List Part × (ℕ × Unit {0}))) ⊎ (ℕ × Unit {0}))
body_parts = sum (within in_block) a_prototype

body_tells : (x : (ℕ × (List Part × (ℕ × Unit {0}))) ⊎ (ℕ × Unit {0})) → body_told (body_made x) ≡ body_parts.told x
body_tells (inl p) = block_told_as p
body_tells (inr p) = refl

body_goes : (x : (ℕ × (List Part × (ℕ × Unit {0}))) ⊎ (ℕ × Unit {0})) (t : Option Word) → a_body.grabs (body_made x) t ≡ body_parts.grabs x t
body_goes (inl p) t = refl
body_goes (inr p) t = refl

body_all : (z : Body) → (x : (ℕ × (List Part × (ℕ × Unit {0}))) ⊎ (ℕ × Unit {0})) × (body_made x ≡ z)
body_all (bodies.Prototype k) = (inr (k, tt), refl)
body_all (bodies.Block b) = let m = block_all b in (inl m.0, ap bodies.Block m.1)

prototype_rule : {live : Type 0} {d : ℕ} → Rule live never a_prototype (λ p. bodies.Prototype p.0) d spec.prototype
unfolding spec.prototype
prototype_rule =
    numbered (λ k _. bodies.Prototype k) (λ k s. and_then (expect (is classes.Semicolon) s) (λ _ s. _))
    (λ k. last (is classes.Semicolon) (word_of classes.Semicolon) (bodies.Prototype k) (knows classes.Semicolon refl) refl)

prototype_viable : (n : ℕ) → Viable a_prototype 0 n []
prototype_viable n = let rule : Rule (Unit {0}) never a_prototype (λ p. bodies.Prototype p.0) 0 spec.prototype = prototype_rule in rule.closes n

block_enters : Enters Good (is classes.OpenBrace) (word_of classes.OpenBrace) in_block (λ p. bodies.Block (block_made p)) (λ r s. and_then (block_by r.value r.body s) (λ b s. Ok (bodies.Block b, s)))
block_enters = record {
  rule = λ live m r g. mapped bodies.Block (block_rule r.value r.body g.0 g.1);
  some = some_readers;
  dead = dead_readers;
  knows = knows classes.OpenBrace refl;
  starts = λ n x r h. refl;
}

body_rule : (d : ℕ) → Rule (Unit {0}) never a_body (λ x. x) d (spec.body d)
body_rule d =
    told_as a_body body_made (λ x. x) body_tells body_goes body_all
    (choice_deeper Good (is classes.OpenBrace) (word_of classes.OpenBrace) in_block (λ p. bodies.Block (block_made p)) (λ r s. and_then (block_by r.value r.body s) (λ b s. Ok (bodies.Block b, s))) block_enters a_prototype (λ p. bodies.Prototype p.0)
    (λ n x r h g. word_is_not classes.OpenBrace classes.Semicolon refl refl) refl (inside d) (inside_good d) prototype_viable prototype_rule)

-- ---- store? type stars id

abbrev head_told : Head → Tells
head_told h = maybe (option_map store_told h.store) & type_told h.kind & stars_told h.stars & name_told h.name

abbrev a_head : Kind Word Head
a_head = record { told = head_told; grabs = λ _ _. false }

abbrev head_of : Option Store × (CType × (List Star × Name)) → Head
head_of p = record { store = p.0; kind = p.1.0; stars = p.1.1.0; name = p.1.1.1 }

head_rule : {live : Type 0} {before : Option Word → Bool} {d : ℕ} → Apart begins_variables before → Rule live before a_head (λ x. x) d spec.head
unfolding spec.head
head_rule {before = before} apart =
    told_as a_head head_of (λ x. x) (λ p. refl) (λ p t. refl) (λ h. ((h.store, (h.kind, (h.stars, h.name))), refl))
    (seq (λ o. o) (λ o p. head_of (o, p)) (λ o s. and_then (type_name s) (λ t s. and_then (stars s) (λ ss s. and_then (name s) (λ n s. _)))) (stored_rule (λ t go. apart t (in_left (begins_store t) (begins_type t) go)))
    (λ o. seq (λ t. t) (λ t p. head_of (o, (t, p))) (λ t s. and_then (stars s) (λ ss s. and_then (name s) (λ n s. _)))
    (type_rule (option_apart begins_type begins_store before a_store type_no_store (λ t go. apart t (in_right (begins_store t) (begins_type t) go)) (λ x t go. refl) o))
    (λ t. seq (λ ss. ss) (λ ss n. head_of (o, (t, (ss, n)))) (λ ss s. and_then (name s) (λ n s. _)) (stars_rule (behind_type (is classes.Star) (type_off classes.Star refl) t))
    (λ ss. mapped (λ n. head_of (o, (t, (ss, n))))
    (name_rule (behind_stars (is classes.Name) (a_type.grabs t) (apart_of classes.Name classes.Star refl) (apart_of classes.Name classes.Const refl) (behind_type (is classes.Name) (type_off classes.Name refl) t) ss))))))

-- ---- "(" params ")" (";" | block)

abbrev function_tail : Kind Word (ℕ × (Params × Body))
function_tail = pair (place never) (λ _. behind (word_of classes.OpenParen) (pair the_params (λ _. behind (word_of classes.CloseParen) a_body)))

abbrev function_of : Head → ℕ × (Params × Body) → Function
function_of h p = record { store = h.store; kind = h.kind; stars = h.stars; name = h.name; token = p.0; params = p.1.0; body = p.1.1 }

function_rule : (d : ℕ) (h : Head) → Rule (Unit {0}) never function_tail (function_of h) d (spec.function_behind d h)
unfolding spec.function_behind
function_rule d h =
    numbered (λ k p. function_of h (k, p)) (λ k s. and_then (expect (is classes.OpenParen) s) (λ _ s. and_then (parameters s) (λ ps s. and_then (expect (is classes.CloseParen) s) (λ _ s. and_then (spec.body d s) (λ b s. _)))))
    (λ k. token_then (is classes.OpenParen) (word_of classes.OpenParen) (knows classes.OpenParen refl) refl
    (seq (λ ps. ps) (λ ps b. function_of h (k, (ps, b))) (λ ps s. and_then (expect (is classes.CloseParen) s) (λ _ s. and_then (spec.body d s) (λ b s. _))) params_rule
    (λ ps. token_then (is classes.CloseParen) (word_of classes.CloseParen) (knows classes.CloseParen refl) (params_close ps) (mapped (λ b. function_of h (k, (ps, b))) (body_rule d)))))

-- ---- ("[" size "]")? ("=" cinit)? ("," cdecl)* ";"

-- behind a name where no parameters stand
abbrev no_call : Option Word → Bool
no_call t = is classes.OpenParen t || never t

abbrev more_declarators : (Option Word → Bool) → Kind Word (List Declarator)
more_declarators before = list (is classes.Comma) (behind comma a_declarator) before

abbrev Tail : Type 0
Tail = (Option Array × Option Initializer) × (List Declarator × Unit {0})

abbrev variables_tail : Kind Word Tail
variables_tail = pair (declarator_tail no_call) (λ q. pair (more_declarators ((declarator_tail no_call).grabs q)) (λ _. one (word_of classes.Semicolon)))

abbrev variables_of : Head → Tail → Variables
variables_of h p = record { store = h.store; kind = h.kind; declarators = declarator_of h.stars h.name p.0.0 p.0.1 ∷ p.1.0 }

comma_no_call : Apart (is classes.Comma) no_call
comma_no_call = apart_or (is classes.Comma) (is classes.OpenParen) never (apart_of classes.Comma classes.OpenParen refl) (λ t e. refl)

semicolon_no_call : Apart (is classes.Semicolon) no_call
semicolon_no_call = apart_or (is classes.Semicolon) (is classes.OpenParen) never (apart_of classes.Semicolon classes.OpenParen refl) (λ t e. refl)

comma_tail : (q : Option Array × Option Initializer) → Apart (is classes.Comma) ((declarator_tail no_call).grabs q)
comma_tail q = tail_apart (is classes.Comma) no_call (apart_of classes.Comma classes.OpenBracket refl) (apart_of classes.Comma classes.Assign refl) comma_no_call (expr_apart classes.Comma refl refl) q

semicolon_tail : (q : Option Array × Option Initializer) → Apart (is classes.Semicolon) ((declarator_tail no_call).grabs q)
semicolon_tail q = tail_apart (is classes.Semicolon) no_call (apart_of classes.Semicolon classes.OpenBracket refl) (apart_of classes.Semicolon classes.Assign refl) semicolon_no_call (expr_apart classes.Semicolon refl refl) q

more_close : (q : Option Array × Option Initializer) (ds : List Declarator) → (more_declarators ((declarator_tail no_call).grabs q)).grabs ds (Some (word_of classes.Semicolon)) ≡ false
more_close q ds = stops_at classes.Semicolon refl ((more_declarators ((declarator_tail no_call).grabs q)).grabs ds)
    (list_apart (is classes.Semicolon) (is classes.Comma) ((declarator_tail no_call).grabs q) (behind comma a_declarator) (apart_of classes.Semicolon classes.Comma refl) (semicolon_tail q) declarator_semicolon ds)

variables_behind_rule : (d : ℕ) (h : Head) → Rule (Unit {0}) no_call variables_tail (variables_of h) d (spec.variables_behind d h)
unfolding spec.variables_behind
variables_behind_rule d h =
    seq (λ q. declarator_of h.stars h.name q.0 q.1) (λ q p. variables_of h (q, p)) (λ x s. and_then (more_declarators_by (expr d) (x ∷ []) s) (λ ds s. and_then (expect (is classes.Semicolon) s) (λ _ s. _)))
    (behind_rule (expr d) (expr_rule d (λ t go. refl)) no_call h.stars h.name (apart_or (is classes.OpenBracket) (is classes.OpenParen) never (apart_of classes.OpenBracket classes.OpenParen refl) (λ t e. refl)) (apart_or (is classes.Assign) (is classes.OpenParen) never (apart_of classes.Assign classes.OpenParen refl) (λ t e. refl)))
    (λ q. seq (λ ds. declarator_of h.stars h.name q.0 q.1 ∷ ds) (λ ds _. variables_of h (q, (ds, tt))) (λ ds s. and_then (expect (is classes.Semicolon) s) (λ _ s. _))
    (many (is classes.Comma) ((declarator_tail no_call).grabs q) (commas_repeat (is classes.Comma) comma a_declarator (knows classes.Comma refl) (no_class classes.Comma) declarator_comma) (comma_tail q) (declarator_of h.stars h.name q.0 q.1 ∷ [])
    (token_then (is classes.Comma) comma (knows classes.Comma refl) refl (declarator_rule (expr d) (expr_rule d (λ t go. refl)) (λ t e. refl))))
    (λ ds. last (is classes.Semicolon) (word_of classes.Semicolon) (variables_of h (q, (ds, tt))) (knows classes.Semicolon refl) (more_close q ds)))

-- ---- external declarations

abbrev Behind : Type 0
Behind = (ℕ × (Params × Body)) ⊎ Tail

abbrev a_declared : Kind Word (Head × Behind)
a_declared = pair a_head (λ _. sum function_tail variables_tail)

abbrev behind_made : Head → Behind → External
behind_made h = either (λ p. externals.Function (function_of h p)) (λ p. externals.Variables (variables_of h p))

declared_rule : {before : Option Word → Bool} (d : ℕ) → Apart begins_variables before → Rule (Unit {0}) before a_declared (λ p. behind_made p.0 p.1) d (spec.declared d)
unfolding spec.declared
declared_rule d apart =
    seq (λ h. h) behind_made (spec.behind_head d) (head_rule apart)
    (λ h. choice_past (is classes.OpenParen) (λ t. false) function_tail variables_tail (λ n x r i. (knows classes.OpenParen refl).yes) (mapped externals.Function (function_rule d h)) (mapped externals.Variables (variables_behind_rule d h)))

abbrev external_parts : Kind Word (Define ⊎ (Head × Behind))
external_parts = sum a_define a_declared

abbrev external_made : Define ⊎ (Head × Behind) → External
external_made = either externals.Define (λ p. behind_made p.0 p.1)

-- four parts before another
regroup : (a b c d r : Tells) → (a & b & c & d) & r ≡ a & b & c & d & r
regroup a b c d r = and_assoc a (b & c & d) r ∙ ap (λ (x : Tells). a & x) (and_assoc b (c & d) r ∙ ap (λ (x : Tells). b & x) (and_assoc c d r))

regroup_list : (a b c d : Tells) (q r s : Tells) → a & b & ((c & d & q) & r) & s ≡ (a & b & c & d) & (q & r & s)
regroup_list a b c d q r s =
    ap (λ (x : Tells). a & b & x) (and_assoc (c & d & q) r s ∙ and_assoc c (d & q) (r & s) ∙ ap (λ (x : Tells). c & x) (and_assoc d q (r & s)))
    ∙ sym (regroup a b c d (q & r & s))

variables_tells : (h : Head) (p : Tail) → variables_told (variables_of h p) ≡ head_told h & variables_tail.told p
variables_tells h p =
    ap (λ (x : Tells). maybe (option_map store_told h.store) & type_told h.kind & (declarator_told (declarator_of h.stars h.name p.0.0 p.0.1) & x) & quoted classes.Semicolon) (behind_are comma a_declarator p.1.0)
    ∙ regroup_list (maybe (option_map store_told h.store)) (type_told h.kind) (stars_told h.stars) (name_told h.name) ((declarator_tail no_call).told p.0) (each (map (behind comma a_declarator).told p.1.0)) (quoted classes.Semicolon)

external_tells : (x : Define ⊎ (Head × Behind)) → external_told (external_made x) ≡ external_parts.told x
external_tells (inl d) = refl
external_tells (inr (h, inl p)) = sym (regroup (maybe (option_map store_told h.store)) (type_told h.kind) (stars_told h.stars) (name_told h.name) (function_tail.told p))
external_tells (inr (h, inr p)) = variables_tells h p

external_goes : (x : Define ⊎ (Head × Behind)) (t : Option Word) → an_external.grabs (external_made x) t ≡ external_parts.grabs x t
external_goes (inl d) t = refl
external_goes (inr (h, inl p)) t = refl
external_goes (inr (h, inr p)) t = refl

external_form : Form external_parts an_external external_made
external_form = told_form external_parts an_external external_made external_tells external_goes

-- a declaration of no variable is none
none_declared : {Z : Type 0} (n : ℕ) (o : Option Store) (t : CType) → IsRight n (variables_told (record { store = o; kind = t; declarators = [] })).atoms → Z
none_declared n o t h =
    let a = right_split n _ (maybe (option_map store_told o)).atoms _ refl h in
    let b = right_split _ _ (type_told t).atoms _ refl a.1 in
    let bad : false ≡ true = b.1.0 in
    absurd (cc)

abbrev Parts : Type 0
Parts = Define ⊎ (Head × Behind)

of_told : (n : ℕ) (z : External) (x : Parts) → external_made x ≡ z → Is an_external n z → Is external_parts n x
of_told n z x e h = subst (λ (a : Tells). IsRight n a.atoms) (external_tells x) (subst (λ z. Is an_external n z) (sym e) h)

variables_all : (n : ℕ) (o : Option Store) (t : CType) (ds : List Declarator) → IsRight n (variables_told (record { store = o; kind = t; declarators = ds })).atoms
    → (x : Parts) × Is external_parts n x × (external_made x ≡ externals.Variables (record { store = o; kind = t; declarators = ds }))
variables_all n o t [] h = none_declared n o t h
variables_all n o t (d ∷ ds) h =
    let x : Parts = inr (record { store = o; kind = t; stars = d.stars; name = d.name }, inr ((d.array, d.initializer), (ds, tt))) in
    (x, of_told n (externals.Variables (record { store = o; kind = t; declarators = d ∷ ds })) x refl h, refl)

external_all : (n : ℕ) (z : External) → Is an_external n z → (x : Parts) × Is external_parts n x × (external_made x ≡ z)
external_all n (externals.Define d) h = (inl d, h, refl)
external_all n (externals.Function f) h =
    let x : Parts = inr (record { store = f.store; kind = f.kind; stars = f.stars; name = f.name }, inl (f.token, (f.params, f.body))) in
    (x, of_told n (externals.Function f) x refl h, refl)
external_all n (externals.Variables v) h = variables_all n v.store v.kind v.declarators h

define_starts : Starts (is classes.Define) a_define
define_starts n x r h = define_class x.bytes

declared_off : Off (is classes.Define) a_declared
declared_off n x r h g =
    let rule : Rule (Unit {0}) (is classes.Define) a_declared (λ p. behind_made p.0 p.1) 0 (spec.declared 0) = declared_rule 0 (apart_back (is classes.Define) begins_variables (variables_off classes.Define refl)) in
    rule.keeps n x r h g

pub external_rule : {before : Option Word → Bool} (d : ℕ) → Apart begins_external before → Rule (Unit {0}) before an_external (λ x. x) d (spec.external d)
external_rule {before = before} d apart =
    shaped an_external external_made (λ x. x) external_form external_all
    (choice (is classes.Define) define_starts declared_off
    (mapped externals.Define (define_rule (λ t e. apart t (in_left (is classes.Define t) (begins_variables t) e))))
    (declared_rule d (λ t e. apart t (in_right (is classes.Define t) (begins_variables t) e))))

-- ---- files

no_external : begins_external None ≡ false
no_external = or_both _ _ (no_class classes.Define) no_start

external_starts : Starts begins_external an_external
external_starts =
    let rule : Rule (Unit {0}) (λ t. _) an_external (λ x. x) 0 (spec.external 0) = external_rule 0 (but begins_external) in
    starts_of begins_external no_external (λ x. refl) rule

externals_repeat : Repeats begins_external an_external
externals_repeat = record { starts = external_starts; next = λ x t e. refl; at_end = no_external }

file_part_rule : (d : ℕ) → Rule (Unit {0}) never a_file (λ x. x) d (spec.file d)
unfolding spec.file
file_part_rule d =
    told_as a_file (λ xs. let f : CFile = record { externals = xs } in f) (λ x. x) (λ xs. refl) (λ xs t. refl) (λ f. (f.externals, refl))
    (mapped (λ xs. let f : CFile = record { externals = xs } in f) (many begins_external never externals_repeat (λ t e. refl) [] (external_rule d (λ t e. refl))))

ends_free : (prior : Option Word → Bool) (xs : List External) → prior None ≡ false → ends prior (map (λ (x : External) (t : Option Word). false) xs) None ≡ false
ends_free prior [] e = e
ends_free prior (x ∷ xs) e = ends_free (λ t. false) xs refl

-- a whole list of tokens
pub file_rule : (d : ℕ) → Rule (Unit {0}) never (whole a_file) (λ x. x) d (spec.whole d)
unfolding spec.whole
file_rule d = to_end a_file (λ f. or_both _ _ no_external (ends_free never f.externals refl)) (file_part_rule d)

-- a list of tokens has at most one tree
pub one_file : IsUnambiguous file_told
one_file = unambiguous a_file spec.whole file_rule

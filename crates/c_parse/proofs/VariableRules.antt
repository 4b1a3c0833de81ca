-- The parsers of declarations of variables are exact.
use Rattle.std.proofs.Common.{◌≡◌, ℕ, Bool, true, false, ◌⊎◌, Option, Some, None, refl, ap, inl, inr}
use Rattle.dpi_grammar.specs.Told.{◌&◌, noted}
use Rattle.dpi_grammar.specs.Parser.{and_then, expect, token, optional, is_there}
use Rattle.dpi_grammar.proofs.Exact.{Kind, pair}
use Rattle.dpi_grammar.proofs.Rules.{Rule, never, Reader, always, plainly, told_as, numbered, token_then, seq, mapped, last}
use Rattle.dpi_grammar.proofs.Many.{Starts, Apart, option, perhaps, or_both}
use Rattle.dpi_grammar.proofs.Firsts.{Within, within_apart, in_left, in_right, but, starts_of}
use Rattle.dpi_grammar.proofs.Choices.{either, sum, Off, choice}
use Rattle.dpi_lex.specs.Words.{Word}
use Rattle.c_tree.specs.declared.class.Class.{Class}
use Rattle.c_tree.specs.declared.class.Class.TheVariants as classes
use Rattle.c_tree.specs.declared.leaves.Name.{Name}
use Rattle.c_tree.specs.declared.leaves.Number.{Number}
use Rattle.c_tree.specs.declared.declarations.StoreKind.{StoreKind}
use Rattle.c_tree.specs.declared.declarations.StoreKind.TheVariants as stores
use Rattle.c_tree.specs.declared.declarations.Store.{Store}
use Rattle.c_tree.specs.declared.declarations.Size.{Size}
use Rattle.c_tree.specs.declared.declarations.Size.TheVariants as sizes
use Rattle.c_tree.specs.declared.declarations.Array.{Array}
use Rattle.c_tree.specs.Classes.{word_of, class_at, is_class, is}
use Rattle.c_tree.specs.Leaves.{Tells, quoted, number_told}
use Rattle.c_tree.specs.Stores.{store_class, store_of}
use Rattle.c_tree.specs.Declarations.{size_told}
use Rattle.c_tree.proofs.ClassLemmas.{is_fixed, knows}
use Rattle.c_cursor.specs.Reading.{number}
use Rattle.c_cursor.proofs.Tokens.{apart_of, class_reader, number_class, word_is_not}
use Rattle.c_cursor.proofs.LeafRules.{a_name, a_number, name_rule, number_rule}
use Rattle.c_parse.specs.Front.{begins_store, begins_size}
use Rattle.c_parse.specs.ReadingDeclarations as spec
use Rattle.c_parse.proofs.Goes.{a_store, size_grabs, a_size, an_array}

-- the end is of no class
pub no_class : (c : Class) → is c None ≡ false
unfolding is_class
no_class c = refl

-- the word of a class doesn't go on with what no such token goes on with
pub stops_at : (c : Class) → is_fixed c ≡ true → (grabs : Option Word → Bool) → Apart (is c) grabs → grabs (Some (word_of c)) ≡ false
stops_at c fixed grabs apart = apart _ (knows c fixed).yes

-- ---- "static" | "extern"

store_back : (k : StoreKind) → store_of (Some (store_class k)) ≡ Some k
store_back stores.Static = refl
store_back stores.Extern = refl

store_fixed : (k : StoreKind) → is_fixed (store_class k) ≡ true
store_fixed stores.Static = refl
store_fixed stores.Extern = refl

store_from : (o : Option Class) (k : StoreKind) → store_of o ≡ Some k → o ≡ Some (store_class k)
store_from (Some classes.Static) k e = let same : stores.Static ≡ k = cc in ap (λ k. Some (store_class k)) same
store_from (Some classes.Extern) k e = let same : stores.Extern ≡ k = cc in ap (λ k. Some (store_class k)) same
store_from _ k e = absurd (cc)

store_reader : Reader (λ t. store_of (class_at t)) always (λ k. word_of (store_class k))
store_reader = class_reader store_of store_class store_from store_back store_fixed

store_there : (k : StoreKind) → begins_store (Some (word_of (store_class k))) ≡ true
store_there k = ap is_there (store_reader.yes k refl)

pub store_starts : Starts begins_store a_store
store_starts n x r h = store_there x.kind

store_rule : {live : Type 0} {before : Option Word → Bool} {d : ℕ} → Apart begins_store before → Rule live before a_store (λ x. x) d spec.store
unfolding spec.store
store_rule {before = before} apart =
    told_as a_store (λ (p : ℕ × StoreKind). let s : Store = record { token = p.0; kind = p.1 } in s) (λ x. x) (λ p. refl) (λ p t. refl) (λ s. ((s.token, s.kind), refl))
    (numbered (λ k c. let s : Store = record { token = k; kind = c } in s) (λ k s. and_then (token (λ t. store_of (class_at t)) s) (λ c s. _))
    (λ k. mapped (λ c. let s : Store = record { token = k; kind = c } in s) (plainly (λ t. store_of (class_at t)) (λ k. word_of (store_class k)) store_reader (λ c. apart _ (store_there c)) stores.Static)))

abbrev pub maybe_store : (Option Word → Bool) → Kind Word (Option Store)
maybe_store before = option begins_store a_store before

pub stored_rule : {live : Type 0} {before : Option Word → Bool} {d : ℕ} → Apart begins_store before → Rule live before (maybe_store before) (λ o. o) d spec.stored
stored_rule {before = before} apart = perhaps begins_store before store_starts apart (store_rule (λ t e. refl))

-- ---- sizes

abbrev argument_told : ℕ × Number → Tells
argument_told p = noted p.0 & quoted classes.OpenParen & number_told p.1 & quoted classes.CloseParen

abbrev an_argument : Kind Word (ℕ × Number)
an_argument = record { told = argument_told; grabs = λ _ _. false }

argument_starts : Starts (is classes.OpenParen) an_argument
argument_starts n x r h = (knows classes.OpenParen refl).yes

argument_rule : {live : Type 0} {d : ℕ} → Rule live never an_argument (λ x. x) d spec.argument
unfolding spec.argument
argument_rule =
    told_as an_argument (λ (p : ℕ × (Number × Unit {0})). let q : ℕ × Number = (p.0, p.1.0) in q) (λ x. x) (λ p. refl) (λ p t. refl) (λ q. ((q.0, (q.1, tt)), refl))
    (numbered (λ k p. let q : ℕ × Number = (k, p.0) in q) (λ k s. and_then (expect (is classes.OpenParen) s) (λ _ s. and_then (number s) (λ n s. and_then (expect (is classes.CloseParen) s) (λ _ s. _))))
    (λ k. token_then (is classes.OpenParen) (word_of classes.OpenParen) (knows classes.OpenParen refl) refl
    (seq (λ n. n) (λ n _. let q : ℕ × Number = (k, n) in q) (λ n s. and_then (expect (is classes.CloseParen) s) (λ _ s. _)) (number_rule (λ t e. refl))
    (λ n. last (is classes.CloseParen) (word_of classes.CloseParen) (k, n) (knows classes.CloseParen refl) refl))))

abbrev maybe_argument : Kind Word (Option (ℕ × Number))
maybe_argument = option (is classes.OpenParen) an_argument (λ t. false)

abbrev a_named_size : Kind Word (Name × Option (ℕ × Number))
a_named_size = pair a_name (λ _. maybe_argument)

named_size_rule : {live : Type 0} {before : Option Word → Bool} {d : ℕ} → Apart (is classes.Name) before → Rule live before a_named_size (λ p. spec.size_of p.0 p.1) d spec.named_size
unfolding spec.named_size
named_size_rule apart =
    seq (λ n. n) (λ n o. spec.size_of n o) (λ n s. and_then (optional (is classes.OpenParen) spec.argument s) (λ o s. _)) (name_rule apart)
    (λ n. mapped (λ o. spec.size_of n o) (perhaps (is classes.OpenParen) (λ t. false) argument_starts (λ t e. refl) argument_rule))

abbrev size_made : Number ⊎ (Name × Option (ℕ × Number)) → Size
size_made = either sizes.Number (λ p. spec.size_of p.0 p.1)

abbrev size_parts : Kind Word (Number ⊎ (Name × Option (ℕ × Number)))
size_parts = sum a_number a_named_size

size_tells : (x : Number ⊎ (Name × Option (ℕ × Number))) → size_told (size_made x) ≡ size_parts.told x
size_tells (inl n) = refl
size_tells (inr (n, None)) = refl
size_tells (inr (n, Some p)) = refl

size_goes : (x : Number ⊎ (Name × Option (ℕ × Number))) (t : Option Word) → size_grabs (size_made x) t ≡ size_parts.grabs x t
size_goes (inl n) t = refl
size_goes (inr (n, None)) t = refl
size_goes (inr (n, Some p)) t = refl

size_all : (z : Size) → (x : Number ⊎ (Name × Option (ℕ × Number))) × (size_made x ≡ z)
size_all (sizes.Number n) = (inl n, refl)
size_all (sizes.Name n) = (inr (n, None), refl)
size_all (sizes.Call n k m) = (inr (n, Some (k, m)), refl)

number_starts : Starts (is classes.Number) a_number
number_starts n x r h = number_class x.bytes

number_within : Within (is classes.Number) begins_size
number_within t e = in_left (is classes.Number t) (is classes.Name t) e

name_within : Within (is classes.Name) begins_size
name_within t e = in_right (is classes.Number t) (is classes.Name t) e

named_off : Off (is classes.Number) a_named_size
named_off n x r h g =
    let rule : Rule (Unit {0}) (is classes.Number) a_named_size (λ p. spec.size_of p.0 p.1) 0 spec.named_size = named_size_rule (apart_of classes.Name classes.Number refl) in
    rule.keeps n x r h g

pub size_rule : {live : Type 0} {before : Option Word → Bool} {d : ℕ} → Apart begins_size before → Rule live before a_size (λ x. x) d spec.size
size_rule {before = before} apart =
    told_as a_size size_made (λ x. x) size_tells size_goes size_all
    (choice (is classes.Number) number_starts named_off
    (mapped sizes.Number (number_rule (within_apart (is classes.Number) begins_size before number_within apart)))
    (named_size_rule (within_apart (is classes.Name) begins_size before name_within apart)))

size_ends : (x : Size) (t : Option Word) → is classes.OpenParen t ≡ false → size_grabs x t ≡ false
size_ends (sizes.Number n) t e = refl
size_ends (sizes.Name n) t e = or_both _ _ e refl
size_ends (sizes.Call n k m) t e = refl

no_size : begins_size None ≡ false
no_size = or_both _ _ (no_class classes.Number) (no_class classes.Name)

pub size_starts : Starts begins_size a_size
size_starts =
    let rule : Rule (Unit {0}) (λ t. _) a_size (λ x. x) 0 spec.size = size_rule (but begins_size) in
    starts_of begins_size no_size (λ x. size_ends x None (no_class classes.OpenParen)) rule

pub size_close : (x : Size) → size_grabs x (Some (word_of classes.CloseBracket)) ≡ false
size_close x = size_ends x _ (word_is_not classes.OpenParen classes.CloseBracket refl refl)

-- ---- "[" size "]"

pub array_starts : Starts (is classes.OpenBracket) an_array
array_starts n x r h = (knows classes.OpenBracket refl).yes

pub array_rule : {live : Type 0} {d : ℕ} → Rule live never an_array (λ x. x) d spec.array
unfolding spec.array
array_rule =
    told_as an_array (λ (p : ℕ × (Size × Unit {0})). let a : Array = record { token = p.0; size = p.1.0 } in a) (λ x. x) (λ p. refl) (λ p t. refl) (λ a. ((a.token, (a.size, tt)), refl))
    (numbered (λ k p. let a : Array = record { token = k; size = p.0 } in a) (λ k s. and_then (expect (is classes.OpenBracket) s) (λ _ s. and_then (spec.size s) (λ n s. and_then (expect (is classes.CloseBracket) s) (λ _ s. _))))
    (λ k. token_then (is classes.OpenBracket) (word_of classes.OpenBracket) (knows classes.OpenBracket refl) refl
    (seq (λ n. n) (λ n _. let a : Array = record { token = k; size = n } in a) (λ n s. and_then (expect (is classes.CloseBracket) s) (λ _ s. _)) (size_rule (λ t e. refl))
    (λ n. last (is classes.CloseBracket) (word_of classes.CloseBracket) (record { token = k; size = n }) (knows classes.CloseBracket refl) (size_close n)))))

-- The parsers of modules and files are exact.
use Rattle.std.proofs.Common.{◌≡◌, ℕ, Bool, true, false, ◌||◌, List, [], ◌∷◌, map, Option, Some, None, if◌then◌else◌, refl}
use Rattle.dpi_grammar.specs.Parser.{is_there}
use Rattle.dpi_grammar.proofs.Exact.{Kind}
use Rattle.dpi_grammar.proofs.Rules.{Rule, never, seq, mapped, told_as, numbered, token_then, expected, one, behind}
use Rattle.dpi_grammar.proofs.Many.{Apart, Starts, Repeats, or_both, ends, option, perhaps, list, many}
use Rattle.dpi_grammar.proofs.Firsts.{list_apart}
use Rattle.dpi_grammar.proofs.Whole.{whole, to_end}
use Rattle.dpi_lex.specs.Words.{Word}
use Rattle.sv_tree.specs.declared.class.Class.TheVariants as classes
use Rattle.sv_tree.specs.declared.leaves.Name.{Name}
use Rattle.sv_tree.specs.declared.statements.Label.{Label}
use Rattle.sv_tree.specs.declared.items.Item.{Item}
use Rattle.sv_tree.specs.declared.items.Module.{Module}
use Rattle.sv_tree.specs.declared.items.SvFile.{SvFile}
use Rattle.sv_tree.specs.Classes.{word_of, is, is_class}
use Rattle.sv_tree.specs.Items.{parentheses_told, module_told, file_told}
use Rattle.sv_tree.proofs.ClassLemmas.{knows}
use Rattle.sv_cursor.proofs.Tokens.{apart_of}
use Rattle.sv_cursor.proofs.LeafRules.{name_rule, optional_label_rule}
use Rattle.sv_types.proofs.Words.{class_apart}
use Rattle.sv_parse.specs.Reading as spec
use Rattle.sv_parse.specs.Reading.{begins_item}
use Rattle.sv_parse.proofs.BodyRules.{end_grabs}
use Rattle.sv_parse.proofs.ItemRules.{an_item, item_rule, item_apart, items_repeat, apart_from_end}

-- ---- ("(" ")")?

abbrev some_parentheses : Kind Word Bool
some_parentheses = record { told = parentheses_told; grabs = λ b t. if b then false else (is classes.OpenParen t || false) }

-- "(" ")"
abbrev both : Kind Word (Unit {0})
both = behind (word_of classes.OpenParen) (one (word_of classes.CloseParen))

abbrev both_or_none : Kind Word (Option (Unit {0}))
both_or_none = option (is classes.OpenParen) both never

parentheses_tell : (o : Option (Unit {0})) → parentheses_told (is_there o) ≡ both_or_none.told o
parentheses_tell None = refl
parentheses_tell (Some u) = refl

parentheses_go : (o : Option (Unit {0})) (t : Option Word) → some_parentheses.grabs (is_there o) t ≡ both_or_none.grabs o t
parentheses_go None t = refl
parentheses_go (Some u) t = refl

all_parentheses : (b : Bool) → (o : Option (Unit {0})) × (is_there o ≡ b)
all_parentheses true = (Some tt, refl)
all_parentheses false = (None, refl)

both_start : Starts (is classes.OpenParen) both
both_start n x r h = (knows classes.OpenParen refl).yes

parentheses_rule : {live : Type 0} {d : ℕ} → Rule live never some_parentheses (λ b. b) d spec.parentheses
unfolding spec.parentheses
parentheses_rule = told_as some_parentheses is_there (λ b. b) parentheses_tell parentheses_go all_parentheses
    (mapped is_there (perhaps (is classes.OpenParen) never both_start (λ t e. refl)
    (token_then (is classes.OpenParen) (word_of classes.OpenParen) (knows classes.OpenParen refl) refl (expected (is classes.CloseParen) (word_of classes.CloseParen) (knows classes.CloseParen refl) refl))))

semicolon_not_of : (b : Bool) → some_parentheses.grabs b (Some (word_of classes.Semicolon)) ≡ false
semicolon_not_of true = refl
semicolon_not_of false = or_both _ _ (apart_of classes.Semicolon classes.OpenParen refl (Some (word_of classes.Semicolon)) (knows classes.Semicolon refl).yes) refl

-- ---- modules

abbrev ModuleParts : Type 0
ModuleParts = Name × (Bool × (List Item × Option Label))

abbrev make_module : ℕ → ModuleParts → Module
make_module k p = record { token = k; name = p.0; parentheses = p.1.0; items = p.1.1.0; end = p.1.1.1 }

abbrev pub a_module : Kind Word Module
a_module = record { told = module_told; grabs = λ m. end_grabs m.end }

module_starts : Starts (is classes.Module) a_module
module_starts n x r h = (knows classes.Module refl).yes

end_not_of : (xs : List Item) → (list begins_item an_item never).grabs xs (Some (word_of classes.EndModule)) ≡ false
unfolding is_class
end_not_of xs = list_apart (is classes.EndModule) begins_item never an_item (class_apart classes.EndModule refl begins_item refl) (λ t e. refl)
    (item_apart (is classes.EndModule) (apart_of classes.EndModule classes.Else refl) (apart_of classes.EndModule classes.Colon refl)) xs (Some (word_of classes.EndModule)) (knows classes.EndModule refl).yes

module_at_end : is classes.Module None ≡ false
unfolding is_class
module_at_end = refl

modules_repeat : Repeats (is classes.Module) a_module
modules_repeat = record { starts = module_starts; next = λ m. apart_from_end (is classes.Module) (apart_of classes.Module classes.Colon refl) m.end; at_end = module_at_end }

-- ---- files

abbrev pub a_file : Kind Word SvFile
a_file = record { told = file_told; grabs = λ f. (list (is classes.Module) a_module never).grabs f.modules }

abbrev make_file : List Module → SvFile
make_file ms = record { modules = ms }

colon_at_end : (e : Option Label) → end_grabs e None ≡ false
unfolding is_class
colon_at_end None = refl
colon_at_end (Some l) = refl

last_at_end : (ms : List Module) (prior : Option Word → Bool) → prior None ≡ false → ends prior (map a_module.grabs ms) None ≡ false
last_at_end [] prior e = e
last_at_end (m ∷ ms) prior e = last_at_end ms (a_module.grabs m) (colon_at_end m.end)

file_at_end : (f : SvFile) → a_file.grabs f None ≡ false
file_at_end f = or_both _ _ module_at_end (last_at_end f.modules never refl)

module_rule : {live : Type 0} (d : ℕ) → Rule live never a_module (λ x. x) d (spec.one_module d)
unfolding spec.one_module
module_rule d = told_as a_module (λ (p : ℕ × ModuleParts). make_module p.0 p.1) (λ x. x) (λ p. refl) (λ p t. refl)
    (λ m. ((m.token, (m.name, (m.parentheses, (m.items, m.end)))), refl))
    (numbered make_module _ (λ k. token_then (is classes.Module) (word_of classes.Module) (knows classes.Module refl) refl
    (seq (λ n. n) (λ n p. make_module k (n, p)) _ (name_rule (λ t e. refl))
    (λ n. seq (λ b. b) (λ b p. make_module k (n, (b, p))) _ parentheses_rule
    (λ b. token_then (is classes.Semicolon) (word_of classes.Semicolon) (knows classes.Semicolon refl) (semicolon_not_of b)
    (seq (λ xs. xs) (λ xs e. make_module k (n, (b, (xs, e)))) _ (many begins_item never items_repeat (λ t e. refl) [] (item_rule d))
    (λ xs. token_then (is classes.EndModule) (word_of classes.EndModule) (knows classes.EndModule refl) (end_not_of xs)
    (mapped (λ e. make_module k (n, (b, (xs, e)))) (optional_label_rule (λ t e. refl))))))))))

file_rule : {live : Type 0} (d : ℕ) → Rule live never a_file (λ x. x) d (spec.file d)
unfolding spec.file
file_rule d = told_as a_file make_file (λ x. x) (λ ms. refl) (λ ms t. refl) (λ f. (f.modules, refl))
    (mapped make_file (many (is classes.Module) never modules_repeat (λ t e. refl) [] (module_rule d)))

-- what reads a file up to its end is exact
pub whole_rule : {live : Type 0} (d : ℕ) → Rule live never (whole a_file) (λ x. x) d (spec.whole_file d)
whole_rule d = to_end a_file file_at_end (file_rule d)

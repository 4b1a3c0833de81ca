-- What statements begin with, and what is known of one from its first token.
use Rattle.std.proofs.Common.{◌≡◌, ℕ, ◌+◌, Bool, true, List, ◌++◌, map, length, Option, Some, refl, sym, ap, ◌∙◌, subst, append_assoc}
use Rattle.std.specs.Prelude.{option_map}
use Rattle.dpi_grammar.specs.Told.{◌&◌, noted, deeper, each, elses, words_in, IsRight}
use Rattle.dpi_grammar.specs.Parser.{first}
use Rattle.dpi_grammar.proofs.Lists.{words_append, right_split}
use Rattle.dpi_grammar.proofs.Exact.{Kind, words, Is}
use Rattle.dpi_grammar.proofs.Forms.{Only, only_told}
use Rattle.dpi_grammar.proofs.Many.{Starts}
use Rattle.dpi_grammar.proofs.Firsts.{in_left, in_right}
use Rattle.dpi_lex.specs.Words.{Word}
use Rattle.c_tree.specs.declared.class.Class.{Class}
use Rattle.c_tree.specs.declared.class.Class.TheVariants as classes
use Rattle.c_tree.specs.declared.statements.Stmt.{Stmt, roll-Stmt, out-Stmt, roll-out-Stmt}
use Rattle.c_tree.specs.declared.statements.Block.{Block, out-Block, roll-out-Block}
use Rattle.c_tree.specs.declared.statements.If.{If, out-If, roll-out-If}
use Rattle.c_tree.specs.declared.statements.Part.TheOpen.{Stmt-F}
use Rattle.c_tree.specs.Classes.{class_at}
use Rattle.c_tree.specs.Leaves.{Tells, quoted}
use Rattle.c_tree.specs.Expressions.{expr_told}
use Rattle.c_tree.specs.Statements.{condition_told, stmt_told, part_told, else_if_told, else_told, block_told, if_told}
use Rattle.c_cursor.proofs.Tokens.{class_at_word}
use Rattle.c_parse.specs.declared.front.Front.{Front}
use Rattle.c_parse.specs.declared.front.Front.TheVariants as fronts
use Rattle.c_parse.specs.declared.front.Nest.{Nest}
use Rattle.c_parse.specs.declared.front.Nest.TheVariants as nests
use Rattle.c_parse.specs.Front.{front_of, is_marked, begins_stmt}
use Rattle.c_expr.specs.Front.{begins_expr}
use Rattle.c_expr.proofs.Starts.{expr_starts}
use Rattle.c_parse.proofs.Goes.{a_stmt}
use Rattle.c_parse.proofs.Tokens.{front_expr}
use Rattle.c_parse.proofs.Trees.{Layer, layer_told, block_tells, branch_tells, stmt_tells}

-- ---- classes

-- the class of the token that opens a level
abbrev pub nest_class : Nest → Class
nest_class nests.Block = classes.OpenBrace
nest_class nests.If = classes.If
nest_class nests.While = classes.While
nest_class nests.Do = classes.Do
nest_class nests.For = classes.For

pub nest_back : (o : Option Class) (n : Nest) → front_of o ≡ fronts.Nested n → o ≡ Some (nest_class n)
nest_back (Some classes.OpenBrace) n e = let same : nests.Block ≡ n = cc in ap (λ n. Some (nest_class n)) same
nest_back (Some classes.If) n e = let same : nests.If ≡ n = cc in ap (λ n. Some (nest_class n)) same
nest_back (Some classes.While) n e = let same : nests.While ≡ n = cc in ap (λ n. Some (nest_class n)) same
nest_back (Some classes.Do) n e = let same : nests.Do ≡ n = cc in ap (λ n. Some (nest_class n)) same
nest_back (Some classes.For) n e = let same : nests.For ≡ n = cc in ap (λ n. Some (nest_class n)) same
nest_back _ n e = absurd (cc)

-- ---- layers

abbrev pub layer_front : Layer → Front
layer_front (Stmt-F.Empty k) = fronts.Empty
layer_front (Stmt-F.Block b) = fronts.Nested nests.Block
layer_front (Stmt-F.Expr e) = fronts.Expr
layer_front (Stmt-F.If i) = fronts.Nested nests.If
layer_front (Stmt-F.While k e s) = fronts.Nested nests.While
layer_front (Stmt-F.Do k s j e) = fronts.Nested nests.Do
layer_front (Stmt-F.For k a e c s) = fronts.Nested nests.For
layer_front (Stmt-F.Return k e) = fronts.Return
layer_front (Stmt-F.Break k) = fronts.Break
layer_front (Stmt-F.Continue k) = fronts.Continue

regroup : (a b : Tells) (r : List Word) → words_in (a & b).atoms ++ r ≡ words_in a.atoms ++ (words_in b.atoms ++ r)
regroup a b r = ap (λ w. w ++ r) (words_append a.atoms b.atoms) ∙ append_assoc (words_in a.atoms) (words_in b.atoms) r

-- what begins a part begins the whole
pub front_starts : (f : Option Word → Bool) (a b whole : Tells) (n : ℕ) (r : List Word) → whole ≡ a & b → ((m : List Word) → IsRight n a.atoms → f (first (words_in a.atoms ++ m)) ≡ true) → IsRight n whole.atoms
    → f (first (words_in whole.atoms ++ r)) ≡ true
front_starts f a b whole n r e starts is =
    let h = (right_split n (n + length (words_in a.atoms)) a.atoms b.atoms refl (subst (λ (t : Tells). IsRight n t.atoms) e is)).0 in
    ap (λ (t : Tells). f (first (words_in t.atoms ++ r))) e ∙ ap (λ w. f (first w)) (regroup a b r) ∙ starts (words_in b.atoms ++ r) h

pub block_opened : (b : Block) → block_told b ≡ deeper (noted (out-Block b).token & quoted classes.OpenBrace & each (map part_told (out-Block b).parts) & noted (out-Block b).end & quoted classes.CloseBrace)
block_opened b = ap block_told (sym (roll-out-Block b)) ∙ block_tells (out-Block b).token (out-Block b).parts (out-Block b).end

pub if_opened : (i : If)
    → if_told i ≡ deeper (noted (out-If i).token & quoted classes.If & condition_told (out-If i).condition & stmt_told (out-If i).body & elses (stmt_told (out-If i).body).unended (map else_if_told (out-If i).others) (option_map else_told (out-If i).last))
if_opened i = ap if_told (sym (roll-out-If i)) ∙ branch_tells (out-If i).token (out-If i).condition (out-If i).body (out-If i).others (out-If i).last

layer_fronts : (n : ℕ) (l : Layer) (r : List Word) → IsRight n (layer_told l).atoms → front_of (class_at (first (words_in (layer_told l).atoms ++ r))) ≡ layer_front l
layer_fronts n (Stmt-F.Empty k) r is = ap front_of (class_at_word classes.Semicolon refl)
layer_fronts n (Stmt-F.Block b) r is = ap (λ (t : Tells). front_of (class_at (first (words_in t.atoms ++ r)))) (block_opened b) ∙ ap front_of (class_at_word classes.OpenBrace refl)
layer_fronts n (Stmt-F.Expr e) r is = front_expr _ (front_starts begins_expr (expr_told e) (quoted classes.Semicolon) (layer_told (Stmt-F.Expr e)) n r refl (λ m h. expr_starts n e m h) is)
layer_fronts n (Stmt-F.If i) r is = ap (λ (t : Tells). front_of (class_at (first (words_in t.atoms ++ r)))) (if_opened i) ∙ ap front_of (class_at_word classes.If refl)
layer_fronts n (Stmt-F.While k e s) r is = ap front_of (class_at_word classes.While refl)
layer_fronts n (Stmt-F.Do k s j e) r is = ap front_of (class_at_word classes.Do refl)
layer_fronts n (Stmt-F.For k a e c s) r is = ap front_of (class_at_word classes.For refl)
layer_fronts n (Stmt-F.Return k e) r is = ap front_of (class_at_word classes.Return refl)
layer_fronts n (Stmt-F.Break k) r is = ap front_of (class_at_word classes.Break refl)
layer_fronts n (Stmt-F.Continue k) r is = ap front_of (class_at_word classes.Continue refl)

pub stmt_front : (n : ℕ) (z : Stmt) (r : List Word) → Is a_stmt n z → front_of (class_at (first (words a_stmt z ++ r))) ≡ layer_front (out-Stmt z)
stmt_front n z r is =
    let e = stmt_tells z (out-Stmt z) refl in
    ap (λ (t : Tells). front_of (class_at (first (words_in t.atoms ++ r)))) e ∙ layer_fronts n (out-Stmt z) r (subst (λ (t : Tells). IsRight n t.atoms) e is)

-- a statement that begins with a token of this front is of this form
pub only_front : {X : Type 0} (S : Kind Word X) (make : X → Stmt) → ((x : X) → a_stmt.told (make x) ≡ S.told x) → (f : Front) → ((l : Layer) → layer_front l ≡ f → (x : X) × (make x ≡ roll-Stmt l))
    → (t : Option Word) → front_of (class_at t) ≡ f → Only S a_stmt make t
only_front S make told f match t e =
    only_told S a_stmt make told t
    (λ n z r is g same. let m = match (out-Stmt z) (sym (stmt_front n z r is) ∙ ap (λ t. front_of (class_at t)) same ∙ e) in (m.0, m.1 ∙ roll-out-Stmt z))

-- ---- first tokens

marked : (n : ℕ) (l : Layer) (r : List Word) → IsRight n (layer_told l).atoms → is_marked (layer_front l) ≡ true → begins_stmt (first (words_in (layer_told l).atoms ++ r)) ≡ true
marked n l r is e =
    let t = first (words_in (layer_told l).atoms ++ r) in
    in_left (is_marked (front_of (class_at t))) (begins_expr t) (ap is_marked (layer_fronts n l r is) ∙ e)

layer_starts : (n : ℕ) (l : Layer) (r : List Word) → IsRight n (layer_told l).atoms → begins_stmt (first (words_in (layer_told l).atoms ++ r)) ≡ true
layer_starts n (Stmt-F.Expr e) r is = in_right (is_marked (front_of (class_at (first (words_in (layer_told (Stmt-F.Expr e)).atoms ++ r))))) _ (front_starts begins_expr (expr_told e) (quoted classes.Semicolon) (layer_told (Stmt-F.Expr e)) n r refl (λ m h. expr_starts n e m h) is)
layer_starts n (Stmt-F.Empty k) r is = marked n (Stmt-F.Empty k) r is refl
layer_starts n (Stmt-F.Block b) r is = marked n (Stmt-F.Block b) r is refl
layer_starts n (Stmt-F.If i) r is = marked n (Stmt-F.If i) r is refl
layer_starts n (Stmt-F.While k e s) r is = marked n (Stmt-F.While k e s) r is refl
layer_starts n (Stmt-F.Do k s j e) r is = marked n (Stmt-F.Do k s j e) r is refl
layer_starts n (Stmt-F.For k a e c s) r is = marked n (Stmt-F.For k a e c s) r is refl
layer_starts n (Stmt-F.Return k e) r is = marked n (Stmt-F.Return k e) r is refl
layer_starts n (Stmt-F.Break k) r is = marked n (Stmt-F.Break k) r is refl
layer_starts n (Stmt-F.Continue k) r is = marked n (Stmt-F.Continue k) r is refl

pub stmt_starts : Starts begins_stmt a_stmt
stmt_starts n z r is =
    let e = stmt_tells z (out-Stmt z) refl in
    ap (λ (t : Tells). begins_stmt (first (words_in t.atoms ++ r))) e ∙ layer_starts n (out-Stmt z) r (subst (λ (t : Tells). IsRight n t.atoms) e is)

-- All statements, each by its first token: their kinds.
use Rattle.std.proofs.Common.{◌≡◌, ℕ, Bool, true, false, not, ◌||◌, ◌⊎◌, [], ◌∷◌, Option, Some, None, refl, sym, ap, ◌∙◌, subst, arith, ◌≤◌, inl, inr}
use Rattle.std.specs.Prelude.{option_map}
use Rattle.dpi_grammar.specs.Told.{maybe, words_in, IsRight}
use Rattle.dpi_grammar.specs.Parser.{first, is_there}
use Rattle.dpi_grammar.proofs.Exact.{Kind, words, Viable}
use Rattle.dpi_grammar.proofs.Forms.{told_form, form_viable, within}
use Rattle.dpi_grammar.proofs.Many.{Starts, Apart, Repeats}
use Rattle.dpi_grammar.proofs.Choices.{sum, either}
use Rattle.dpi_lex.specs.Words.{Word}
use denote.Enum.Bare.{sameb}
use Rattle.sv_tree.specs.contracts.class.Class.{the_type}
use Rattle.sv_tree.proofs.ClassLemmas.{knows}
use Rattle.sv_cursor.proofs.Tokens.{apart_of, word_is_not}
use Rattle.sv_tree.specs.declared.class.Class.{Class}
use Rattle.sv_tree.specs.declared.class.Class.TheVariants as classes
use Rattle.sv_tree.specs.declared.kinds.ShowKind.{ShowKind}
use Rattle.sv_tree.specs.declared.leaves.Name.{Name}
use Rattle.sv_tree.specs.declared.expr.Call.{out-Call, roll-out-Call}
use Rattle.sv_tree.specs.declared.expr.Lvalue.{out-Lvalue, roll-out-Lvalue}
use Rattle.sv_tree.specs.declared.statements.Label.{Label}
use Rattle.sv_tree.specs.declared.statements.Change.{Change}
use Rattle.sv_tree.specs.declared.statements.Stmt.{Stmt, out-Stmt, roll-Stmt, roll-out-Stmt}
use Rattle.sv_tree.specs.declared.statements.Stmt.TheVariants as stmts
use Rattle.sv_tree.specs.declared.statements.Stmt.TheOpen.{Stmt-F}
use Rattle.sv_tree.specs.declared.statements.Block.{out-Block, roll-out-Block}
use Rattle.sv_tree.specs.declared.statements.If.{out-If, roll-out-If}
use Rattle.sv_tree.specs.Classes.{word_of, is_class, is}
use Rattle.sv_tree.specs.Expressions.{Tells}
use Rattle.sv_tree.specs.Statements.{stmt_told, block_told, label_told}
use Rattle.sv_expr.proofs.Trees.{lvalue, call}
use Rattle.sv_stmt.specs.Front.{is_statement, begins_statement}
use Rattle.sv_stmt.proofs.Trees.{Layer, block, block_tells, stmt_tells}
use Rattle.sv_stmt.proofs.Goes.{a_stmt, open_grabs, open_free, end_grabs, stmt_bare, block_bare_is, stmt_grabs_are}
use Rattle.sv_stmt.proofs.Fronts.{Fronts, sum_fronts, starts_as, excluded_by}
use Rattle.sv_stmt.proofs.ChangeRules.{change_of, change_all}
use Rattle.sv_stmt.proofs.PlainRules.{an_empty, ShowTail, shown_of, a_show}
use Rattle.sv_stmt.proofs.NamedRules.{NamedTail, a_named, named_of, named_told}
use Rattle.sv_stmt.proofs.BranchForms.{another, if_of_told, if_of_grabs}
use Rattle.sv_stmt.proofs.StmtFronts.{Blocked, FromBegin, FromFinish, FromReturn, FromWhile, a_block_stmt, block_of, for_of, from_begin, from_begin_front, from_finish, from_return, from_while, is_from_begin, of_begin, of_while, of_return, of_finish}

-- ---- all of them

-- a statement by its parts
abbrev pub Statements : Type 0
Statements = (ℕ × Unit {0}) ⊎ FromBegin

abbrev pub any_stmt : Kind Word Statements
any_stmt = sum an_empty from_begin

abbrev pub stmt_of : Statements → Stmt
stmt_of = either (λ p. stmts.Empty p.0) of_begin

-- ---- what they tell

block_of_told : (p : Blocked) → stmt_told (block_of p) ≡ (within a_block_stmt).told p
block_of_told (k, (l, (vs, (ss, e)))) = stmt_tells (stmts.Block (block k l vs ss e)) _ (stmts.outs-Block (block k l vs ss e)) ∙ block_tells k l vs ss e

shown_told : (k : ℕ) (w : ShowKind) (x : ShowTail) → stmt_told (shown_of k w x) ≡ a_show.told (k, (w, x))
shown_told k w (inl p) = stmt_tells (stmts.ShowActuals k w p.0 p.1.0) _ (stmts.outs-ShowActuals k w p.0 p.1.0)
shown_told k w (inr u) = stmt_tells (stmts.Show k w) _ (stmts.outs-Show k w)

other_told : (x : FromFinish) → stmt_told (of_finish x) ≡ from_finish.told x
other_told (inl p) = stmt_tells (stmts.Finish p.0 p.1.0) _ (stmts.outs-Finish p.0 p.1.0)
other_told (inr (inl p)) = shown_told p.0 p.1.0 p.1.1
other_told (inr (inr (inl p))) = stmt_tells (stmts.Void p.0 p.1.0) _ (stmts.outs-Void p.0 p.1.0)
other_told (inr (inr (inr p))) = named_told p.0 p.1

jump_told : (x : FromReturn) → stmt_told (of_return x) ≡ from_return.told x
jump_told (inl p) = stmt_tells (stmts.Return p.0 p.1.0) _ (stmts.outs-Return p.0 p.1.0)
jump_told (inr (inl p)) = stmt_tells (stmts.Break p.0) _ (stmts.outs-Break p.0)
jump_told (inr (inr (inl p))) = stmt_tells (stmts.Continue p.0) _ (stmts.outs-Continue p.0)
jump_told (inr (inr (inr (inl p)))) = stmt_tells (stmts.Disable p.0 p.1.0) _ (stmts.outs-Disable p.0 p.1.0)
jump_told (inr (inr (inr (inr x)))) = other_told x

loop_told : (x : FromWhile) → stmt_told (of_while x) ≡ from_while.told x
loop_told (inl p) = stmt_tells (stmts.While p.0 p.1.0 p.1.1) _ (stmts.outs-While p.0 p.1.0 p.1.1)
loop_told (inr (inl p)) = stmt_tells (stmts.Repeat p.0 p.1.0 p.1.1) _ (stmts.outs-Repeat p.0 p.1.0 p.1.1)
loop_told (inr (inr (inl p))) = stmt_tells (stmts.Forever p.0 p.1) _ (stmts.outs-Forever p.0 p.1)
loop_told (inr (inr (inr (inl p)))) = stmt_tells (for_of p) _ (stmts.outs-For p.0 p.1.0 p.1.1.0 p.1.1.1.0 p.1.1.1.1)
loop_told (inr (inr (inr (inr x)))) = jump_told x

pub stmt_of_told : (x : Statements) → stmt_told (stmt_of x) ≡ any_stmt.told x
stmt_of_told (inl p) = stmt_tells (stmts.Empty p.0) _ (stmts.outs-Empty p.0)
stmt_of_told (inr (inl p)) = block_of_told p
stmt_of_told (inr (inr (inl p))) = if_of_told p
stmt_of_told (inr (inr (inr (inl p)))) = stmt_tells (stmts.Case p.0 p.1.0 p.1.1.0) _ (stmts.outs-Case p.0 p.1.0 p.1.1.0)
stmt_of_told (inr (inr (inr (inr x)))) = loop_told x

-- ---- what they go on with

label_ends : (l : Option Label) → (maybe (option_map label_told l)).unended ≡ false
label_ends None = refl
label_ends (Some l) = refl

block_of_grabs : (p : Blocked) (t : Option Word) → a_stmt.grabs (block_of p) t ≡ a_block_stmt.grabs p t
block_of_grabs (k, (l, (vs, (ss, e)))) t =
    stmt_grabs_are (stmts.Block (block k l vs ss e)) _ (stmts.outs-Block (block k l vs ss e)) t
    ∙ ap (λ c. open_grabs (block_told (block k l vs ss e)).unended c t) (block_bare_is k l vs ss e)
    ∙ ap (λ (a : Tells). open_grabs a.unended (not (is_there e)) t) (block_tells k l vs ss e)
    ∙ ap (λ u. open_grabs u (not (is_there e)) t) (label_ends e)
    ∙ end_grabs e t

shown_grabs : (k : ℕ) (w : ShowKind) (x : ShowTail) (t : Option Word) → a_stmt.grabs (shown_of k w x) t ≡ a_show.grabs (k, (w, x)) t
shown_grabs k w (inl p) t = stmt_grabs_are (stmts.ShowActuals k w p.0 p.1.0) _ (stmts.outs-ShowActuals k w p.0 p.1.0) t
shown_grabs k w (inr u) t = stmt_grabs_are (stmts.Show k w) _ (stmts.outs-Show k w) t

named_grabs : (n : Name) (x : NamedTail) (t : Option Word) → a_stmt.grabs (named_of n x) t ≡ a_named.grabs (n, x) t
named_grabs n (inl u) t = stmt_grabs_are (stmts.Name n) _ (stmts.outs-Name n) t
named_grabs n (inr (inl p)) t = stmt_grabs_are (stmts.Call (call n p.0.0 p.0.1)) _ (stmts.outs-Call (call n p.0.0 p.0.1)) t
named_grabs n (inr (inr p)) t = stmt_grabs_are (stmts.Change (change_of (lvalue n p.0) p.1.0)) _ (stmts.outs-Change (change_of (lvalue n p.0) p.1.0)) t

other_grabs : (x : FromFinish) (t : Option Word) → a_stmt.grabs (of_finish x) t ≡ from_finish.grabs x t
other_grabs (inl p) t = stmt_grabs_are (stmts.Finish p.0 p.1.0) _ (stmts.outs-Finish p.0 p.1.0) t
other_grabs (inr (inl p)) t = shown_grabs p.0 p.1.0 p.1.1 t
other_grabs (inr (inr (inl p))) t = stmt_grabs_are (stmts.Void p.0 p.1.0) _ (stmts.outs-Void p.0 p.1.0) t
other_grabs (inr (inr (inr p))) t = named_grabs p.0 p.1 t

jump_grabs : (x : FromReturn) (t : Option Word) → a_stmt.grabs (of_return x) t ≡ from_return.grabs x t
jump_grabs (inl p) t = stmt_grabs_are (stmts.Return p.0 p.1.0) _ (stmts.outs-Return p.0 p.1.0) t
jump_grabs (inr (inl p)) t = stmt_grabs_are (stmts.Break p.0) _ (stmts.outs-Break p.0) t
jump_grabs (inr (inr (inl p))) t = stmt_grabs_are (stmts.Continue p.0) _ (stmts.outs-Continue p.0) t
jump_grabs (inr (inr (inr (inl p)))) t = stmt_grabs_are (stmts.Disable p.0 p.1.0) _ (stmts.outs-Disable p.0 p.1.0) t
jump_grabs (inr (inr (inr (inr x)))) t = other_grabs x t

loop_grabs : (x : FromWhile) (t : Option Word) → a_stmt.grabs (of_while x) t ≡ from_while.grabs x t
loop_grabs (inl p) t = stmt_grabs_are (stmts.While p.0 p.1.0 p.1.1) _ (stmts.outs-While p.0 p.1.0 p.1.1) t
loop_grabs (inr (inl p)) t = stmt_grabs_are (stmts.Repeat p.0 p.1.0 p.1.1) _ (stmts.outs-Repeat p.0 p.1.0 p.1.1) t
loop_grabs (inr (inr (inl p))) t = stmt_grabs_are (stmts.Forever p.0 p.1) _ (stmts.outs-Forever p.0 p.1) t
loop_grabs (inr (inr (inr (inl p)))) t = stmt_grabs_are (for_of p) _ (stmts.outs-For p.0 p.1.0 p.1.1.0 p.1.1.1.0 p.1.1.1.1) t
loop_grabs (inr (inr (inr (inr x)))) t = jump_grabs x t

pub stmt_of_grabs : (x : Statements) (t : Option Word) → a_stmt.grabs (stmt_of x) t ≡ any_stmt.grabs x t
stmt_of_grabs (inl p) t = stmt_grabs_are (stmts.Empty p.0) _ (stmts.outs-Empty p.0) t
stmt_of_grabs (inr (inl p)) t = block_of_grabs p t
stmt_of_grabs (inr (inr (inl p))) t = if_of_grabs p t
stmt_of_grabs (inr (inr (inr (inl p)))) t = stmt_grabs_are (stmts.Case p.0 p.1.0 p.1.1.0) _ (stmts.outs-Case p.0 p.1.0 p.1.1.0) t
stmt_of_grabs (inr (inr (inr (inr x)))) t = loop_grabs x t

-- ---- each statement is one of them

abbrev Whole : Layer → Type 0
Whole l = (x : Statements) × (stmt_of x ≡ roll-Stmt l)

loops : (x : FromWhile) (l : Layer) → of_while x ≡ roll-Stmt l → Whole l
loops x l e = (inr (inr (inr (inr x))), e)

jumps : (x : FromReturn) (l : Layer) → of_return x ≡ roll-Stmt l → Whole l
jumps x l e = loops (inr (inr (inr (inr x)))) l e

others : (x : FromFinish) (l : Layer) → of_finish x ≡ roll-Stmt l → Whole l
others x l e = jumps (inr (inr (inr (inr x)))) l e

named : (n : Name) (x : NamedTail) (l : Layer) → named_of n x ≡ roll-Stmt l → Whole l
named n x l e = others (inr (inr (inr (n, x)))) l e

changed_all : (c : Change) → Whole (Stmt-F.Change c)
changed_all c =
    let x = change_all c in
    let o = out-Lvalue x.0.0 in
    named o.name (inr (inr (o.selects, (x.0.1, tt)))) (Stmt-F.Change c) (ap (λ l. stmts.Change (change_of l x.0.1)) (roll-out-Lvalue x.0.0) ∙ ap stmts.Change x.1 ∙ sym (stmts.rolls-Change c))

all_by : (l : Layer) → Whole l
all_by (Stmt-F.Empty k) = (inl (k, tt), sym (stmts.rolls-Empty k))
all_by (Stmt-F.Block b) = let o = out-Block b in (inr (inl (o.token, (o.label, (o.variables, (o.statements, o.end))))), ap stmts.Block (roll-out-Block b) ∙ sym (stmts.rolls-Block b))
all_by (Stmt-F.If i) = let o = out-If i in (inr (inr (inl (o.token, (o.condition, (o.body, (o.others, o.last)))))), ap stmts.If (roll-out-If i) ∙ sym (stmts.rolls-If i))
all_by (Stmt-F.Case k e is) = (inr (inr (inr (inl (k, (e, (is, tt)))))), sym (stmts.rolls-Case k e is))
all_by (Stmt-F.While k e s) = loops (inl (k, (e, s))) (Stmt-F.While k e s) (sym (stmts.rolls-While k e s))
all_by (Stmt-F.Repeat k e s) = loops (inr (inl (k, (e, s)))) (Stmt-F.Repeat k e s) (sym (stmts.rolls-Repeat k e s))
all_by (Stmt-F.Forever k s) = loops (inr (inr (inl (k, s)))) (Stmt-F.Forever k s) (sym (stmts.rolls-Forever k s))
all_by (Stmt-F.For k a e c s) = loops (inr (inr (inr (inl (k, (a, (e, (c, s)))))))) (Stmt-F.For k a e c s) (sym (stmts.rolls-For k a e c s))
all_by (Stmt-F.Return k e) = jumps (inl (k, (e, tt))) (Stmt-F.Return k e) (sym (stmts.rolls-Return k e))
all_by (Stmt-F.Break k) = jumps (inr (inl (k, tt))) (Stmt-F.Break k) (sym (stmts.rolls-Break k))
all_by (Stmt-F.Continue k) = jumps (inr (inr (inl (k, tt)))) (Stmt-F.Continue k) (sym (stmts.rolls-Continue k))
all_by (Stmt-F.Disable k n) = jumps (inr (inr (inr (inl (k, (n, tt)))))) (Stmt-F.Disable k n) (sym (stmts.rolls-Disable k n))
all_by (Stmt-F.Finish k n) = others (inl (k, (n, tt))) (Stmt-F.Finish k n) (sym (stmts.rolls-Finish k n))
all_by (Stmt-F.Show k w) = others (inr (inl (k, (w, inr tt)))) (Stmt-F.Show k w) (sym (stmts.rolls-Show k w))
all_by (Stmt-F.ShowActuals k w o f) = others (inr (inl (k, (w, inl (o, (f, tt)))))) (Stmt-F.ShowActuals k w o f) (sym (stmts.rolls-ShowActuals k w o f))
all_by (Stmt-F.Void k c) = others (inr (inr (inl (k, (c, tt))))) (Stmt-F.Void k c) (sym (stmts.rolls-Void k c))
all_by (Stmt-F.Call c) = let o = out-Call c in named o.name (inr (inl ((o.token, o.actuals), tt))) (Stmt-F.Call c) (ap stmts.Call (roll-out-Call c) ∙ sym (stmts.rolls-Call c))
all_by (Stmt-F.Name n) = named n (inl tt) (Stmt-F.Name n) (sym (stmts.rolls-Name n))
all_by (Stmt-F.Change c) = changed_all c

pub stmt_all : (z : Stmt) → (x : Statements) × (stmt_of x ≡ z)
stmt_all z = let x = all_by (out-Stmt z) in (x.0, x.1 ∙ roll-out-Stmt z)

-- ---- what they begin with

abbrev is_any : Option Class → Bool
is_any c = is_class classes.Semicolon c || is_from_begin c

any_front : Fronts is_any any_stmt
any_front = sum_fronts (is_class classes.Semicolon) is_from_begin an_empty from_begin (λ n x r h. (knows classes.Semicolon refl).yes) from_begin_front

is_any_statement : (o : Option Class) → is_any o ≡ true → is_statement o ≡ true
unfolding is_class
is_any_statement (Some classes.Semicolon) e = refl
is_any_statement (Some classes.Begin) e = refl
is_any_statement (Some classes.If) e = refl
is_any_statement (Some classes.Case) e = refl
is_any_statement (Some classes.While) e = refl
is_any_statement (Some classes.Repeat) e = refl
is_any_statement (Some classes.Forever) e = refl
is_any_statement (Some classes.For) e = refl
is_any_statement (Some classes.Return) e = refl
is_any_statement (Some classes.Break) e = refl
is_any_statement (Some classes.Continue) e = refl
is_any_statement (Some classes.Disable) e = refl
is_any_statement (Some classes.Finish) e = refl
is_any_statement (Some classes.Display) e = refl
is_any_statement (Some classes.Write) e = refl
is_any_statement (Some classes.Void) e = refl
is_any_statement (Some classes.Name) e = refl
is_any_statement _ e = cc

-- each statement begins with such a token
pub stmt_starts : Starts begins_statement a_stmt
stmt_starts = starts_as begins_statement a_stmt any_stmt stmt_of stmt_of_told stmt_all (λ n x r h. is_any_statement _ (any_front n x r h))

-- `;` is a shortest statement
pub stmt_viable : (d n : ℕ) → Viable a_stmt d n []
stmt_viable d n = form_viable an_empty a_stmt (λ p. stmts.Empty p.0) (told_form an_empty a_stmt (λ p. stmts.Empty p.0) (λ p. stmt_of_told (inl p)) (λ p t. stmt_of_grabs (inl p) t)) d n []
    (record { tree = (n, tt); left = word_of classes.Semicolon ∷ []; begins = refl; is = (refl, tt); few = omega arith })

-- a statement that isn't an `if`
pub another_viable : (d n : ℕ) → Viable another d n []
another_viable d n =
    let e = stmt_of_told (inl (n, tt)) in
    let low : (stmt_told (stmts.Empty n)).levels ≤ d = subst (λ (a : Tells). a.levels ≤ d) (sym e) (omega arith) in
    record {
      tree = stmts.Empty n;
      left = words another (stmts.Empty n);
      begins = refl;
      is = (ap (λ (a : Tells). not (is classes.If (first (words_in a.atoms)))) e ∙ ap not (word_is_not classes.If classes.Semicolon refl refl), subst (λ (a : Tells). IsRight n a.atoms) (sym e) (refl, tt));
      few = omega (arith, low);
    }

-- no statement goes on with a token that begins one
pub stmt_next : (s : Stmt) → Apart begins_statement (a_stmt.grabs s)
stmt_next s t e = open_free (stmt_told s).unended (stmt_bare s) t (excluded_by classes.Else is_statement refl t e) (excluded_by classes.Colon is_statement refl t e)

-- statements one after another
pub stmts_repeat : Repeats begins_statement a_stmt
stmts_repeat = record { starts = stmt_starts; next = stmt_next; at_end = refl }

-- it doesn't go on with the word of this class
pub stmt_apart : (c : Class) → sameb the_type classes.Else c ≡ false → sameb the_type classes.Colon c ≡ false → (s : Stmt) → Apart (is c) (a_stmt.grabs s)
stmt_apart c else_other colon_other s t e = open_free (stmt_told s).unended (stmt_bare s) t (apart_of c classes.Else else_other t e) (apart_of c classes.Colon colon_other t e)

-- With which tokens a statement goes on: with `else` where it ends in an `if` without one, with `:` where it ends in an `end` without a label.
use Rattle.std.proofs.Common.{◌≡◌, ℕ, Bool, true, false, not, ◌||◌, ◌&&◌, List, [], ◌∷◌, map, Option, Some, None, refl, sym, ap, ◌∙◌}
use Rattle.std.specs.Prelude.{option_map}
use Rattle.dpi_grammar.specs.Parser.{is_there}
use Rattle.dpi_grammar.specs.Told.{Told}
use Rattle.dpi_grammar.proofs.Exact.{Kind}
use Rattle.dpi_grammar.proofs.Rules.{never}
use Rattle.dpi_grammar.proofs.Many.{option_grabs}
use Rattle.dpi_lex.specs.Words.{Word}
use Rattle.sv_tree.specs.declared.class.Class.TheVariants as classes
use Rattle.sv_tree.specs.declared.expr.Expr.{Expr}
use Rattle.sv_tree.specs.declared.statements.Label.{Label}
use Rattle.sv_tree.specs.declared.statements.Variables.{Variables}
use Rattle.sv_tree.specs.declared.statements.Stmt.{Stmt, roll-Stmt, out-Stmt, roll-out-Stmt, fold-Stmt, fold-roll-Stmt}
use Rattle.sv_tree.specs.declared.statements.Block.{Block, fold-Block, fold-roll-Block}
use Rattle.sv_tree.specs.declared.statements.CaseItem.{CaseItem, fold-CaseItem, fold-roll-CaseItem}
use Rattle.sv_tree.specs.declared.statements.Else.{Else, fold-Else, fold-roll-Else}
use Rattle.sv_tree.specs.declared.statements.ElseIf.{ElseIf, fold-ElseIf, fold-roll-ElseIf}
use Rattle.sv_tree.specs.declared.statements.If.{If, fold-If, fold-roll-If}
use Rattle.sv_tree.specs.declared.statements.Stmt.TheOpen.{Stmt-F, Block-F, CaseItem-F, Else-F, ElseIf-F, If-F}
use Rattle.sv_tree.specs.Classes.{is}
use Rattle.sv_tree.specs.Statements.{stmt_told, item_told, else_told, else_if_told}
use Rattle.sv_cursor.proofs.Tokens.{apart_of}
use Rattle.sv_cursor.proofs.LeafRules.{a_label}
use Rattle.sv_stmt.proofs.Trees.{Layer, layer_told, stmt_tells, block, item, else_part, else_if, branch, item_tells, else_tells, else_if_tells}

-- ---- whether the last token is an `end` without a label

abbrev pub last_of : Bool → List Bool → Bool
last_of b [] = b
last_of b (c ∷ cs) = last_of c cs

abbrev pub bare_stmt : Stmt-F Bool Bool Bool Bool Bool Bool → Bool
bare_stmt (Stmt-F.Block b) = b
bare_stmt (Stmt-F.If i) = i
bare_stmt (Stmt-F.While k e s) = s
bare_stmt (Stmt-F.Repeat k e s) = s
bare_stmt (Stmt-F.Forever k s) = s
bare_stmt (Stmt-F.For k a e c s) = s
bare_stmt _ = false

abbrev pub bare_block : Block-F Bool Bool Bool Bool Bool Bool → Bool
bare_block b = not (is_there b.end)

abbrev pub bare_item : CaseItem-F Bool Bool Bool Bool Bool Bool → Bool
bare_item i = i.body

abbrev pub bare_else : Else-F Bool Bool Bool Bool Bool Bool → Bool
bare_else e = e.body

abbrev pub bare_else_if : ElseIf-F Bool Bool Bool Bool Bool Bool → Bool
bare_else_if p = p.body

abbrev pub bare_if_by : Bool → List Bool → Option Bool → Bool
bare_if_by b bs None = last_of b bs
bare_if_by b bs (Some c) = c

abbrev pub bare_if : If-F Bool Bool Bool Bool Bool Bool → Bool
bare_if i = bare_if_by i.body i.others i.last

abbrev pub stmt_bare : Stmt → Bool
stmt_bare = fold-Stmt Bool Bool Bool Bool Bool Bool bare_stmt bare_block bare_item bare_else bare_else_if bare_if

abbrev pub block_bare : Block → Bool
block_bare = fold-Block Bool Bool Bool Bool Bool Bool bare_stmt bare_block bare_item bare_else bare_else_if bare_if

abbrev pub item_bare : CaseItem → Bool
item_bare = fold-CaseItem Bool Bool Bool Bool Bool Bool bare_stmt bare_block bare_item bare_else bare_else_if bare_if

abbrev pub else_bare : Else → Bool
else_bare = fold-Else Bool Bool Bool Bool Bool Bool bare_stmt bare_block bare_item bare_else bare_else_if bare_if

abbrev pub else_if_bare : ElseIf → Bool
else_if_bare = fold-ElseIf Bool Bool Bool Bool Bool Bool bare_stmt bare_block bare_item bare_else bare_else_if bare_if

abbrev pub if_bare : If → Bool
if_bare = fold-If Bool Bool Bool Bool Bool Bool bare_stmt bare_block bare_item bare_else bare_else_if bare_if

-- ---- kinds

abbrev pub open_grabs : Bool → Bool → Option Word → Bool
open_grabs unended bare t = (unended && is classes.Else t) || (bare && is classes.Colon t)

abbrev pub a_stmt : Kind Word Stmt
a_stmt = record { told = stmt_told; grabs = λ s. open_grabs (stmt_told s).unended (stmt_bare s) }

abbrev pub an_item : Kind Word CaseItem
an_item = record { told = item_told; grabs = λ i. open_grabs (item_told i).unended (item_bare i) }

abbrev pub an_else : Kind Word Else
an_else = record { told = else_told; grabs = λ e. open_grabs (else_told e).unended (else_bare e) }

abbrev pub an_else_if : Kind Word ElseIf
an_else_if = record { told = else_if_told; grabs = λ p. open_grabs (else_if_told p).unended (else_if_bare p) }

-- ---- which tokens those are

and_false : (a b : Bool) → b ≡ false → (a && b) ≡ false
and_false true b e = e
and_false false b e = refl

-- it goes on with no other token
pub open_free : (u c : Bool) (t : Option Word) → is classes.Else t ≡ false → is classes.Colon t ≡ false → open_grabs u c t ≡ false
open_free true true t e f = ap (λ b. b || is classes.Colon t) e ∙ f
open_free true false t e f = ap (λ b. b || false) e
open_free false true t e f = f
open_free false false t e f = refl

-- of `else`, it goes on with it where it is unended
pub open_else : (u c : Bool) (t : Option Word) → is classes.Else t ≡ true → open_grabs u c t ≡ u
open_else true c t e = ap (λ b. b || (c && is classes.Colon t)) e
open_else false c t e = and_false c (is classes.Colon t) (apart_of classes.Else classes.Colon refl t e)

pub stmt_free : (s : Stmt) (t : Option Word) → is classes.Else t ≡ false → is classes.Colon t ≡ false → a_stmt.grabs s t ≡ false
stmt_free s t e f = open_free (stmt_told s).unended (stmt_bare s) t e f

-- an `if` without its last `else`
or_twice : (a b : Bool) → (a || (a || b)) ≡ (a || b)
or_twice true b = refl
or_twice false b = refl

pub unended_grabs : (u c : Bool) (t : Option Word) → (is classes.Else t || open_grabs u c t) ≡ open_grabs true c t
unended_grabs true c t = or_twice (is classes.Else t) (c && is classes.Colon t)
unended_grabs false c t = refl

-- behind an `end`
or_none : (b : Bool) → b ≡ (b || false)
or_none true = refl
or_none false = refl

pub end_grabs : (o : Option Label) (t : Option Word) → open_grabs false (not (is_there o)) t ≡ option_grabs (is classes.Colon) a_label never o t
end_grabs None t = or_none (is classes.Colon t)
end_grabs (Some l) t = refl

-- ---- layers

abbrev pub layer_bare : Layer → Bool
layer_bare (Stmt-F.Block b) = block_bare b
layer_bare (Stmt-F.If i) = if_bare i
layer_bare (Stmt-F.While k e s) = stmt_bare s
layer_bare (Stmt-F.Repeat k e s) = stmt_bare s
layer_bare (Stmt-F.Forever k s) = stmt_bare s
layer_bare (Stmt-F.For k a e c s) = stmt_bare s
layer_bare _ = false

layer_is_bare : (l : Layer) → stmt_bare (roll-Stmt l) ≡ layer_bare l
layer_is_bare (Stmt-F.Empty k) = fold-roll-Stmt Bool Bool Bool Bool Bool Bool bare_stmt bare_block bare_item bare_else bare_else_if bare_if _
layer_is_bare (Stmt-F.Block b) = fold-roll-Stmt Bool Bool Bool Bool Bool Bool bare_stmt bare_block bare_item bare_else bare_else_if bare_if _
layer_is_bare (Stmt-F.If i) = fold-roll-Stmt Bool Bool Bool Bool Bool Bool bare_stmt bare_block bare_item bare_else bare_else_if bare_if _
layer_is_bare (Stmt-F.Case k e is) = fold-roll-Stmt Bool Bool Bool Bool Bool Bool bare_stmt bare_block bare_item bare_else bare_else_if bare_if _
layer_is_bare (Stmt-F.While k e s) = fold-roll-Stmt Bool Bool Bool Bool Bool Bool bare_stmt bare_block bare_item bare_else bare_else_if bare_if _
layer_is_bare (Stmt-F.Repeat k e s) = fold-roll-Stmt Bool Bool Bool Bool Bool Bool bare_stmt bare_block bare_item bare_else bare_else_if bare_if _
layer_is_bare (Stmt-F.Forever k s) = fold-roll-Stmt Bool Bool Bool Bool Bool Bool bare_stmt bare_block bare_item bare_else bare_else_if bare_if _
layer_is_bare (Stmt-F.For k a e c s) = fold-roll-Stmt Bool Bool Bool Bool Bool Bool bare_stmt bare_block bare_item bare_else bare_else_if bare_if _
layer_is_bare (Stmt-F.Return k e) = fold-roll-Stmt Bool Bool Bool Bool Bool Bool bare_stmt bare_block bare_item bare_else bare_else_if bare_if _
layer_is_bare (Stmt-F.Break k) = fold-roll-Stmt Bool Bool Bool Bool Bool Bool bare_stmt bare_block bare_item bare_else bare_else_if bare_if _
layer_is_bare (Stmt-F.Continue k) = fold-roll-Stmt Bool Bool Bool Bool Bool Bool bare_stmt bare_block bare_item bare_else bare_else_if bare_if _
layer_is_bare (Stmt-F.Disable k n) = fold-roll-Stmt Bool Bool Bool Bool Bool Bool bare_stmt bare_block bare_item bare_else bare_else_if bare_if _
layer_is_bare (Stmt-F.Finish k n) = fold-roll-Stmt Bool Bool Bool Bool Bool Bool bare_stmt bare_block bare_item bare_else bare_else_if bare_if _
layer_is_bare (Stmt-F.Show k w) = fold-roll-Stmt Bool Bool Bool Bool Bool Bool bare_stmt bare_block bare_item bare_else bare_else_if bare_if _
layer_is_bare (Stmt-F.ShowActuals k w o f) = fold-roll-Stmt Bool Bool Bool Bool Bool Bool bare_stmt bare_block bare_item bare_else bare_else_if bare_if _
layer_is_bare (Stmt-F.Void k c) = fold-roll-Stmt Bool Bool Bool Bool Bool Bool bare_stmt bare_block bare_item bare_else bare_else_if bare_if _
layer_is_bare (Stmt-F.Call c) = fold-roll-Stmt Bool Bool Bool Bool Bool Bool bare_stmt bare_block bare_item bare_else bare_else_if bare_if _
layer_is_bare (Stmt-F.Name n) = fold-roll-Stmt Bool Bool Bool Bool Bool Bool bare_stmt bare_block bare_item bare_else bare_else_if bare_if _
layer_is_bare (Stmt-F.Change c) = fold-roll-Stmt Bool Bool Bool Bool Bool Bool bare_stmt bare_block bare_item bare_else bare_else_if bare_if _

pub stmt_bare_is : (z : Stmt) (l : Layer) → out-Stmt z ≡ l → stmt_bare z ≡ layer_bare l
stmt_bare_is z l e = ap stmt_bare (sym (roll-out-Stmt z)) ∙ layer_is_bare (out-Stmt z) ∙ ap layer_bare e

-- what a layer goes on with
abbrev pub layer_grabs : Layer → Option Word → Bool
layer_grabs l = open_grabs (layer_told l).unended (layer_bare l)

pub stmt_grabs_are : (z : Stmt) (l : Layer) → out-Stmt z ≡ l → (t : Option Word) → a_stmt.grabs z t ≡ layer_grabs l t
stmt_grabs_are z l e t = ap (λ u. open_grabs u (stmt_bare z) t) (ap (λ (a : Told Word). a.unended) (stmt_tells z l e)) ∙ ap (λ c. open_grabs (layer_told l).unended c t) (stmt_bare_is z l e)

pub block_bare_is : (k : ℕ) (l : Option Label) (vs : List Variables) (ss : List Stmt) (e : Option Label) → block_bare (block k l vs ss e) ≡ not (is_there e)
block_bare_is k l vs ss e = fold-roll-Block Bool Bool Bool Bool Bool Bool bare_stmt bare_block bare_item bare_else bare_else_if bare_if _

pub item_grabs_are : (k : ℕ) (vs : Option (List Expr)) (s : Stmt) (t : Option Word) → an_item.grabs (item k vs s) t ≡ a_stmt.grabs s t
item_grabs_are k vs s t = ap (λ (a : Told Word). open_grabs a.unended (item_bare (item k vs s)) t) (item_tells k vs s)
    ∙ ap (λ c. open_grabs (stmt_told s).unended c t) (fold-roll-CaseItem Bool Bool Bool Bool Bool Bool bare_stmt bare_block bare_item bare_else bare_else_if bare_if _)

pub else_grabs_are : (k : ℕ) (s : Stmt) (t : Option Word) → an_else.grabs (else_part k s) t ≡ a_stmt.grabs s t
else_grabs_are k s t = ap (λ (a : Told Word). open_grabs a.unended (else_bare (else_part k s)) t) (else_tells k s)
    ∙ ap (λ c. open_grabs (stmt_told s).unended c t) (fold-roll-Else Bool Bool Bool Bool Bool Bool bare_stmt bare_block bare_item bare_else bare_else_if bare_if _)

pub else_if_grabs_are : (k : ℕ) (e : Expr) (s : Stmt) (t : Option Word) → an_else_if.grabs (else_if k e s) t ≡ a_stmt.grabs s t
else_if_grabs_are k e s t = ap (λ (a : Told Word). open_grabs a.unended (else_if_bare (else_if k e s)) t) (else_if_tells k e s)
    ∙ ap (λ c. open_grabs (stmt_told s).unended c t) (fold-roll-ElseIf Bool Bool Bool Bool Bool Bool bare_stmt bare_block bare_item bare_else bare_else_if bare_if _)

pub if_bare_is : (k : ℕ) (e : Expr) (s : Stmt) (ps : List ElseIf) (l : Option Else) → if_bare (branch k e s ps l) ≡ bare_if_by (stmt_bare s) (map else_if_bare ps) (option_map else_bare l)
if_bare_is k e s ps None = fold-roll-If Bool Bool Bool Bool Bool Bool bare_stmt bare_block bare_item bare_else bare_else_if bare_if _
if_bare_is k e s ps (Some l) = fold-roll-If Bool Bool Bool Bool Bool Bool bare_stmt bare_block bare_item bare_else bare_else_if bare_if _

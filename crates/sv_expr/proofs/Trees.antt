-- What each production tells, as equations; and the trees of each type.
use Rattle.std.proofs.Common.{◌≡◌, ℕ, List, map, Option, Some, None, sym, ap, ◌∙◌}
use Rattle.std.specs.Prelude.{option_map}
use Rattle.dpi_grammar.specs.Told.{◌&◌, noted, maybe, each, deeper, between, some_between}
use Rattle.sv_tree.specs.declared.class.Class.TheVariants as classes
use Rattle.sv_tree.specs.declared.leaves.Name.{Name}
use Rattle.sv_tree.specs.declared.operators.BinaryOperator.{BinaryOperator}
use Rattle.sv_tree.specs.declared.expr.Prefix.{Prefix}
use Rattle.sv_tree.specs.declared.expr.Expr.{Expr, roll-Expr, fold-roll-Expr}
use Rattle.sv_tree.specs.declared.expr.Choice.{Choice, roll-Choice, fold-roll-Choice}
use Rattle.sv_tree.specs.declared.expr.Chain.{Chain, roll-Chain, fold-roll-Chain}
use Rattle.sv_tree.specs.declared.expr.Term.{Term, roll-Term, fold-roll-Term}
use Rattle.sv_tree.specs.declared.expr.Operand.{Operand, roll-Operand, fold-roll-Operand}
use Rattle.sv_tree.specs.declared.expr.Primary.{Primary, roll-Primary, out-Primary, roll-out-Primary, fold-roll-Primary}
use Rattle.sv_tree.specs.declared.expr.Lvalue.{Lvalue, roll-Lvalue, fold-roll-Lvalue}
use Rattle.sv_tree.specs.declared.expr.Select.{Select, roll-Select, out-Select, roll-out-Select, fold-roll-Select}
use Rattle.sv_tree.specs.declared.expr.Call.{Call, roll-Call, fold-roll-Call}
use Rattle.sv_tree.specs.declared.expr.Primary.TheOpen.{Primary-F, Select-F}
use Rattle.sv_tree.specs.Operators.{binary_class}
use Rattle.sv_tree.specs.Expressions.{Tells, quoted, comma, primary_step, select_step, call_step, chain_step, choice_step, expr_step, lvalue_step, operand_step, term_step, expr_told, chain_told, choice_told, operand_told, term_told, primary_told, select_told, call_told, lvalue_told, prefix_told, name_told, number_told, text_told, bound_told}
use Rattle.sv_expr.specs.Bounds.{Layer}

-- ---- trees

abbrev pub expr : ℕ → Chain → Option Choice → Expr
expr k c o = roll-Expr (record { token = k; chain = c; choice = o })

abbrev pub choice : ℕ → Expr → Expr → Choice
choice k x y = roll-Choice (record { token = k; yes = x; no = y })

abbrev pub chain : ℕ → Operand → List Term → Chain
chain k x xs = roll-Chain (record { token = k; first = x; rest = xs })

abbrev pub term : ℕ → BinaryOperator → Operand → Term
term k o x = roll-Term (record { token = k; operator = o; operand = x })

abbrev pub operand : ℕ → List Prefix → Primary → Operand
operand k us p = roll-Operand (record { token = k; prefixes = us; primary = p })

abbrev pub lvalue : Name → List Select → Lvalue
lvalue n ss = roll-Lvalue (record { name = n; selects = ss })

abbrev pub call : Name → ℕ → List Expr → Call
call n k xs = roll-Call (record { name = n; token = k; actuals = xs })

-- ---- what they tell

pub expr_tells : (k : ℕ) (c : Chain) (o : Option Choice) → expr_told (expr k c o) ≡ noted k & chain_told c & maybe (option_map choice_told o)
expr_tells k c None = fold-roll-Expr Tells Tells Tells Tells Tells Tells Tells Tells Tells primary_step select_step call_step chain_step choice_step expr_step lvalue_step operand_step term_step _
expr_tells k c (Some x) = fold-roll-Expr Tells Tells Tells Tells Tells Tells Tells Tells Tells primary_step select_step call_step chain_step choice_step expr_step lvalue_step operand_step term_step _

pub choice_tells : (k : ℕ) (x y : Expr) → choice_told (choice k x y) ≡ deeper (noted k & quoted classes.Question & expr_told x & quoted classes.Colon & expr_told y)
choice_tells k x y = fold-roll-Choice Tells Tells Tells Tells Tells Tells Tells Tells Tells primary_step select_step call_step chain_step choice_step expr_step lvalue_step operand_step term_step _

pub chain_tells : (k : ℕ) (x : Operand) (xs : List Term) → chain_told (chain k x xs) ≡ noted k & operand_told x & each (map term_told xs)
chain_tells k x xs = fold-roll-Chain Tells Tells Tells Tells Tells Tells Tells Tells Tells primary_step select_step call_step chain_step choice_step expr_step lvalue_step operand_step term_step _

pub term_tells : (k : ℕ) (o : BinaryOperator) (x : Operand) → term_told (term k o x) ≡ noted k & quoted (binary_class o) & operand_told x
term_tells k o x = fold-roll-Term Tells Tells Tells Tells Tells Tells Tells Tells Tells primary_step select_step call_step chain_step choice_step expr_step lvalue_step operand_step term_step _

pub operand_tells : (k : ℕ) (us : List Prefix) (p : Primary) → operand_told (operand k us p) ≡ noted k & each (map prefix_told us) & primary_told p
operand_tells k us p = fold-roll-Operand Tells Tells Tells Tells Tells Tells Tells Tells Tells primary_step select_step call_step chain_step choice_step expr_step lvalue_step operand_step term_step _

pub lvalue_tells : (n : Name) (ss : List Select) → lvalue_told (lvalue n ss) ≡ name_told n & each (map select_told ss)
lvalue_tells n ss = fold-roll-Lvalue Tells Tells Tells Tells Tells Tells Tells Tells Tells primary_step select_step call_step chain_step choice_step expr_step lvalue_step operand_step term_step _

pub call_tells : (n : Name) (k : ℕ) (xs : List Expr) → call_told (call n k xs) ≡ name_told n & deeper (noted k & quoted classes.OpenParen & between comma (map expr_told xs) & quoted classes.CloseParen)
call_tells n k xs = fold-roll-Call Tells Tells Tells Tells Tells Tells Tells Tells Tells primary_step select_step call_step chain_step choice_step expr_step lvalue_step operand_step term_step _

-- a layer of a primary, with what its parts tell
abbrev pub layer_told : Layer → Tells
layer_told (Primary-F.Number n) = number_told n
layer_told (Primary-F.Text t) = text_told t
layer_told (Primary-F.Null k) = noted k & quoted classes.Null
layer_told (Primary-F.Place l) = lvalue_told l
layer_told (Primary-F.Call c) = call_told c
layer_told (Primary-F.Group k e) = deeper (noted k & quoted classes.OpenParen & expr_told e & quoted classes.CloseParen)
layer_told (Primary-F.Concatenation k es) = deeper (noted k & quoted classes.OpenBrace & some_between comma (map expr_told es) & quoted classes.CloseBrace)
layer_told (Primary-F.Repetition k n es) =
    deeper (noted k & quoted classes.OpenBrace & number_told n & quoted classes.OpenBrace & some_between comma (map expr_told es) & quoted classes.CloseBrace & quoted classes.CloseBrace)
layer_told (Primary-F.Signed k e) = deeper (noted k & quoted classes.ToSigned & quoted classes.OpenParen & expr_told e & quoted classes.CloseParen)
layer_told (Primary-F.Unsigned k e) = deeper (noted k & quoted classes.ToUnsigned & quoted classes.OpenParen & expr_told e & quoted classes.CloseParen)

layer_tells : (l : Layer) → primary_told (roll-Primary l) ≡ layer_told l
layer_tells (Primary-F.Number n) = fold-roll-Primary Tells Tells Tells Tells Tells Tells Tells Tells Tells primary_step select_step call_step chain_step choice_step expr_step lvalue_step operand_step term_step _
layer_tells (Primary-F.Text t) = fold-roll-Primary Tells Tells Tells Tells Tells Tells Tells Tells Tells primary_step select_step call_step chain_step choice_step expr_step lvalue_step operand_step term_step _
layer_tells (Primary-F.Null k) = fold-roll-Primary Tells Tells Tells Tells Tells Tells Tells Tells Tells primary_step select_step call_step chain_step choice_step expr_step lvalue_step operand_step term_step _
layer_tells (Primary-F.Place l) = fold-roll-Primary Tells Tells Tells Tells Tells Tells Tells Tells Tells primary_step select_step call_step chain_step choice_step expr_step lvalue_step operand_step term_step _
layer_tells (Primary-F.Call c) = fold-roll-Primary Tells Tells Tells Tells Tells Tells Tells Tells Tells primary_step select_step call_step chain_step choice_step expr_step lvalue_step operand_step term_step _
layer_tells (Primary-F.Group k e) = fold-roll-Primary Tells Tells Tells Tells Tells Tells Tells Tells Tells primary_step select_step call_step chain_step choice_step expr_step lvalue_step operand_step term_step _
layer_tells (Primary-F.Concatenation k es) = fold-roll-Primary Tells Tells Tells Tells Tells Tells Tells Tells Tells primary_step select_step call_step chain_step choice_step expr_step lvalue_step operand_step term_step _
layer_tells (Primary-F.Repetition k n es) = fold-roll-Primary Tells Tells Tells Tells Tells Tells Tells Tells Tells primary_step select_step call_step chain_step choice_step expr_step lvalue_step operand_step term_step _
layer_tells (Primary-F.Signed k e) = fold-roll-Primary Tells Tells Tells Tells Tells Tells Tells Tells Tells primary_step select_step call_step chain_step choice_step expr_step lvalue_step operand_step term_step _
layer_tells (Primary-F.Unsigned k e) = fold-roll-Primary Tells Tells Tells Tells Tells Tells Tells Tells Tells primary_step select_step call_step chain_step choice_step expr_step lvalue_step operand_step term_step _

pub primary_tells : (p : Primary) (l : Layer) → out-Primary p ≡ l → primary_told p ≡ layer_told l
primary_tells p l e = ap primary_told (sym (roll-out-Primary p)) ∙ layer_tells (out-Primary p) ∙ ap layer_told e

-- a layer of a select, with what its parts tell
abbrev pub SelectLayer : Type 0
SelectLayer = Select-F Primary Select Call Chain Choice Expr Lvalue Operand Term

abbrev pub select_layer_told : SelectLayer → Tells
select_layer_told (Select-F.Index k e) = deeper (noted k & quoted classes.OpenBracket & expr_told e & quoted classes.CloseBracket)
select_layer_told (Select-F.Range k a b) = deeper (noted k & quoted classes.OpenBracket & bound_told a & quoted classes.Colon & bound_told b & quoted classes.CloseBracket)
select_layer_told (Select-F.Up k e n) = deeper (noted k & quoted classes.OpenBracket & expr_told e & quoted classes.PlusColon & number_told n & quoted classes.CloseBracket)
select_layer_told (Select-F.Down k e n) = deeper (noted k & quoted classes.OpenBracket & expr_told e & quoted classes.MinusColon & number_told n & quoted classes.CloseBracket)

select_layer_tells : (l : SelectLayer) → select_told (roll-Select l) ≡ select_layer_told l
select_layer_tells (Select-F.Index k e) = fold-roll-Select Tells Tells Tells Tells Tells Tells Tells Tells Tells primary_step select_step call_step chain_step choice_step expr_step lvalue_step operand_step term_step _
select_layer_tells (Select-F.Range k a b) = fold-roll-Select Tells Tells Tells Tells Tells Tells Tells Tells Tells primary_step select_step call_step chain_step choice_step expr_step lvalue_step operand_step term_step _
select_layer_tells (Select-F.Up k e n) = fold-roll-Select Tells Tells Tells Tells Tells Tells Tells Tells Tells primary_step select_step call_step chain_step choice_step expr_step lvalue_step operand_step term_step _
select_layer_tells (Select-F.Down k e n) = fold-roll-Select Tells Tells Tells Tells Tells Tells Tells Tells Tells primary_step select_step call_step chain_step choice_step expr_step lvalue_step operand_step term_step _

pub select_tells : (x : Select) (l : SelectLayer) → out-Select x ≡ l → select_told x ≡ select_layer_told l
select_tells x l e = ap select_told (sym (roll-out-Select x)) ∙ select_layer_tells (out-Select x) ∙ ap select_layer_told e

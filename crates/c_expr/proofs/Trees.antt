-- What each production tells, as equations; and the trees of each type.
use Rattle.std.proofs.Common.{◌≡◌, ℕ, List, map, Option, Some, None, sym, ap, ◌∙◌}
use Rattle.std.specs.Prelude.{option_map}
use Rattle.dpi_grammar.specs.Told.{◌&◌, noted, maybe, each, deeper, between}
use Rattle.c_tree.specs.declared.class.Class.TheVariants as classes
use Rattle.c_tree.specs.declared.operators.BinaryOperator.{BinaryOperator}
use Rattle.c_tree.specs.declared.operators.AssignOperator.{AssignOperator}
use Rattle.c_tree.specs.declared.expr.Prefix.{Prefix}
use Rattle.c_tree.specs.declared.expr.CExpr.{CExpr, roll-CExpr, fold-roll-CExpr}
use Rattle.c_tree.specs.declared.expr.Assignment.{Assignment, roll-Assignment, fold-roll-Assignment}
use Rattle.c_tree.specs.declared.expr.Cond.{Cond, roll-Cond, fold-roll-Cond}
use Rattle.c_tree.specs.declared.expr.Choice.{Choice, roll-Choice, fold-roll-Choice}
use Rattle.c_tree.specs.declared.expr.Chain.{Chain, roll-Chain, fold-roll-Chain}
use Rattle.c_tree.specs.declared.expr.Term.{Term, roll-Term, fold-roll-Term}
use Rattle.c_tree.specs.declared.expr.Operand.{Operand, roll-Operand, fold-roll-Operand}
use Rattle.c_tree.specs.declared.expr.Primary.{Primary, roll-Primary, out-Primary, roll-out-Primary, fold-roll-Primary}
use Rattle.c_tree.specs.declared.expr.Suffix.{Suffix, roll-Suffix, out-Suffix, roll-out-Suffix, fold-roll-Suffix}
use Rattle.c_tree.specs.declared.expr.Primary.TheOpen.{Primary-F, Suffix-F}
use Rattle.c_tree.specs.Leaves.{Tells, quoted, comma, name_told, number_told, character_told, text_told}
use Rattle.c_tree.specs.Operators.{binary_class, assign_class}
use Rattle.c_tree.specs.Expressions.{prefix_told, primary_step, suffix_step, assignment_step, expr_step, chain_step, choice_step, cond_step, operand_step, term_step, expr_told, assignment_told, cond_told, choice_told, chain_told, term_told, operand_told, primary_told, suffix_told}

-- ---- trees

abbrev pub expr : ℕ → Cond → List Assignment → CExpr
expr k c xs = roll-CExpr (record { token = k; first = c; rest = xs })

abbrev pub assignment : ℕ → AssignOperator → Cond → Assignment
assignment k o c = roll-Assignment (record { token = k; operator = o; value = c })

abbrev pub cond : ℕ → Chain → Option Choice → Cond
cond k c o = roll-Cond (record { token = k; chain = c; choice = o })

abbrev pub choice : ℕ → CExpr → Cond → Choice
choice k x y = roll-Choice (record { token = k; yes = x; no = y })

abbrev pub chain : ℕ → Operand → List Term → Chain
chain k x xs = roll-Chain (record { token = k; first = x; rest = xs })

abbrev pub term : ℕ → BinaryOperator → Operand → Term
term k o x = roll-Term (record { token = k; operator = o; operand = x })

abbrev pub operand : ℕ → List Prefix → Primary → List Suffix → Operand
operand k ps p ss = roll-Operand (record { token = k; prefixes = ps; primary = p; suffixes = ss })

-- ---- what they tell

pub expr_tells : (k : ℕ) (c : Cond) (xs : List Assignment) → expr_told (expr k c xs) ≡ noted k & cond_told c & each (map assignment_told xs)
expr_tells k c xs = fold-roll-CExpr Tells Tells Tells Tells Tells Tells Tells Tells Tells primary_step suffix_step assignment_step expr_step chain_step choice_step cond_step operand_step term_step _

pub assignment_tells : (k : ℕ) (o : AssignOperator) (c : Cond) → assignment_told (assignment k o c) ≡ noted k & quoted (assign_class o) & cond_told c
assignment_tells k o c = fold-roll-Assignment Tells Tells Tells Tells Tells Tells Tells Tells Tells primary_step suffix_step assignment_step expr_step chain_step choice_step cond_step operand_step term_step _

pub cond_tells : (k : ℕ) (c : Chain) (o : Option Choice) → cond_told (cond k c o) ≡ noted k & chain_told c & maybe (option_map choice_told o)
cond_tells k c None = fold-roll-Cond Tells Tells Tells Tells Tells Tells Tells Tells Tells primary_step suffix_step assignment_step expr_step chain_step choice_step cond_step operand_step term_step _
cond_tells k c (Some x) = fold-roll-Cond Tells Tells Tells Tells Tells Tells Tells Tells Tells primary_step suffix_step assignment_step expr_step chain_step choice_step cond_step operand_step term_step _

pub choice_tells : (k : ℕ) (x : CExpr) (y : Cond) → choice_told (choice k x y) ≡ deeper (noted k & quoted classes.Question & expr_told x & quoted classes.Colon & cond_told y)
choice_tells k x y = fold-roll-Choice Tells Tells Tells Tells Tells Tells Tells Tells Tells primary_step suffix_step assignment_step expr_step chain_step choice_step cond_step operand_step term_step _

pub chain_tells : (k : ℕ) (x : Operand) (xs : List Term) → chain_told (chain k x xs) ≡ noted k & operand_told x & each (map term_told xs)
chain_tells k x xs = fold-roll-Chain Tells Tells Tells Tells Tells Tells Tells Tells Tells primary_step suffix_step assignment_step expr_step chain_step choice_step cond_step operand_step term_step _

pub term_tells : (k : ℕ) (o : BinaryOperator) (x : Operand) → term_told (term k o x) ≡ noted k & quoted (binary_class o) & operand_told x
term_tells k o x = fold-roll-Term Tells Tells Tells Tells Tells Tells Tells Tells Tells primary_step suffix_step assignment_step expr_step chain_step choice_step cond_step operand_step term_step _

pub operand_tells : (k : ℕ) (ps : List Prefix) (p : Primary) (ss : List Suffix) → operand_told (operand k ps p ss) ≡ noted k & each (map prefix_told ps) & primary_told p & each (map suffix_told ss)
operand_tells k ps p ss = fold-roll-Operand Tells Tells Tells Tells Tells Tells Tells Tells Tells primary_step suffix_step assignment_step expr_step chain_step choice_step cond_step operand_step term_step _

-- a layer of a primary, with what its parts tell
abbrev pub Layer : Type 0
Layer = Primary-F Primary Suffix Assignment CExpr Chain Choice Cond Operand Term

abbrev pub layer_told : Layer → Tells
layer_told (Primary-F.Name n) = name_told n
layer_told (Primary-F.Number n) = number_told n
layer_told (Primary-F.Character c) = character_told c
layer_told (Primary-F.Text t) = text_told t
layer_told (Primary-F.Null k) = noted k & quoted classes.Null
layer_told (Primary-F.Call n k es) = name_told n & deeper (noted k & quoted classes.OpenParen & between comma (map expr_told es) & quoted classes.CloseParen)
layer_told (Primary-F.Group k e) = deeper (noted k & quoted classes.OpenParen & expr_told e & quoted classes.CloseParen)

layer_tells : (l : Layer) → primary_told (roll-Primary l) ≡ layer_told l
layer_tells (Primary-F.Name n) = fold-roll-Primary Tells Tells Tells Tells Tells Tells Tells Tells Tells primary_step suffix_step assignment_step expr_step chain_step choice_step cond_step operand_step term_step _
layer_tells (Primary-F.Number n) = fold-roll-Primary Tells Tells Tells Tells Tells Tells Tells Tells Tells primary_step suffix_step assignment_step expr_step chain_step choice_step cond_step operand_step term_step _
layer_tells (Primary-F.Character c) = fold-roll-Primary Tells Tells Tells Tells Tells Tells Tells Tells Tells primary_step suffix_step assignment_step expr_step chain_step choice_step cond_step operand_step term_step _
layer_tells (Primary-F.Text t) = fold-roll-Primary Tells Tells Tells Tells Tells Tells Tells Tells Tells primary_step suffix_step assignment_step expr_step chain_step choice_step cond_step operand_step term_step _
layer_tells (Primary-F.Null k) = fold-roll-Primary Tells Tells Tells Tells Tells Tells Tells Tells Tells primary_step suffix_step assignment_step expr_step chain_step choice_step cond_step operand_step term_step _
layer_tells (Primary-F.Call n k es) = fold-roll-Primary Tells Tells Tells Tells Tells Tells Tells Tells Tells primary_step suffix_step assignment_step expr_step chain_step choice_step cond_step operand_step term_step _
layer_tells (Primary-F.Group k e) = fold-roll-Primary Tells Tells Tells Tells Tells Tells Tells Tells Tells primary_step suffix_step assignment_step expr_step chain_step choice_step cond_step operand_step term_step _

pub primary_tells : (p : Primary) (l : Layer) → out-Primary p ≡ l → primary_told p ≡ layer_told l
primary_tells p l e = ap primary_told (sym (roll-out-Primary p)) ∙ layer_tells (out-Primary p) ∙ ap layer_told e

-- a layer of a suffix, with what its parts tell
abbrev pub SuffixLayer : Type 0
SuffixLayer = Suffix-F Primary Suffix Assignment CExpr Chain Choice Cond Operand Term

abbrev pub suffix_layer_told : SuffixLayer → Tells
suffix_layer_told (Suffix-F.Index k e) = deeper (noted k & quoted classes.OpenBracket & expr_told e & quoted classes.CloseBracket)
suffix_layer_told (Suffix-F.Member k n) = noted k & quoted classes.Dot & name_told n
suffix_layer_told (Suffix-F.Arrow k n) = noted k & quoted classes.Arrow & name_told n
suffix_layer_told (Suffix-F.Increment k) = noted k & quoted classes.Increment
suffix_layer_told (Suffix-F.Decrement k) = noted k & quoted classes.Decrement

suffix_layer_tells : (l : SuffixLayer) → suffix_told (roll-Suffix l) ≡ suffix_layer_told l
suffix_layer_tells (Suffix-F.Index k e) = fold-roll-Suffix Tells Tells Tells Tells Tells Tells Tells Tells Tells primary_step suffix_step assignment_step expr_step chain_step choice_step cond_step operand_step term_step _
suffix_layer_tells (Suffix-F.Member k n) = fold-roll-Suffix Tells Tells Tells Tells Tells Tells Tells Tells Tells primary_step suffix_step assignment_step expr_step chain_step choice_step cond_step operand_step term_step _
suffix_layer_tells (Suffix-F.Arrow k n) = fold-roll-Suffix Tells Tells Tells Tells Tells Tells Tells Tells Tells primary_step suffix_step assignment_step expr_step chain_step choice_step cond_step operand_step term_step _
suffix_layer_tells (Suffix-F.Increment k) = fold-roll-Suffix Tells Tells Tells Tells Tells Tells Tells Tells Tells primary_step suffix_step assignment_step expr_step chain_step choice_step cond_step operand_step term_step _
suffix_layer_tells (Suffix-F.Decrement k) = fold-roll-Suffix Tells Tells Tells Tells Tells Tells Tells Tells Tells primary_step suffix_step assignment_step expr_step chain_step choice_step cond_step operand_step term_step _

pub suffix_tells : (x : Suffix) (l : SuffixLayer) → out-Suffix x ≡ l → suffix_told x ≡ suffix_layer_told l
suffix_tells x l e = ap suffix_told (sym (roll-out-Suffix x)) ∙ suffix_layer_tells (out-Suffix x) ∙ ap suffix_layer_told e

-- What expressions tell: the productions, each with the numbers of its first tokens and with its levels.
use Rattle.std.specs.Prelude.{map}
use Rattle.dpi_grammar.specs.Told.{◌&◌, noted, deeper, each, maybe, between}
use Rattle.c_tree.specs.declared.class.Class.TheVariants as classes
use Rattle.c_tree.specs.declared.expr.Prefix.{Prefix}
use Rattle.c_tree.specs.declared.expr.Prefix.TheVariants as prefixes
use Rattle.c_tree.specs.declared.expr.CExpr.{CExpr, fold-CExpr}
use Rattle.c_tree.specs.declared.expr.Assignment.{Assignment, fold-Assignment}
use Rattle.c_tree.specs.declared.expr.Cond.{Cond, fold-Cond}
use Rattle.c_tree.specs.declared.expr.Choice.{Choice, fold-Choice}
use Rattle.c_tree.specs.declared.expr.Chain.{Chain, fold-Chain}
use Rattle.c_tree.specs.declared.expr.Term.{Term, fold-Term}
use Rattle.c_tree.specs.declared.expr.Operand.{Operand, fold-Operand}
use Rattle.c_tree.specs.declared.expr.Primary.{Primary, fold-Primary}
use Rattle.c_tree.specs.declared.expr.Suffix.{Suffix, fold-Suffix}
use Rattle.c_tree.specs.declared.expr.Primary.TheOpen.{Primary-F, Suffix-F, Assignment-F, CExpr-F, Chain-F, Choice-F, Cond-F, Operand-F, Term-F}
use Rattle.c_tree.specs.Leaves.{Tells, quoted, comma, name_told, number_told, character_told, text_told}
use Rattle.c_tree.specs.Operators.{unary_class, binary_class, assign_class}
use Rattle.c_tree.specs.Types.{type_told, stars_told}

-- unop | "(" type stars ")"
abbrev pub prefix_told : Prefix → Tells
prefix_told (prefixes.Sign k op) = noted k & quoted (unary_class op)
prefix_told (prefixes.Cast k t ss) = noted k & quoted classes.OpenParen & type_told t & stars_told ss & quoted classes.CloseParen

-- ---- productions, with what each part tells in its place

-- cond (assignop cond)*
abbrev pub expr_step : CExpr-F Tells Tells Tells Tells Tells Tells Tells Tells Tells → Tells
expr_step e = noted e.token & e.first & each e.rest

abbrev pub assignment_step : Assignment-F Tells Tells Tells Tells Tells Tells Tells Tells Tells → Tells
assignment_step a = noted a.token & quoted (assign_class a.operator) & a.value

-- chain ("?" expr ":" cond)?
abbrev pub cond_step : Cond-F Tells Tells Tells Tells Tells Tells Tells Tells Tells → Tells
cond_step c = noted c.token & c.chain & maybe c.choice

abbrev pub choice_step : Choice-F Tells Tells Tells Tells Tells Tells Tells Tells Tells → Tells
choice_step c = deeper (noted c.token & quoted classes.Question & c.yes & quoted classes.Colon & c.no)

-- cast (binop cast)*
abbrev pub chain_step : Chain-F Tells Tells Tells Tells Tells Tells Tells Tells Tells → Tells
chain_step c = noted c.token & c.first & each c.rest

abbrev pub term_step : Term-F Tells Tells Tells Tells Tells Tells Tells Tells Tells → Tells
term_step t = noted t.token & quoted (binary_class t.operator) & t.operand

-- (unop | "(" type stars ")")* primary ("[" expr "]" | "." id | "->" id | "++" | "--")*
abbrev pub operand_step : Operand-F Tells Tells Tells Tells Tells Tells Tells Tells Tells → Tells
operand_step o = noted o.token & each (map prefix_told o.prefixes) & o.primary & each o.suffixes

-- id | number | character | string | "NULL" | id "(" (expr,+)? ")" | "(" expr ")"
abbrev pub primary_step : Primary-F Tells Tells Tells Tells Tells Tells Tells Tells Tells → Tells
primary_step (Primary-F.Name n) = name_told n
primary_step (Primary-F.Number n) = number_told n
primary_step (Primary-F.Character c) = character_told c
primary_step (Primary-F.Text t) = text_told t
primary_step (Primary-F.Null k) = noted k & quoted classes.Null
primary_step (Primary-F.Call n k es) = name_told n & deeper (noted k & quoted classes.OpenParen & between comma es & quoted classes.CloseParen)
primary_step (Primary-F.Group k e) = deeper (noted k & quoted classes.OpenParen & e & quoted classes.CloseParen)

-- "[" expr "]" | "." id | "->" id | "++" | "--"
abbrev pub suffix_step : Suffix-F Tells Tells Tells Tells Tells Tells Tells Tells Tells → Tells
suffix_step (Suffix-F.Index k e) = deeper (noted k & quoted classes.OpenBracket & e & quoted classes.CloseBracket)
suffix_step (Suffix-F.Member k n) = noted k & quoted classes.Dot & name_told n
suffix_step (Suffix-F.Arrow k n) = noted k & quoted classes.Arrow & name_told n
suffix_step (Suffix-F.Increment k) = noted k & quoted classes.Increment
suffix_step (Suffix-F.Decrement k) = noted k & quoted classes.Decrement

abbrev pub expr_told : CExpr → Tells
expr_told = fold-CExpr Tells Tells Tells Tells Tells Tells Tells Tells Tells primary_step suffix_step assignment_step expr_step chain_step choice_step cond_step operand_step term_step

abbrev pub assignment_told : Assignment → Tells
assignment_told = fold-Assignment Tells Tells Tells Tells Tells Tells Tells Tells Tells primary_step suffix_step assignment_step expr_step chain_step choice_step cond_step operand_step term_step

abbrev pub cond_told : Cond → Tells
cond_told = fold-Cond Tells Tells Tells Tells Tells Tells Tells Tells Tells primary_step suffix_step assignment_step expr_step chain_step choice_step cond_step operand_step term_step

abbrev pub choice_told : Choice → Tells
choice_told = fold-Choice Tells Tells Tells Tells Tells Tells Tells Tells Tells primary_step suffix_step assignment_step expr_step chain_step choice_step cond_step operand_step term_step

abbrev pub chain_told : Chain → Tells
chain_told = fold-Chain Tells Tells Tells Tells Tells Tells Tells Tells Tells primary_step suffix_step assignment_step expr_step chain_step choice_step cond_step operand_step term_step

abbrev pub term_told : Term → Tells
term_told = fold-Term Tells Tells Tells Tells Tells Tells Tells Tells Tells primary_step suffix_step assignment_step expr_step chain_step choice_step cond_step operand_step term_step

abbrev pub operand_told : Operand → Tells
operand_told = fold-Operand Tells Tells Tells Tells Tells Tells Tells Tells Tells primary_step suffix_step assignment_step expr_step chain_step choice_step cond_step operand_step term_step

abbrev pub primary_told : Primary → Tells
primary_told = fold-Primary Tells Tells Tells Tells Tells Tells Tells Tells Tells primary_step suffix_step assignment_step expr_step chain_step choice_step cond_step operand_step term_step

abbrev pub suffix_told : Suffix → Tells
suffix_told = fold-Suffix Tells Tells Tells Tells Tells Tells Tells Tells Tells primary_step suffix_step assignment_step expr_step chain_step choice_step cond_step operand_step term_step

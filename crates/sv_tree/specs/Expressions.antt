-- What expressions tell: the productions, each with the numbers of its first tokens and with its levels.
use Rattle.std.specs.Prelude.{ℕ, Bool, true, false, List, [], ◌∷◌, map, Option}
use denote.Enum.Bare.{sameb}
use Rattle.dpi_grammar.specs.Told.{Told, ◌&◌, word, noted, kept, nothing, deeper, each, maybe, between, some_between}
use Rattle.dpi_lex.specs.Words.{Word}
use Rattle.dpi_lex.specs.declared.token.Kind.TheVariants as kinds
use Rattle.sv_tree.specs.contracts.class.Class.{the_type}
use Rattle.sv_tree.specs.declared.class.Class.{Class}
use Rattle.sv_tree.specs.declared.class.Class.TheVariants as classes
use Rattle.sv_tree.specs.declared.leaves.Name.{Name}
use Rattle.sv_tree.specs.declared.leaves.Number.{Number}
use Rattle.sv_tree.specs.declared.leaves.Text.{Text}
use Rattle.sv_tree.specs.declared.leaves.Bound.{Bound}
use Rattle.sv_tree.specs.declared.expr.Prefix.{Prefix}
use Rattle.sv_tree.specs.declared.expr.Expr.{Expr, fold-Expr}
use Rattle.sv_tree.specs.declared.expr.Choice.{Choice, fold-Choice}
use Rattle.sv_tree.specs.declared.expr.Chain.{Chain, fold-Chain}
use Rattle.sv_tree.specs.declared.expr.Term.{Term, fold-Term}
use Rattle.sv_tree.specs.declared.expr.Operand.{Operand, fold-Operand}
use Rattle.sv_tree.specs.declared.expr.Primary.{Primary, fold-Primary}
use Rattle.sv_tree.specs.declared.expr.Lvalue.{Lvalue, fold-Lvalue}
use Rattle.sv_tree.specs.declared.expr.Select.{Select, fold-Select}
use Rattle.sv_tree.specs.declared.expr.Call.{Call, fold-Call}
use Rattle.sv_tree.specs.declared.expr.Primary.TheOpen.{Primary-F, Select-F, Call-F, Chain-F, Choice-F, Expr-F, Lvalue-F, Operand-F, Term-F}
use Rattle.sv_tree.specs.Classes.{a_word, word_of, class_of}
use Rattle.sv_tree.specs.Operators.{unary_class, binary_class}

abbrev pub Tells : Type 0
Tells = Told Word

-- a token that a production quotes
abbrev pub quoted : Class → Tells
quoted c = word (word_of c)

abbrev pub comma : Word
comma = word_of classes.Comma

-- ---- parts of one token

-- letters that are no keyword and no system name
abbrev pub is_name : List ℕ → Bool
is_name bytes = sameb the_type classes.Name (class_of (a_word bytes))

abbrev pub number_word : List ℕ → Word
number_word bytes = record { kind = kinds.Number; bytes = bytes }

abbrev pub text_word : List ℕ → Word
text_word bytes = record { kind = kinds.Text; bytes = bytes }

abbrev pub name_told : Name → Tells
name_told n = noted n.token & kept (is_name n.bytes) & word (a_word n.bytes)

abbrev pub number_told : Number → Tells
number_told n = noted n.token & word (number_word n.bytes)

abbrev pub text_told : Text → Tells
text_told t = noted t.token & word (text_word t.bytes)

abbrev pub minus_told : Bool → Tells
minus_told true = quoted classes.Minus
minus_told false = nothing

-- "-"? number
abbrev pub bound_told : Bound → Tells
bound_told b = noted b.token & minus_told b.negative & number_told b.number

abbrev pub prefix_told : Prefix → Tells
prefix_told p = noted p.token & quoted (unary_class p.operator)

-- ---- productions, with what each part tells in its place

abbrev pub primary_step : Primary-F Tells Tells Tells Tells Tells Tells Tells Tells Tells → Tells
primary_step (Primary-F.Number n) = number_told n
primary_step (Primary-F.Text t) = text_told t
primary_step (Primary-F.Null k) = noted k & quoted classes.Null
primary_step (Primary-F.Place l) = l
primary_step (Primary-F.Call c) = c
primary_step (Primary-F.Group k e) = deeper (noted k & quoted classes.OpenParen & e & quoted classes.CloseParen)
primary_step (Primary-F.Concatenation k es) = deeper (noted k & quoted classes.OpenBrace & some_between comma es & quoted classes.CloseBrace)
primary_step (Primary-F.Repetition k n es) =
    deeper (noted k & quoted classes.OpenBrace & number_told n & quoted classes.OpenBrace & some_between comma es & quoted classes.CloseBrace & quoted classes.CloseBrace)
primary_step (Primary-F.Signed k e) = deeper (noted k & quoted classes.ToSigned & quoted classes.OpenParen & e & quoted classes.CloseParen)
primary_step (Primary-F.Unsigned k e) = deeper (noted k & quoted classes.ToUnsigned & quoted classes.OpenParen & e & quoted classes.CloseParen)

abbrev pub select_step : Select-F Tells Tells Tells Tells Tells Tells Tells Tells Tells → Tells
select_step (Select-F.Index k e) = deeper (noted k & quoted classes.OpenBracket & e & quoted classes.CloseBracket)
select_step (Select-F.Range k a b) = deeper (noted k & quoted classes.OpenBracket & bound_told a & quoted classes.Colon & bound_told b & quoted classes.CloseBracket)
select_step (Select-F.Up k e n) = deeper (noted k & quoted classes.OpenBracket & e & quoted classes.PlusColon & number_told n & quoted classes.CloseBracket)
select_step (Select-F.Down k e n) = deeper (noted k & quoted classes.OpenBracket & e & quoted classes.MinusColon & number_told n & quoted classes.CloseBracket)

abbrev pub call_step : Call-F Tells Tells Tells Tells Tells Tells Tells Tells Tells → Tells
call_step c = name_told c.name & deeper (noted c.token & quoted classes.OpenParen & between comma c.actuals & quoted classes.CloseParen)

abbrev pub chain_step : Chain-F Tells Tells Tells Tells Tells Tells Tells Tells Tells → Tells
chain_step c = noted c.token & c.first & each c.rest

abbrev pub choice_step : Choice-F Tells Tells Tells Tells Tells Tells Tells Tells Tells → Tells
choice_step c = deeper (noted c.token & quoted classes.Question & c.yes & quoted classes.Colon & c.no)

abbrev pub expr_step : Expr-F Tells Tells Tells Tells Tells Tells Tells Tells Tells → Tells
expr_step e = noted e.token & e.chain & maybe e.choice

abbrev pub lvalue_step : Lvalue-F Tells Tells Tells Tells Tells Tells Tells Tells Tells → Tells
lvalue_step l = name_told l.name & each l.selects

abbrev pub operand_step : Operand-F Tells Tells Tells Tells Tells Tells Tells Tells Tells → Tells
operand_step o = noted o.token & each (map prefix_told o.prefixes) & o.primary

abbrev pub term_step : Term-F Tells Tells Tells Tells Tells Tells Tells Tells Tells → Tells
term_step t = noted t.token & quoted (binary_class t.operator) & t.operand

abbrev pub primary_told : Primary → Tells
primary_told = fold-Primary Tells Tells Tells Tells Tells Tells Tells Tells Tells primary_step select_step call_step chain_step choice_step expr_step lvalue_step operand_step term_step

abbrev pub select_told : Select → Tells
select_told = fold-Select Tells Tells Tells Tells Tells Tells Tells Tells Tells primary_step select_step call_step chain_step choice_step expr_step lvalue_step operand_step term_step

abbrev pub call_told : Call → Tells
call_told = fold-Call Tells Tells Tells Tells Tells Tells Tells Tells Tells primary_step select_step call_step chain_step choice_step expr_step lvalue_step operand_step term_step

abbrev pub chain_told : Chain → Tells
chain_told = fold-Chain Tells Tells Tells Tells Tells Tells Tells Tells Tells primary_step select_step call_step chain_step choice_step expr_step lvalue_step operand_step term_step

abbrev pub choice_told : Choice → Tells
choice_told = fold-Choice Tells Tells Tells Tells Tells Tells Tells Tells Tells primary_step select_step call_step chain_step choice_step expr_step lvalue_step operand_step term_step

abbrev pub expr_told : Expr → Tells
expr_told = fold-Expr Tells Tells Tells Tells Tells Tells Tells Tells Tells primary_step select_step call_step chain_step choice_step expr_step lvalue_step operand_step term_step

abbrev pub lvalue_told : Lvalue → Tells
lvalue_told = fold-Lvalue Tells Tells Tells Tells Tells Tells Tells Tells Tells primary_step select_step call_step chain_step choice_step expr_step lvalue_step operand_step term_step

abbrev pub operand_told : Operand → Tells
operand_told = fold-Operand Tells Tells Tells Tells Tells Tells Tells Tells Tells primary_step select_step call_step chain_step choice_step expr_step lvalue_step operand_step term_step

abbrev pub term_told : Term → Tells
term_told = fold-Term Tells Tells Tells Tells Tells Tells Tells Tells Tells primary_step select_step call_step chain_step choice_step expr_step lvalue_step operand_step term_step

-- What statements tell.
use Rattle.std.specs.Prelude.{not, option_map}
use Rattle.dpi_grammar.specs.Told.{◌&◌, noted, kept, deeper, each, maybe, elses, words_in}
use Rattle.dpi_grammar.specs.Parser.{first}
use Rattle.c_tree.specs.declared.class.Class.TheVariants as classes
use Rattle.c_tree.specs.declared.expr.CExpr.{CExpr}
use Rattle.c_tree.specs.declared.statements.Start.{Start}
use Rattle.c_tree.specs.declared.statements.Start.TheVariants as starts
use Rattle.c_tree.specs.declared.statements.Stmt.{Stmt, fold-Stmt}
use Rattle.c_tree.specs.declared.statements.Block.{Block, fold-Block}
use Rattle.c_tree.specs.declared.statements.Part.{Part, fold-Part}
use Rattle.c_tree.specs.declared.statements.Else.{Else, fold-Else}
use Rattle.c_tree.specs.declared.statements.ElseIf.{ElseIf, fold-ElseIf}
use Rattle.c_tree.specs.declared.statements.If.{If, fold-If}
use Rattle.c_tree.specs.declared.statements.Part.TheOpen.{Stmt-F, Block-F, Else-F, ElseIf-F, If-F, Part-F}
use Rattle.c_tree.specs.Classes.{is}
use Rattle.c_tree.specs.Leaves.{Tells, quoted}
use Rattle.c_tree.specs.Expressions.{expr_told}
use Rattle.c_tree.specs.Declarations.{variables_told}

-- "(" expr ")" behind a keyword
abbrev pub condition_told : CExpr → Tells
condition_told e = quoted classes.OpenParen & expr_told e & quoted classes.CloseParen

-- vardecl | expr? ";"
abbrev pub start_told : Start → Tells
start_told (starts.Variables v) = variables_told v
start_told (starts.Expr e) = maybe (option_map expr_told e) & quoted classes.Semicolon

-- ---- productions, with what each part tells in its place

abbrev pub stmt_step : Stmt-F Tells Tells Tells Tells Tells Tells → Tells
stmt_step (Stmt-F.Empty k) = noted k & quoted classes.Semicolon
stmt_step (Stmt-F.Block b) = b
stmt_step (Stmt-F.Expr e) = expr_told e & quoted classes.Semicolon
stmt_step (Stmt-F.If i) = i
stmt_step (Stmt-F.While k e s) = deeper (noted k & quoted classes.While & condition_told e & s)
stmt_step (Stmt-F.Do k s j e) = deeper (noted k & quoted classes.Do & s & noted j & quoted classes.While & condition_told e & quoted classes.Semicolon)
stmt_step (Stmt-F.For k a e c s) =
    deeper (noted k & quoted classes.For & quoted classes.OpenParen & start_told a & maybe (option_map expr_told e) & quoted classes.Semicolon & maybe (option_map expr_told c) & quoted classes.CloseParen & s)
stmt_step (Stmt-F.Return k e) = noted k & quoted classes.Return & maybe (option_map expr_told e) & quoted classes.Semicolon
stmt_step (Stmt-F.Break k) = noted k & quoted classes.Break & quoted classes.Semicolon
stmt_step (Stmt-F.Continue k) = noted k & quoted classes.Continue & quoted classes.Semicolon

-- "{" (vardecl | stmt)* "}"
abbrev pub block_step : Block-F Tells Tells Tells Tells Tells Tells → Tells
block_step b = deeper (noted b.token & quoted classes.OpenBrace & each b.parts & noted b.end & quoted classes.CloseBrace)

-- vardecl | stmt
abbrev pub part_step : Part-F Tells Tells Tells Tells Tells Tells → Tells
part_step (Part-F.Variables v) = variables_told v
part_step (Part-F.Stmt s) = s

-- "else" "if" "(" expr ")" stmt
abbrev pub else_if_step : ElseIf-F Tells Tells Tells Tells Tells Tells → Tells
else_if_step p = noted p.token & quoted classes.Else & quoted classes.If & condition_told p.condition & p.body

-- "else" stmt, where the statement isn't an `if`
abbrev pub else_step : Else-F Tells Tells Tells Tells Tells Tells → Tells
else_step e = noted e.token & quoted classes.Else & kept (not (is classes.If (first (words_in e.body.atoms)))) & e.body

-- "if" "(" expr ")" stmt ("else" "if" "(" expr ")" stmt)* ("else" stmt)?
abbrev pub if_step : If-F Tells Tells Tells Tells Tells Tells → Tells
if_step i = deeper (noted i.token & quoted classes.If & condition_told i.condition & i.body & elses i.body.unended i.others i.last)

abbrev pub stmt_told : Stmt → Tells
stmt_told = fold-Stmt Tells Tells Tells Tells Tells Tells part_step stmt_step block_step else_step else_if_step if_step

abbrev pub block_told : Block → Tells
block_told = fold-Block Tells Tells Tells Tells Tells Tells part_step stmt_step block_step else_step else_if_step if_step

abbrev pub part_told : Part → Tells
part_told = fold-Part Tells Tells Tells Tells Tells Tells part_step stmt_step block_step else_step else_if_step if_step

abbrev pub else_if_told : ElseIf → Tells
else_if_told = fold-ElseIf Tells Tells Tells Tells Tells Tells part_step stmt_step block_step else_step else_if_step if_step

abbrev pub if_told : If → Tells
if_told = fold-If Tells Tells Tells Tells Tells Tells part_step stmt_step block_step else_step else_if_step if_step

abbrev pub else_told : Else → Tells
else_told = fold-Else Tells Tells Tells Tells Tells Tells part_step stmt_step block_step else_step else_if_step if_step

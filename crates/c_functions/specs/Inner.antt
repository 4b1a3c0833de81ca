-- The `extern` declarations of variables inside of functions (ISO C 6.8.2 and 6.8.5.3).
use Rattle.std.specs.Prelude.{Bool, true, false, if◌then◌else◌, unwrap_or, Option, Some, None, List, [], ◌∷◌, ◌++◌, map, flat_map}
use denote.Ref.{Bor}
use Rattle.c_tree.specs.declared.declarations.StoreKind.{StoreKind}
use Rattle.c_tree.specs.declared.declarations.StoreKind.TheVariants as stores
use Rattle.c_tree.specs.declared.declarations.Store.{Store}
use Rattle.c_tree.specs.declared.declarations.Variables.{Variables}
use Rattle.c_tree.specs.declared.statements.Start.{Start}
use Rattle.c_tree.specs.declared.statements.Start.TheVariants as starts
use Rattle.c_tree.specs.declared.statements.Stmt.{Stmt, fold-Stmt}
use Rattle.c_tree.specs.declared.statements.Block.{Block, fold-Block}
use Rattle.c_tree.specs.declared.statements.Part.{Part, fold-Part}
use Rattle.c_tree.specs.declared.statements.Else.{Else, fold-Else}
use Rattle.c_tree.specs.declared.statements.ElseIf.{ElseIf, fold-ElseIf}
use Rattle.c_tree.specs.declared.statements.If.{If, fold-If}
use Rattle.c_tree.specs.declared.statements.Part.TheOpen.{Stmt-F, Block-F, Else-F, ElseIf-F, If-F, Part-F}

-- declarations, in text order
abbrev pub Vs : Type 0
Vs = List Variables

-- what the code keeps of them
abbrev pub seen : List (Bor Variables) → Vs
seen vs = map (λ (v : Bor Variables). v.now) vs

abbrev pub is_extern_kind : StoreKind → Bool
is_extern_kind stores.Static = false
is_extern_kind stores.Extern = true

abbrev pub is_extern : Option Store → Bool
is_extern None = false
is_extern (Some store) = is_extern_kind store.kind

-- a declaration, where it is `extern`
abbrev pub extern_of : Variables → Vs
extern_of v = if is_extern v.store then v ∷ [] else []

-- what a `for` begins with
abbrev pub start_externs : Start → Vs
start_externs (starts.Variables v) = extern_of v
start_externs (starts.Expr e) = []

-- in turn
abbrev pub in_turn : List Vs → Vs
in_turn = flat_map (λ vs. vs)

-- ---- statements, with what is inside each part of theirs

abbrev pub stmt_step : Stmt-F Vs Vs Vs Vs Vs Vs → Vs
stmt_step (Stmt-F.Empty k) = []
stmt_step (Stmt-F.Block b) = b
stmt_step (Stmt-F.Expr e) = []
stmt_step (Stmt-F.If i) = i
stmt_step (Stmt-F.While k e s) = s
stmt_step (Stmt-F.Do k s j e) = s
stmt_step (Stmt-F.For k a e c s) = start_externs a ++ s
stmt_step (Stmt-F.Return k e) = []
stmt_step (Stmt-F.Break k) = []
stmt_step (Stmt-F.Continue k) = []

abbrev pub block_step : Block-F Vs Vs Vs Vs Vs Vs → Vs
block_step b = in_turn b.parts

abbrev pub part_step : Part-F Vs Vs Vs Vs Vs Vs → Vs
part_step (Part-F.Variables v) = extern_of v
part_step (Part-F.Stmt s) = s

abbrev pub else_if_step : ElseIf-F Vs Vs Vs Vs Vs Vs → Vs
else_if_step p = p.body

abbrev pub else_step : Else-F Vs Vs Vs Vs Vs Vs → Vs
else_step e = e.body

abbrev pub if_step : If-F Vs Vs Vs Vs Vs Vs → Vs
if_step i = i.body ++ in_turn i.others ++ unwrap_or i.last []

-- ---- the `extern` declarations inside of each kind of statement

abbrev pub in_stmt : Stmt → Vs
in_stmt = fold-Stmt Vs Vs Vs Vs Vs Vs part_step stmt_step block_step else_step else_if_step if_step

abbrev pub in_block : Block → Vs
in_block = fold-Block Vs Vs Vs Vs Vs Vs part_step stmt_step block_step else_step else_if_step if_step

abbrev pub in_part : Part → Vs
in_part = fold-Part Vs Vs Vs Vs Vs Vs part_step stmt_step block_step else_step else_if_step if_step

abbrev pub in_else_if : ElseIf → Vs
in_else_if = fold-ElseIf Vs Vs Vs Vs Vs Vs part_step stmt_step block_step else_step else_if_step if_step

abbrev pub in_else : Else → Vs
in_else = fold-Else Vs Vs Vs Vs Vs Vs part_step stmt_step block_step else_step else_if_step if_step

abbrev pub in_if : If → Vs
in_if = fold-If Vs Vs Vs Vs Vs Vs part_step stmt_step block_step else_step else_if_step if_step

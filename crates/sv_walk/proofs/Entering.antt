-- What a block and a `for` violate, inside the scope that they enter and leave.
use Rattle.std.proofs.Common.{◌≡◌, List, [], ◌∷◌, ◌++◌, flat_map, refl, sym, ap, ◌∙◌, Option}
use Rattle.dpi_rules.specs.declared.violation.Violation.{Violation}
use Rattle.dpi_rules.specs.Least.{noted}
use Rattle.dpi_rules.proofs.Noting.{noted_both}
use Rattle.sv_tree.specs.declared.expr.Expr.{Expr}
use Rattle.sv_tree.specs.declared.statements.Change.{Change}
use Rattle.sv_tree.specs.declared.statements.Start.{Start}
use Rattle.sv_tree.specs.declared.statements.Start.TheVariants as starts
use Rattle.sv_tree.specs.declared.statements.Stmt.{Stmt}
use Rattle.sv_tree.specs.declared.statements.Block.{Block, out-Block}
use Rattle.sv_names.specs.Names.{Names, no_names}
use Rattle.sv_names.specs.Declaring.{Declared, IsDeclared, with_all, seconds}
use Rattle.sv_names.specs.Declarations.{block_declares, start_declares}
use Rattle.sv_walk.specs.declared.around.Around.{Around}
use Rattle.sv_walk.specs.Around.{inside, env}
use Rattle.sv_walk.specs.Declarations.{variables_violations}
use Rattle.sv_walk.specs.Changes.{head_violations}
use Rattle.sv_walk.specs.Walk.{in_stmt, in_stmts, in_block, in_body, for_violations}
use Rattle.sv_walk.proofs.Trees.{block_is}
use Rattle.sv_walk.proofs.Walking.{Leaves}

-- the scopes behind one that is left
abbrev pub LeavesInnermost : List Names → List Names → Type 0
LeavesInnermost scopes scopes' = (outer : List Names) (inner : Names) → scopes ≡ outer ++ inner ∷ [] → scopes' ≡ outer

-- one scope more, with these declarations
abbrev pub one_more : List Names → List Declared → List Names
one_more scopes ds = scopes ++ with_all no_names ds ∷ []

entered : (scopes scopes1 : List Names) (names : Names) (ds : List Declared) → names ≡ with_all no_names ds → scopes1 ≡ scopes ++ names ∷ [] → scopes1 ≡ one_more scopes ds
entered scopes scopes1 names ds n e = e ∙ ap (λ m. scopes ++ m ∷ []) n

pub block_says : (a : Around) (b : Block) (scopes scopes1 scopes2 scopes3 : List Names) (names : Names) (found found1 found2 found3 : Option Violation)
    → IsDeclared a.file (block_declares b) no_names found names found1
    → scopes1 ≡ scopes ++ names ∷ []
    → found2 ≡ noted found1 (flat_map (variables_violations (env (inside a scopes1))) (out-Block b).variables)
    → Leaves scopes1 found2 (in_stmts (out-Block b).statements (inside a scopes1)) scopes2 found3
    → LeavesInnermost scopes2 scopes3
    → Leaves scopes found (in_block b (inside a scopes)) scopes3 found3
block_says a b scopes scopes1 scopes2 scopes3 names found found1 found2 found3 d e vs ss out =
    let ds = block_declares b in
    let o = out-Block b in
    let there = entered scopes scopes1 names ds d.names_are e in
    let i = inside a (one_more scopes ds) in
    let variables : found2 ≡ noted found1 (flat_map (variables_violations (env i)) o.variables) =
    vs ∙ ap (λ s. noted found1 (flat_map (variables_violations (env (inside a s))) o.variables)) there in
    let statements : found3 ≡ noted found2 (in_stmts o.statements i) = ss.1 ∙ ap (λ s. noted found2 (in_stmts o.statements (inside a s))) there in (
      out scopes names (ss.0 ∙ e),
      noted_both found (seconds a.file no_names ds) (in_body o.variables o.statements i) d.found_are
          (noted_both found1 (flat_map (variables_violations (env i)) o.variables) (in_stmts o.statements i) variables statements)
          ∙ ap (noted found) (sym (block_is b (inside a scopes))),
    )

-- a `for` declares one name at most
no_second : (a : Around) (start : Start) → seconds a.file no_names (start_declares start) ≡ []
no_second a (starts.Declare type n k e) = refl
no_second a (starts.Assign l k e) = refl

pub for_says : (a : Around) (start : Start) (condition : Expr) (change : Change) (body : Stmt) (scopes scopes1 scopes2 scopes3 : List Names) (names : Names) (found found1 found2 found3 : Option Violation)
    → IsDeclared a.file (start_declares start) no_names found names found1
    → scopes1 ≡ scopes ++ names ∷ []
    → found2 ≡ noted found1 (head_violations (env (inside a scopes1)) start condition change)
    → Leaves scopes1 found2 (in_stmt body (inside a scopes1)) scopes2 found3
    → LeavesInnermost scopes2 scopes3
    → Leaves scopes found (for_violations start condition change body (inside a scopes)) scopes3 found3
for_says a start condition change body scopes scopes1 scopes2 scopes3 names found found1 found2 found3 d e h s out =
    let ds = start_declares start in
    let there = entered scopes scopes1 names ds d.names_are e in
    let i = inside a (one_more scopes ds) in
    let same : found1 ≡ found = d.found_are ∙ ap (noted found) (no_second a start) in
    let head : found2 ≡ noted found (head_violations (env i) start condition change) =
    h ∙ ap (λ f. noted f (head_violations (env (inside a scopes1)) start condition change)) same ∙ ap (λ z. noted found (head_violations (env (inside a z)) start condition change)) there in
    let inner : found3 ≡ noted found2 (in_stmt body i) = s.1 ∙ ap (λ z. noted found2 (in_stmt body (inside a z))) there in (
      out scopes names (s.0 ∙ e),
      noted_both found (head_violations (env i) start condition change) (in_stmt body i) head inner,
    )

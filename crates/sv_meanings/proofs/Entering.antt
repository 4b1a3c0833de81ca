-- What a block and a `for` tell, inside the scope that they enter and leave.
use Rattle.std.proofs.Common.{◌≡◌, List, [], ◌∷◌, ◌++◌, flat_map, sym, ap, ◌∙◌}
use Rattle.sv_tree.specs.declared.expr.Expr.{Expr}
use Rattle.sv_tree.specs.declared.statements.Change.{Change}
use Rattle.sv_tree.specs.declared.statements.Start.{Start}
use Rattle.sv_tree.specs.declared.statements.Stmt.{Stmt}
use Rattle.sv_tree.specs.declared.statements.Block.{Block, out-Block}
use Rattle.sv_names.specs.Names.{Names, no_names}
use Rattle.sv_names.specs.Declaring.{Declared, with_all}
use Rattle.sv_names.specs.Declarations.{block_declares, start_declares}
use Rattle.sv_walk.specs.declared.around.Around.{Around}
use Rattle.sv_walk.specs.Around.{inside, env}
use Rattle.sv_meanings.specs.Places.{Facts}
use Rattle.sv_meanings.specs.Declarations.{variables_facts}
use Rattle.sv_meanings.specs.Changes.{head_facts}
use Rattle.sv_meanings.specs.Statements.{label_facts, in_stmt, in_stmts, in_block, in_body, in_for}
use Rattle.sv_meanings.proofs.Adding.{both_added}
use Rattle.sv_meanings.proofs.Trees.{block_is}
use Rattle.sv_meanings.proofs.Walking.{Leaves}

-- the scopes behind one that is left
abbrev pub LeavesInnermost : List Names → List Names → Type 0
LeavesInnermost scopes scopes' = (outer : List Names) (inner : Names) → scopes ≡ outer ++ inner ∷ [] → scopes' ≡ outer

-- one scope more, with these declarations
abbrev pub one_more : List Names → List Declared → List Names
one_more scopes ds = scopes ++ with_all no_names ds ∷ []

pub entered : (scopes scopes1 : List Names) (names : Names) (ds : List Declared) → names ≡ with_all no_names ds → scopes1 ≡ scopes ++ names ∷ [] → scopes1 ≡ one_more scopes ds
entered scopes scopes1 names ds n e = e ∙ ap (λ m. scopes ++ m ∷ []) n

pub block_says : (a : Around) (b : Block) (scopes scopes1 scopes2 scopes3 : List Names) (names : Names) (list list1 list2 list3 : Facts)
    → list1 ≡ list ++ label_facts (out-Block b).label
    → names ≡ with_all no_names (block_declares b)
    → scopes1 ≡ scopes ++ names ∷ []
    → list2 ≡ list1 ++ flat_map (variables_facts (env (inside a scopes1))) (out-Block b).variables
    → Leaves scopes1 list2 (in_stmts (out-Block b).statements (inside a scopes1)) scopes2 list3
    → LeavesInnermost scopes2 scopes3
    → Leaves scopes list (in_block b (inside a scopes)) scopes3 list3
block_says a b scopes scopes1 scopes2 scopes3 names list list1 list2 list3 l n e vs ss out =
    let ds = block_declares b in
    let o = out-Block b in
    let there = entered scopes scopes1 names ds n e in
    let i = inside a (one_more scopes ds) in
    let variables : list2 ≡ list1 ++ flat_map (variables_facts (env i)) o.variables =
    vs ∙ ap (λ s. list1 ++ flat_map (variables_facts (env (inside a s))) o.variables) there in
    let statements : list3 ≡ list2 ++ in_stmts o.statements i = ss.1 ∙ ap (λ s. list2 ++ in_stmts o.statements (inside a s)) there in (
      out scopes names (ss.0 ∙ e),
      both_added list list1 list3 (label_facts o.label) (in_body o.variables o.statements i) l
          (both_added list1 list2 list3 (flat_map (variables_facts (env i)) o.variables) (in_stmts o.statements i) variables statements)
          ∙ ap (λ fs. list ++ fs) (sym (block_is b (inside a scopes))),
    )

pub for_says : (a : Around) (start : Start) (condition : Expr) (change : Change) (body : Stmt) (scopes scopes1 scopes2 scopes3 : List Names) (names : Names) (list list1 list2 : Facts)
    → names ≡ with_all no_names (start_declares start)
    → scopes1 ≡ scopes ++ names ∷ []
    → list1 ≡ list ++ head_facts (env (inside a scopes1)) start condition change
    → Leaves scopes1 list1 (in_stmt body (inside a scopes1)) scopes2 list2
    → LeavesInnermost scopes2 scopes3
    → Leaves scopes list (in_for start condition change body (inside a scopes)) scopes3 list2
for_says a start condition change body scopes scopes1 scopes2 scopes3 names list list1 list2 n e h s out =
    let ds = start_declares start in
    let there = entered scopes scopes1 names ds n e in
    let i = inside a (one_more scopes ds) in
    let head : list1 ≡ list ++ head_facts (env i) start condition change =
    h ∙ ap (λ z. list ++ head_facts (env (inside a z)) start condition change) there in
    let inner : list2 ≡ list1 ++ in_stmt body i = s.1 ∙ ap (λ z. list1 ++ in_stmt body (inside a z)) there in (
      out scopes names (s.0 ∙ e),
      both_added list list1 list2 (head_facts (env i) start condition change) (in_stmt body i) head inner,
    )

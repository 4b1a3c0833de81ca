use Rattle.std.proofs.Common.{◌≡◌, ◌∙◌, sym, ap, List, [], ◌++◌}
use Rattle.std.specs.Prelude.{flat_map, unwrap_or, option_map}
use Rattle.sv_tree.specs.declared.statements.If.{out-If}
use Rattle.sv_names.specs.Names.{names_of}
use Rattle.sv_names.specs.Blocks.{stmt_blocks, item_blocks, else_if_blocks, else_blocks, if_blocks}
use Rattle.sv_names.specs.Declaring.{Declared, Declares, IsDeclared}
use Rattle.sv_names.proofs.DeclaredLists.{declared_none, declared_both, declares_both, declaring_next}
use Rattle.sv_names.proofs.BlockLists.{case_blocks, branch_blocks, item_body, else_if_body, else_body}
use Rattle.sv_names.proofs.blocks.+blocks.Goals as goal

pub declare_blocks-returns-in-Case : goal.declare_blocks-returns-in-Case
declare_blocks-returns-in-Case t c =
    let is = ap stmt_blocks c.in-Case.is ∙ case_blocks c.in-Case.field-0 c.in-Case.field-1 c.in-Case.items ∙ ap (flat_map item_blocks) (sym c.as_slice.ensures) in
    rw is c.declare_items.ensures

pub declare_if-returns-in-None : goal.declare_if-returns-in-None
declare_if-returns-in-None t c =
    let others = rw c.as_slice.ensures at c.in_ok-declare_others.ensures in
    let is = branch_blocks c.args.branches.now ∙ ap (λ l. stmt_blocks (out-If c.args.branches.now).body ++ flat_map else_if_blocks (out-If c.args.branches.now).others ++ unwrap_or (option_map else_blocks l) []) c.in-None.is in
    rw is (declared_both (declared_both c.in_ok-declare_blocks.ensures others) (declared_none c.args.file (names_of c.declare_others.new.scope) c.declare_others.new.found))

pub declare_if-returns-in-Some : goal.declare_if-returns-in-Some
declare_if-returns-in-Some t c =
    let others = rw c.as_slice.ensures at c.in_ok-declare_others.ensures in
    let is = branch_blocks c.args.branches.now ∙ ap (λ l. stmt_blocks (out-If c.args.branches.now).body ++ flat_map else_if_blocks (out-If c.args.branches.now).others ++ unwrap_or (option_map else_blocks l) []) c.in-Some.is in
    let last = ap else_blocks (sym c.get.ensures) ∙ else_body c.get.result.now in
    rw is (declares_both (else_blocks c.in-Some.last) _ _ c.declare_blocks-in-Some.result (declared_both c.in_ok-declare_blocks.ensures others) (rw last c.declare_blocks-in-Some.ensures))

pub declare_items-loop-item-preserved : goal.declare_items-loop-item-preserved
declare_items-loop-item-preserved t c =
    declaring_next item_blocks c.args.items.now c.loop-item.item-index c.item-item.result c.loop-item-test.true c.item-item.is (item_body c.item-item.result) c.in_ok-declare_blocks.ensures c.loop-item.invariant

pub declare_others-loop-other-preserved : goal.declare_others-loop-other-preserved
declare_others-loop-other-preserved t c =
    declaring_next else_if_blocks c.args.others.now c.loop-other.other-index c.other-item.result c.loop-other-test.true c.other-item.is (else_if_body c.other-item.result) c.in_ok-declare_blocks.ensures c.loop-other.invariant
